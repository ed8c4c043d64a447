use Rattle.std.specs.Prelude.{length}
use Rattle.monomial_order.specs.Monomial.{IsMultiple}
use Rattle.word_laws.specs.laws.Reducible.{multiple_closed}
use Rattle.word_rewriting.specs.laws.NormalForms.{word_normal_form, form_least, difference_shows}
use Rattle.word_rewriting.specs.laws.Complete.{form_factors}
use Rattle.word_rewriting.proofs.normal_forms.Goals as goal

pub returns-clause-exist : goal.returns-clause-exist
returns-clause-exist g Z L R H rules = word_normal_form (IsMultiple Z) L H R rules

pub returns-clause-least : goal.returns-clause-least
returns-clause-least g Z L R c H rules generates = form_least (IsMultiple Z) L H R rules (multiple_closed (length L.degrees) Z) c generates

pub returns-clause-factors : goal.returns-clause-factors
returns-clause-factors g Z L R c H rules generates = form_factors (IsMultiple Z) L H R rules Z (multiple_closed (length L.degrees) Z) c generates

pub returns-clause-missed : goal.returns-clause-missed
returns-clause-missed g Z L R H rules = difference_shows (IsMultiple Z) L H R rules (multiple_closed (length L.degrees) Z)

use Rattle.std.specs.Prelude.{length}
use Rattle.monomial_order.specs.Monomial.{IsMultiple}
use Rattle.word_laws.specs.laws.Reducible.{multiple_closed, multiple_decided}
use Rattle.word_rewriting.specs.laws.Complete.{zero_multiples, complete_generates, generates_complete, complete_exactly, closed_exactly, minimal_exactly, reduced_exactly, divisors_generate}
use Rattle.word_rewriting.specs.laws.Existence.{rules_exist}
use Rattle.word_rewriting.proofs.criterion.Goals as goal

pub returns-clause-exact : goal.returns-clause-exact
returns-clause-exact g Z L R H rules h c = (
  complete_generates (IsMultiple Z) L H R rules Z c (zero_multiples L Z h c),
  generates_complete (IsMultiple Z) L H R rules Z (multiple_closed (length L.degrees) Z) c (zero_multiples L Z h c),
)

pub returns-clause-twice : goal.returns-clause-twice
returns-clause-twice g Z L R H rules h d bound =
    complete_exactly (IsMultiple Z) L H R rules Z (multiple_closed (length L.degrees) Z) d (zero_multiples L Z h) bound

pub returns-clause-closed : goal.returns-clause-closed
returns-clause-closed g Z L R H rules h d bound =
    closed_exactly (IsMultiple Z) L H R rules Z (multiple_closed (length L.degrees) Z) d (zero_multiples L Z h) bound

pub returns-clause-exist : goal.returns-clause-exist
returns-clause-exist g Z L H = rules_exist (IsMultiple Z) L H (multiple_closed (length L.degrees) Z) (multiple_decided (length L.degrees) Z)

pub returns-clause-minimal : goal.returns-clause-minimal
returns-clause-minimal g Z L R c H rules generates = minimal_exactly (IsMultiple Z) L H R rules Z (multiple_closed (length L.degrees) Z) c generates

pub returns-clause-divisors : goal.returns-clause-divisors
returns-clause-divisors g Z L R c H rules generates = divisors_generate (IsMultiple Z) L H R rules Z c generates

pub returns-clause-reduced : goal.returns-clause-reduced
returns-clause-reduced g Z L R c H rules generates = reduced_exactly (IsMultiple Z) L H R rules Z (multiple_closed (length L.degrees) Z) c generates

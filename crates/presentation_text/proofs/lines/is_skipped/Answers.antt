use Rattle.std.proofs.Common.{refl}
use Rattle.polynomial_text.specs.laws.Fronts.{nothing_left, first_and_rest}
use Rattle.presentation_text.proofs.lines.is_skipped.Goals as goal

pub returns-in-empty : goal.returns-in-empty
returns-in-empty c = rw (← c.behind_blanks.ensures, nothing_left c.behind_blanks.result.now c.in-empty.len_below) refl

pub returns-in-len1-up : goal.returns-in-len1-up
returns-in-len1-up c = rw (← c.behind_blanks.ensures, first_and_rest c.behind_blanks.result.now c.in-len1-up.len_at_least) refl

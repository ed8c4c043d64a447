use Rattle.std.proofs.Common.{◌≡◌, true}
use Rattle.polynomial_text.proofs.LinePlaces.{not_plain, not_text, parsed_some, parsed_none}
use Rattle.polynomial_text.proofs.named_place.number.Goals as goal

pub returns-then-not-is_plain-clause-none : goal.returns-then-not-is_plain-clause-none
returns-then-not-is_plain-clause-none c = λ none. not_plain c.args.digits.now (λ h. let yes : c.is_plain.result ≡ true = c.is_plain.ensures.1 h in absurd cc)

pub returns-in-Ok-clause-some : goal.returns-in-Ok-clause-some
returns-in-Ok-clause-some c =
    rw c.ok.ensures.value (parsed_some c.args.digits.now c.parse.result (c.is_plain.ensures.0 c.if-not-is_plain.false) (rw c.in-Ok.ensures.cases.0 at c.parse.ensures.value.0))

pub returns-in-Ok-clause-none : goal.returns-in-Ok-clause-none
returns-in-Ok-clause-none c =
    rw c.ok.ensures.value (parsed_none c.args.digits.now c.parse.result (c.is_plain.ensures.0 c.if-not-is_plain.false) (rw c.in-Ok.ensures.cases.0 at c.parse.ensures.value.0))

pub returns-in-Err-clause-none : goal.returns-in-Err-clause-none
returns-in-Err-clause-none c = λ none. not_text c.args.digits.now c.in-Err.ensures.cases.0

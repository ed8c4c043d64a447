-- What a presentation asks of a polynomial, judged on a sum of terms over a field.
use Rattle.std.specs.Prelude.{ℕ, List, [], ◌∷◌, map, filter, Bool, true, not, ◌==◌, Result, Ok, Err, nat_eq, if◌then◌else◌}
use Rattle.std.specs.List.{list_all, list_any}
use Rattle.word_field.specs.Field.{FieldOps}
use Rattle.monomial_order.specs.MonomialOrder.{MonomialOrder}
use Rattle.polynomials.specs.Polynomial.{Polynomial, coefficient}
use Rattle.presentation_text.specs.declared.text_kind.TextKind.{TextKind}
use Rattle.presentation_text.specs.declared.text_kind.TextKind.TheVariants.{NotHomogeneous}

-- the degrees of the terms at whose monomials the coefficient of the sum is not zero, whose number is 0
abbrev pub degrees : {E : Type 0} → FieldOps E → MonomialOrder → Polynomial E → List ℕ
degrees K O sum = map (λ t. O.degree t.at) (filter (λ t. not (K.word (coefficient K sum t.at) == 0)) sum)

-- they are all the same
abbrev pub is_one_degree : List ℕ → Bool
is_one_degree [] = true
is_one_degree (d ∷ ds) = list_all (nat_eq d) ds

-- zero, or homogeneous of a positive degree; else the fault, of which one is for a constant
unfoldable pub judged : {E : Type 0} → FieldOps E → MonomialOrder → TextKind → Polynomial E → Result (Polynomial E) TextKind
judged K O constant sum =
    if is_one_degree (degrees K O sum) then (if list_any (λ d. d == 0) (degrees K O sum) then Err constant else Ok sum)
    else Err NotHomogeneous

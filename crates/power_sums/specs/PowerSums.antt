-- The power sums x1^d + .. + xm^d for d from 1 to m, over the field of 32003 elements.
use Rattle.std.specs.Prelude.{ℕ, List, [], ◌∷◌, ◌++◌, map, replicate, codes}
use Rattle.std.specs.Fmt.{decimal}
use Rattle.std.specs.List.{range_with_len}
use Rattle.word_field.specs.Field.{FieldOps}
use Rattle.word_field.specs.Residues.{residues}
use Rattle.monomial_order.specs.declared.tie_break.Tie.TheVariants.{Lex}
use Rattle.monomial_order.specs.Monomial.{Exponents}
use Rattle.monomial_order.specs.MonomialOrder.{MonomialOrder}
use Rattle.monomial_order.specs.Orders.{weight_order}
use Rattle.monomial_order.specs.Ties.{tie_order}
use Rattle.polynomials.specs.Polynomial.{Polynomial, term_of}
use Rattle.polynomials.specs.Subalgebra.{Presented}

-- the variable at place i to the exponent d: i zeros, then d
abbrev pub power : ℕ → ℕ → Exponents
power i d = replicate i 0 ++ d ∷ []

module _ {E : Type 0} (K : FieldOps E) where
  -- x1^d + .. + xm^d
  abbrev pub power_sum : ℕ → ℕ → Polynomial E
  power_sum m d = map (λ i. term_of (power i d) K.one) (range_with_len 0 m)

  -- these sums for the exponents from 1 to m
  abbrev pub sums_to : ℕ → List (Polynomial E)
  sums_to m = map (power_sum m) (range_with_len 1 m)

-- m variables of weight 1, no rows, and the greater exponent at the first place that differs
abbrev pub unit_order : ℕ → MonomialOrder
unit_order m = weight_order (replicate m 1) [] (tie_order Lex)

-- what the power sums of m variables present; there is no ideal
abbrev pub power_sums : ℕ → Presented ℕ
power_sums m = record { field = residues 32003; order = unit_order m; ideal = []; generators = sums_to (residues 32003) m }

-- x1, .., xm
abbrev pub variable_names : ℕ → List (List ℕ)
variable_names m = map (λ i. codes "x" ++ decimal i) (range_with_len 1 m)

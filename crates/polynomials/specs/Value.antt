-- The value of a polynomial in g1, .., gk at a list of k polynomials.
use Rattle.std.specs.Prelude.{ℕ, suc, zero, ◌≤◌, List, [], ◌∷◌, ◌++◌, map, All}
use Rattle.word_field.specs.Field.{FieldOps}
use Rattle.monomial_order.specs.Limits.{exponent_max}
use Rattle.monomial_order.specs.declared.terms.Term.{Term}
use Rattle.monomial_order.specs.Monomial.{Exponents, weighted_degree}
use Rattle.monomial_order.specs.MonomialOrder.{MonomialOrder}
use Rattle.polynomials.specs.Polynomial.{Polynomial, times, constant, degree_of}

module _ {E : Type 0} (K : FieldOps E) where
  abbrev pub power : Polynomial E → ℕ → Polynomial E
  power p zero = constant K K.one
  power p (suc e) = times K p (power p e)

  -- the value of a monomial: the product of the powers
  abbrev pub monomial_value : Exponents → List (Polynomial E) → Polynomial E
  monomial_value [] fs = constant K K.one
  monomial_value (e ∷ m) [] = constant K K.one
  monomial_value (e ∷ m) (f ∷ fs) = times K (power f e) (monomial_value m fs)

  -- the value of a term
  abbrev pub term_value : List (Polynomial E) → Term E → Polynomial E
  term_value fs t = times K (constant K t.by) (monomial_value t.at fs)

  -- the value of a polynomial
  abbrev pub value : Polynomial E → List (Polynomial E) → Polynomial E
  value [] fs = []
  value (t ∷ h) fs = term_value fs t ++ value h fs

module _ {E : Type 0} (O : MonomialOrder) (fs : List (Polynomial E)) where
  -- the degree of the value of a monomial at decreasing lists: the sum of exponent times degree
  abbrev pub value_degree : Exponents → ℕ
  value_degree m = weighted_degree (map (degree_of O) fs) m

  -- the program can compute with the values of the terms of h
  abbrev pub HasSmallValue : Polynomial E → Type 0
  HasSmallValue h = All (λ t. value_degree t.at ≤ exponent_max) h

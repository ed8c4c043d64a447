-- Polynomials as formal sums of terms: several terms may have the same monomial, in any order.
use Rattle.std.specs.Prelude.{◌≡◌, ◌≢◌, ℕ, ◌≤◌, ◌⊎◌, List, [], ◌∷◌, ◌++◌, map, nat_eq, Bool, if◌then◌else◌}
use Rattle.std.specs.declared.cmp.Ordering.TheVariants.{Less}
use lib.Pointwise.{pointwise}
use Rattle.word_field.specs.Field.{FieldOps, IsValue}
use Rattle.monomial_order.specs.Limits.{exponent_max}
use Rattle.monomial_order.specs.declared.terms.Term.{Term}
use Rattle.monomial_order.specs.Monomial.{Exponents, product, IsMonomial}
use Rattle.monomial_order.specs.MonomialOrder.{MonomialOrder}

-- a sum of terms
abbrev pub Polynomial : Type 0 → Type 0
Polynomial E = List (Term E)

-- two lists of exponents are the same
abbrev pub same_monomial : Exponents → Exponents → Bool
same_monomial = pointwise nat_eq

abbrev pub term_of : {E : Type 0} → Exponents → E → Term E
term_of m c = record { at = m; by = c }

module _ {E : Type 0} (K : FieldOps E) where
  -- the sum of f x over the members x of a list
  abbrev pub total : {A : Type 0} → (A → E) → List A → E
  total f [] = K.zero
  total f (x ∷ xs) = K.plus (f x) (total f xs)

  -- what a term gives to the coefficient of m
  abbrev pub share : Exponents → Term E → E
  share m t = if same_monomial t.at m then t.by else K.zero

  -- the coefficient of m: the sum over the terms at m
  unfoldable pub coefficient : Polynomial E → Exponents → E
  coefficient p m = total (share m) p

  -- equal polynomials have the same coefficient at every monomial
  abbrev pub Same : Polynomial E → Polynomial E → Type 0
  Same p q = (m : Exponents) → coefficient p m ≡ coefficient q m

  -- the product of two terms
  abbrev pub term_times : Term E → Term E → Term E
  term_times t u = term_of (product t.at u.at) (K.times t.by u.by)

  -- the product of a term and a polynomial
  abbrev pub scaled : Term E → Polynomial E → Polynomial E
  scaled t q = map (term_times t) q

  -- the product: the products of all pairs of terms
  abbrev pub times : Polynomial E → Polynomial E → Polynomial E
  times [] q = []
  times (t ∷ p) q = scaled t q ++ times p q

  -- the constant c
  abbrev pub constant : E → Polynomial E
  constant c = term_of [] c ∷ []

  -- the coefficient of the first term, and 0 for the empty list
  abbrev pub first_coefficient : Polynomial E → E
  first_coefficient [] = K.zero
  first_coefficient (t ∷ p) = t.by

  -- p with every coefficient negated
  abbrev pub negated : Polynomial E → Polynomial E
  negated p = map (λ t. term_of t.at (K.negate t.by)) p

  abbrev pub minus : Polynomial E → Polynomial E → Polynomial E
  minus p q = p ++ negated q

  -- a polynomial in n places
  pub record IsTerm (n : ℕ) (t : Term E) : Type 0 where
    pub monomial : IsMonomial n t.at
    pub value : IsValue K t.by

  abbrev pub IsPoly : ℕ → Polynomial E → Type 0
  IsPoly n [] = Unit {0}
  IsPoly n (t ∷ p) = IsTerm n t × IsPoly n p

  module _ (O : MonomialOrder) where
    -- every term of p is at a smaller monomial than m
    abbrev pub IsBelow : Exponents → Polynomial E → Type 0
    IsBelow m [] = Unit {0}
    IsBelow m (t ∷ p) = (O.compare t.at m ≡ Less) × IsBelow m p

    -- a nonzero term that is greater than all terms of p
    pub record IsLeadTerm (t : Term E) (p : Polynomial E) : Type 0 where
      pub term : IsTerm O.places t
      pub nonzero : t.by ≢ K.zero
      pub above : IsBelow t.at p

    -- the canonical form: terms with nonzero coefficients at decreasing monomials
    abbrev pub IsDecreasing : Polynomial E → Type 0
    IsDecreasing [] = Unit {0}
    IsDecreasing (t ∷ p) = IsLeadTerm t p × IsDecreasing p

    -- m is the lead of p: the greatest monomial with a nonzero coefficient
    pub record IsLead (p : Polynomial E) (m : Exponents) : Type 0 where
      pub nonzero : coefficient p m ≢ K.zero
      pub greatest : (n : Exponents) → coefficient p n ≢ K.zero → n ≢ m → O.compare n m ≡ Less

    -- p is not zero, and each of its monomials has the degree d
    pub record IsHomogeneous (d : ℕ) (p : Polynomial E) : Type 0 where
      pub some : (m : Exponents) × (coefficient p m ≢ K.zero)
      pub each : (m : Exponents) → coefficient p m ≢ K.zero → O.degree m ≡ d

    -- p has no monomials, or they all have one degree
    abbrev pub IsZeroOrHomogeneous : Polynomial E → Type 0
    IsZeroOrHomogeneous p = Same p [] ⊎ ((d : ℕ) × IsHomogeneous d p)

    -- d is the greatest degree of a monomial of p
    pub record IsDegree (d : ℕ) (p : Polynomial E) : Type 0 where
      pub some : (m : Exponents) × (coefficient p m ≢ K.zero) × (O.degree m ≡ d)
      pub greatest : (m : Exponents) → coefficient p m ≢ K.zero → O.degree m ≤ d

    -- q has the coefficients of p at the monomials of degree d, and no others
    pub record IsComponent (d : ℕ) (p q : Polynomial E) : Type 0 where
      pub inside : (m : Exponents) → O.degree m ≡ d → coefficient q m ≡ coefficient p m
      pub outside : (m : Exponents) → O.degree m ≢ d → coefficient q m ≡ K.zero

-- each degree is one that the program computes with
abbrev pub IsSmall : {E : Type 0} → MonomialOrder → Polynomial E → Type 0
IsSmall O [] = Unit {0}
IsSmall O (t ∷ p) = (O.degree t.at ≤ exponent_max) × IsSmall O p

-- a decreasing list whose degrees the program computes with
pub record IsCanonical {E : Type 0} (K : FieldOps E) (O : MonomialOrder) (p : Polynomial E) : Type 0 where
  pub decreasing : IsDecreasing K O p
  pub small : IsSmall O p

-- the lead of a decreasing list: the monomial of its first term, and 1 for the empty list
abbrev pub lead_monomial : {E : Type 0} → Polynomial E → Exponents
lead_monomial [] = []
lead_monomial (t ∷ p) = t.at

-- the degree of a decreasing list, and 0 for the empty list
abbrev pub degree_of : {E : Type 0} → MonomialOrder → Polynomial E → ℕ
degree_of O p = O.degree (lead_monomial p)

module _ {E : Type 0} where
  -- P holds of the monomial of each term
  abbrev pub AllAt : (List ℕ → Type 0) → Polynomial E → Type 0
  AllAt P [] = Unit {0}
  AllAt P (t ∷ p) = P t.at × AllAt P p

  -- the terms of degree d
  abbrev pub component : MonomialOrder → ℕ → Polynomial E → Polynomial E
  component O d [] = []
  component O d (t ∷ p) = if nat_eq (O.degree t.at) d then t ∷ component O d p else component O d p

-- a term whose degree the program can compute
pub record IsMeasured {E : Type 0} (O : MonomialOrder) (t : Term E) : Type 0 where
  pub monomial : IsMonomial O.places t.at
  pub small : O.degree t.at ≤ exponent_max

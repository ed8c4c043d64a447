-- What the calls give that read a polynomial line from left to right.
use Rattle.std.specs.Prelude.{◌≡◌, ◌≤◌, ◌<◌, ℕ, List, [], ◌∷◌, Bool, ◌==◌, Option, Some, None, Result, Ok, Err, nat_le, if◌then◌else◌}
use Rattle.std.specs.List.{slice_split, flat_map}
use Rattle.word_field.specs.Field.{FieldOps, IsValue}
use Rattle.monomial_order.specs.declared.terms.Term.{Term}
use Rattle.monomial_order.specs.Monomial.{IsMonomial}
use Rattle.monomial_order.specs.MonomialOrder.{MonomialOrder}
use Rattle.polynomials.specs.Polynomial.{Polynomial, term_of, IsCanonical}
use Rattle.polynomial_text.specs.declared.line_fault.LineKind.{LineKind}
use Rattle.polynomial_text.specs.declared.line_fault.LineKind.TheVariants.{DegreeTooLarge}
use Rattle.polynomial_text.specs.declared.line_fault.LineFault.{LineFault}
use Rattle.polynomial_text.specs.declared.factor.Factor.{Factor}
use Rattle.monomial_order.specs.Limits.{degree_max}
use Rattle.polynomial_text.specs.Results.{◌>>=◌}
use Rattle.polynomial_text.specs.Canonical.{IsLineFaultOf}
use Rattle.polynomial_text.specs.PolyLine.{power, number_at, signed_parts}

-- what a call returned, seen by view, is what reading gives, unless memory ran out
abbrev pub Gives : {X Y K : Type 0} → (X → Y) → Result X (LineFault K) → Result Y K → Type 0
Gives view (Ok x) read = read ≡ Ok (view x)
Gives view (Err e) read = IsLineFaultOf read e

-- the parts between `*`, of bytes and of what is left behind a part
abbrev pub factor_parts : List ℕ → List (List ℕ)
factor_parts bytes = slice_split (λ b. b == 42) bytes

abbrev pub factor_parts_left : Option (List ℕ) → List (List ℕ)
factor_parts_left None = []
factor_parts_left (Some bytes) = factor_parts bytes

-- the parts between signs of what is left behind a part
abbrev pub signed_parts_left : Option (Bool × List ℕ) → List (Bool × List ℕ)
signed_parts_left None = []
signed_parts_left (Some x) = signed_parts x.0 x.1

-- a monomial of a degree of at most degree_max
pub record IsSmallMonomial (O : MonomialOrder) (m : List ℕ) : Type 0 where
  pub monomial : IsMonomial O.places m
  pub small : O.degree m ≤ degree_max

-- a monomial, if its degree is at most degree_max
unfoldable pub low : MonomialOrder → List ℕ → Result (List ℕ) LineKind
low O m = if nat_le (O.degree m) degree_max then Ok m else Err DegreeTooLarge

-- a term, if its degree is at most degree_max
unfoldable pub bounded : {E : Type 0} → MonomialOrder → Term E → Result (Term E) LineKind
bounded O t = if nat_le (O.degree t.at) degree_max then Ok t else Err DegreeTooLarge

-- a factor as a term
abbrev pub factor_term : {E : Type 0} → Factor E → Term E
factor_term x = term_of (power x.place x.exponent) x.by

-- the element of the field of the number at the front of the bytes
abbrev pub constant_at : {E : Type 0} → FieldOps E → List ℕ → Result (Term E × List ℕ) LineKind
constant_at K bytes = number_at bytes >>= λ n. Ok (term_of [] (K.of_word n.0), n.1)

module _ {E : Type 0} (K : FieldOps E) (O : MonomialOrder) where
  -- the place is one of the order, unless the exponent is 0
  pub record IsFactor (x : Factor E) : Type 0 where
    pub value : IsValue K x.by
    pub place : 1 ≤ x.exponent → x.place < O.places

  -- a term of a degree of at most degree_max
  pub record IsSmallTerm (t : Term E) : Type 0 where
    pub at : IsSmallMonomial O t.at
    pub value : IsValue K t.by

  -- each polynomial is canonical
  abbrev pub AreCanonical : List (Polynomial E) → Type 0
  AreCanonical [] = Unit {0}
  AreCanonical (p ∷ ps) = IsCanonical K O p × AreCanonical ps

-- all terms of polynomials
abbrev pub terms_together : {E : Type 0} → List (Polynomial E) → Polynomial E
terms_together ps = flat_map (λ p. p) ps

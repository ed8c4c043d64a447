-- Polynomials in which letters of elements are replaced by their witnesses.
use Rattle.std.specs.Prelude.{◌≢◌, ℕ, ◌+◌, ◌-◌, ◌≤◌, List, [], ◌++◌, length, get_or}
use Rattle.monomial_order.specs.Monomial.{Exponents, exponent, variable}
use Rattle.monomial_order.specs.MonomialOrder.{MonomialOrder}
use Rattle.polynomials.specs.Polynomial.{Polynomial, AllAt, IsCanonical}
use Rattle.polynomials.specs.Ideal.{Congruent}
use Rattle.polynomials.specs.Value.{value}
use Rattle.polynomials.specs.Subalgebra.{Presented}
use Rattle.witness.specs.Tracking.{HasDegreesUpTo, IsGraded}

-- the letters of elements in m have degrees of at most b: ds are the degrees of all letters, of which k are no elements
abbrev pub UsesUpTo : ℕ → List ℕ → ℕ → Exponents → Type 0
UsesUpTo k ds b m = (i : ℕ) → exponent m (k + i) ≢ 0 → get_or ds (k + i) 0 ≤ b

module _ {E : Type 0} (P : Presented E) (W : MonomialOrder) (S : List (Polynomial E)) where
  -- e has the value of h and no other degrees
  pub record IsReplaced (h e : Polynomial E) : Type 0 where
    pub canonical : IsCanonical P.field W e
    pub value : Congruent P.field P.order.places P.ideal
        (value P.field h (P.generators ++ S)) (value P.field e (P.generators ++ S))
    pub degrees : (d : ℕ) → HasDegreesUpTo P.field W d h → HasDegreesUpTo P.field W d e
    pub graded : (d : ℕ) → IsGraded P.field W d h → IsGraded P.field W d e

  -- a has the value and the degree of the letter at the place i, and uses letters of elements below the degree d if that
  -- letter is one to this degree
  pub record IsReplacement (ds : List ℕ) (d i : ℕ) (a : Polynomial E) : Type 0 where
    pub canonical : IsCanonical P.field W a
    pub graded : IsGraded P.field W (get_or ds i 0) a
    pub value : Congruent P.field P.order.places P.ideal
        (get_or (P.generators ++ S) i []) (value P.field a (P.generators ++ S))
    pub lower : UsesUpTo (length P.generators) ds d (variable i) →
        AllAt (UsesUpTo (length P.generators) ds (d - 1)) a

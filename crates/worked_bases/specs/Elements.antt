-- Elements with their witnesses, over presentations that tests read.
use Rattle.std.specs.Prelude.{◌≡◌, ◌≢◌, ℕ, ◌<◌, All, List, ◌++◌, get_or}
use Rattle.word_field.specs.Residues.{residues}
use Rattle.word_field.specs.declared.WordField.{WordField}
use Rattle.monomial_order.specs.Monomial.{Exponents, exponent}
use Rattle.monomial_order.specs.declared.weight_order.WeightOrder.{WeightOrder}
use Rattle.monomial_order.specs.declared.word_order.WordOrder.{WordOrder}
use Rattle.poly_core.specs.Presentation.{weight_order_of}
use Rattle.poly_core.specs.declared.presentations.Presentation.{Presentation}
use Rattle.polynomials.specs.Polynomial.{Polynomial, degree_of}
use Rattle.polynomial_text.specs.Degrees.{IsLow}
use Rattle.worked_rows.specs.Rings.{IsIn, IsLowIn}
use Rattle.witness.specs.Tracking.{by_order, values_of, IsCanonicalPair, IsGradedPair, IsTrackedElement, IsWitnessOrder, Tracks}
use Rattle.witness.specs.declared.tracked.Tracked.{Tracked}
use Rattle.worked_bases.specs.Rings.{of_ring}

-- the letters in m have degrees below d
abbrev pub UsesBelow : List ℕ → ℕ → Exponents → Type 0
UsesBelow degrees d m = (i : ℕ) → exponent m i ≢ 0 → get_or degrees i 0 < d

module _ (p : Presentation WordField WeightOrder ℕ) where
  -- a generator with its letter: an element over each list of elements in each order for it
  pub record IsGeneratorElement (t : Tracked WordField ℕ) : Type 0 where
    pub value : IsIn p t.value
    pub low : IsLowIn p t.value
    pub each : (S : List (Polynomial ℕ)) (w : WordOrder) → IsWitnessOrder (of_ring p) S w →
        IsTrackedElement (of_ring p) (by_order w) S t

  -- what expand asks for
  pub record IsBasis (w : WordOrder) (s : List (Tracked WordField ℕ)) : Type 0 where
    pub order : IsWitnessOrder (of_ring p) (values_of s) w
    pub elements : All (IsTrackedElement (of_ring p) (by_order w) (values_of s)) s

  module _ (w : WordOrder) where
    -- both parts are canonical
    abbrev pub IsPair : Tracked WordField ℕ → Type 0
    IsPair t = IsCanonicalPair (residues p.field.modulus) (weight_order_of p.order) (by_order w) t

    -- no monomial has a degree above 30000
    pub record IsLowPair (t : Tracked WordField ℕ) : Type 0 where
      pub value : IsLowIn p t.value
      pub by : IsLow (by_order w) t.by

    -- a witness, and both parts homogeneous of degree d, over each list of elements that begins with fs
    pub record IsMade (fs : List (Polynomial ℕ)) (d : ℕ) (t : Tracked WordField ℕ) : Type 0 where
      pub tracks : (more : List (Polynomial ℕ)) → IsWitnessOrder (of_ring p) (fs ++ more) w → Tracks (of_ring p) (fs ++ more) t
      pub graded : (more : List (Polynomial ℕ)) → IsWitnessOrder (of_ring p) (fs ++ more) w →
          IsGradedPair (residues p.field.modulus) (weight_order_of p.order) (by_order w) d t

    -- an element of degree d over each list of elements that begins with fs
    pub record IsNext (fs : List (Polynomial ℕ)) (d : ℕ) (t : Tracked WordField ℕ) : Type 0 where
      pub degree : degree_of (weight_order_of p.order) t.value ≡ d
      pub element : (more : List (Polynomial ℕ)) → IsWitnessOrder (of_ring p) (fs ++ more) w →
          IsTrackedElement (of_ring p) (by_order w) (fs ++ more) t

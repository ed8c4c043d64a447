-- What can be subduced, and what subduction leaves.
use Rattle.std.specs.Prelude.{ℕ, ◌≤◌, ◌⊎◌, [], ◌∷◌, ◌++◌, length, map, replicate, drop}
use Rattle.monomial_order.specs.Limits.{degree_max}
use Rattle.monomial_order.specs.Monomial.{Exponents}
use Rattle.word_laws.specs.Words.{word_order_of}
use Rattle.polynomials.specs.Polynomial.{Polynomial, term_of, degree_of, minus, IsCanonical, Same}
use Rattle.polynomials.specs.Subalgebra.{Presented}
use Rattle.subalgebra_laws.specs.Words.{HasSumAndRest}
use Rattle.witness.specs.declared.tracked.Tracked.{Tracked}
use Rattle.witness.specs.Tracking.{by_order, values_of, HasDegreesUpTo, IsCanonicalPair, IsGraded, IsGradedPair, Tracks}
use Rattle.subduction.specs.declared.subduction.Subduced.{Subduced}
use Rattle.subduction.specs.Basis.{BasisState, IsKnownClosed}

-- these exponents at the places from k on
abbrev pub places_from : ℕ → Exponents → Exponents
places_from k [] = []
places_from k (e ∷ w) = replicate k 0 ++ (e ∷ w)

-- an s-word as a word of witnesses: the letter s_i at the place n + i becomes the letter at the place k + i
abbrev pub witness_word : ℕ → ℕ → Exponents → Exponents
witness_word n k w = places_from k (drop n w)

-- a sum of s-words over the elements as a witness
abbrev pub witness_sum : {E : Type 0} → Presented E → Polynomial E → Polynomial E
witness_sum P e = map (λ t. term_of (witness_word P.order.places (length P.generators) t.at) t.by) e

module _ {F E : Type 0} (P : Presented E) (b : BasisState F E) where
  -- the basis knows all to the degree of a, or in every degree
  abbrev pub IsInReach : Polynomial E → Type 0
  IsInReach a = (degree_of P.order a ≤ b.words.degree) ⊎ IsKnownClosed b

  -- both parts are in canonical form, and the basis reaches the value
  pub record CanSubduce (t : Tracked F E) : Type 0 where
    pub canonical : IsCanonicalPair P.field P.order (by_order b.by_order) t
    pub reach : IsInReach t.value
    pub small : degree_of P.order t.value ≤ degree_max

  -- Modulo the ideal, the value of t is that of a sum of irreducible s-words and a rest of standard monomials that are
  -- no products of leads. The witness of the rest is that of t less the sum.
  pub record IsSubduced (t : Tracked F E) (r : Subduced F E) : Type 0 where
    pub parts : HasSumAndRest P (values_of b.elements) t.value r.word_sum r.rest.value
    pub by : Same P.field r.rest.by (minus P.field t.by (witness_sum P r.word_sum))
    pub canonical : IsCanonicalPair P.field P.order (by_order b.by_order) r.rest
    pub canonical_sum : IsCanonical P.field (word_order_of b.words.letters) r.word_sum
    pub tracks : Tracks P (values_of b.elements) t → Tracks P (values_of b.elements) r.rest
    pub graded : (d : ℕ) → IsGradedPair P.field P.order (by_order b.by_order) d t →
        IsGradedPair P.field P.order (by_order b.by_order) d r.rest
    pub graded_sum : (d : ℕ) → IsGraded P.field P.order d t.value →
        IsGraded P.field (word_order_of b.words.letters) d r.word_sum
    pub degrees : (d : ℕ) → HasDegreesUpTo P.field P.order d t.value →
        HasDegreesUpTo P.field P.order d r.rest.value ×
        HasDegreesUpTo P.field (word_order_of b.words.letters) d r.word_sum

-- The degrees of generators.
use Rattle.std.proofs.Common.{◌≡◌, ◌≢◌, ℕ, zero, suc, ◌<◌, ◌≤◌, ◌⊎◌, inl, inr, List, [], ◌∷◌, length, get_or, sym, subst, ◌∙◌, arith}
use Rattle.word_field.specs.Field.{FieldOps, IsField}
use Rattle.monomial_order.specs.declared.terms.Term.{Term}
use Rattle.monomial_order.specs.MonomialOrder.{MonomialOrder, IsMonomialOrder}
use Rattle.polynomials.specs.Polynomial.{Polynomial, coefficient, IsHomogeneous}
use Rattle.polynomials.specs.laws.Decreasing.{coefficient_first}
use Rattle.monomial_order.specs.Limits.{degree_max}
use Rattle.poly_core.specs.Presentation.{IsCanonicalGenerator, AreCanonicalGenerators}

pub generator_at : {E : Type 0} (K : FieldOps E) (O : MonomialOrder) (fs : List (Polynomial E)) (i : ℕ) (d : Polynomial E) → AreCanonicalGenerators K O fs → i < length fs → IsCanonicalGenerator K O (get_or fs i d)
generator_at K O [] i d h lt = absurd (omega arith)
generator_at K O (f ∷ fs) zero d h lt = h.0
generator_at K O (f ∷ fs) (suc i) d h lt = generator_at K O fs i d h.1 (omega arith)

module _ {E : Type 0} (K : FieldOps E) (F : IsField K) (O : MonomialOrder) (L : IsMonomialOrder O) where
  pub first_degree : (p rest : Polynomial E) (t : Term E) → p ≡ t ∷ rest → IsCanonicalGenerator K O p → (1 ≤ O.degree t.at) × (O.degree t.at ≤ degree_max)
  first_degree [] rest t split h = absurd cc
  first_degree (s ∷ q) rest t split h =
      let same : s ≡ t = cc in
      subst (λ (u : Term E). (1 ≤ O.degree u.at) × (O.degree u.at ≤ degree_max)) same (by h.homogeneous)
    where
      nonzero : coefficient K (s ∷ q) s.at ≢ K.zero
      nonzero z = h.canonical.decreasing.0.nonzero (sym (coefficient_first K F O L s q h.canonical.decreasing.0) ∙ z)

      by : ((s ∷ q) ≡ []) ⊎ ((d : ℕ) × (1 ≤ d) × (d ≤ degree_max) × IsHomogeneous K O d (s ∷ q)) → (1 ≤ O.degree s.at) × (O.degree s.at ≤ degree_max)
      by (inl e) = absurd cc
      by (inr r) = let d = r.3.each s.at nonzero in (omega (arith, d, r.1), omega (arith, d, r.2))

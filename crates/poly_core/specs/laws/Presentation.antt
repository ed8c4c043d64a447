-- Polynomials as the program keeps them make a presentation, and a copy presents the same.
use Rattle.std.proofs.Common.{◌≡◌, ℕ, sym, ap, inl, inr, ⊎_elim, List, [], ◌∷◌}
use Rattle.word_field.specs.Field.{FieldOps, IsField}
use Rattle.monomial_order.specs.declared.weight_order.WeightOrder.{WeightOrder}
use Rattle.monomial_order.specs.MonomialOrder.{MonomialOrder, IsMonomialOrder}
use Rattle.monomial_order.specs.Orders.{weight_order}
use Rattle.monomial_order.specs.Ties.{tie_order}
use Rattle.poly_core.specs.declared.presentations.Presentation.{Presentation}
use Rattle.polynomials.specs.Polynomial.{Polynomial, coefficient, IsDecreasing, IsPoly}
use Rattle.polynomials.specs.Subalgebra.{IsGenerator, AreGenerators, IsPresentation}
use Rattle.poly_core.specs.Presentation.{IsCanonicalGenerator, AreCanonicalGenerators, IsCanonicalList, presented, weight_order_of, IsSame}

module _ {E : Type 0} (K : FieldOps E) (O : MonomialOrder) where
  decreasing_poly : (p : Polynomial E) → IsDecreasing K O p → IsPoly K O.places p
  decreasing_poly [] h = tt
  decreasing_poly (t ∷ p) h = (h.0.term, decreasing_poly p h.1)

  no_coefficient : (f : Polynomial E) → f ≡ [] → (m : List ℕ) → coefficient K f m ≡ K.zero
  unfolding coefficient
  no_coefficient f e m = ap (λ p. coefficient K p m) e

  canonical_generator : (f : Polynomial E) → IsCanonicalGenerator K O f → IsGenerator K O f
  canonical_generator f h = record {
    poly = decreasing_poly f h.canonical.decreasing;
    homogeneous = ⊎_elim (λ e. inl (no_coefficient f e)) (λ r. inr (r.0, r.1, r.3)) h.homogeneous;
  }

  canonical_generators : (fs : List (Polynomial E)) → AreCanonicalGenerators K O fs → AreGenerators K O fs
  canonical_generators [] h = tt
  canonical_generators (f ∷ fs) h = (canonical_generator f h.0, canonical_generators fs h.1)

  -- what is left to know of a presentation is its parts
  pub canonical_presentation : IsField K → IsMonomialOrder O → (ideal generators : List (Polynomial E)) → IsCanonicalList K O ideal → IsCanonicalList K O generators →
      IsPresentation (record { field = K; order = O; ideal = ideal; generators = generators })
  canonical_presentation F L ideal generators hi hg = record { field = F; order = L; ideal = canonical_generators ideal hi.each; generators = canonical_generators generators hg.each }

-- what is the same presents the same
module _ {F E : Type 0} (ops : F → FieldOps E) (p q : Presentation F WeightOrder E) (s : IsSame p q) where
  same_order : weight_order_of p.order ≡ weight_order_of q.order
  same_order = λ i. weight_order ((sym s.weights) i) ((sym s.rows) i) (tie_order ((sym s.tie) i))

  pub same_presented : presented ops weight_order_of p ≡ presented ops weight_order_of q
  same_presented = λ i. record { field = ops ((sym s.field) i); order = same_order i; ideal = (sym s.ideal) i; generators = (sym s.generators) i }

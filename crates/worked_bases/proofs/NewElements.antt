-- What subduction leaves of a generator may be the next element.
use Rattle.std.proofs.Common.{◌≡◌, ◌≢◌, ◌≤◌, ℕ, sym, subst, inl, [], arith}
use Rattle.word_field.specs.Residues.{residues}
use Rattle.word_field.specs.declared.WordField.{WordField}
use Rattle.monomial_order.specs.declared.weight_order.WeightOrder.{WeightOrder}
use Rattle.poly_core.specs.Presentation.{weight_order_of}
use Rattle.poly_core.specs.declared.presentations.Presentation.{Presentation}
use Rattle.polynomials.specs.Polynomial.{Polynomial, degree_of, IsCanonical}
use Rattle.witness.specs.Tracking.{by_order, values_of, IsGradedPair, IsTrackedElement}
use Rattle.witness.specs.declared.tracked.Tracked.{Tracked}
use Rattle.worked_rows.specs.Rings.{IsIn}
use Rattle.subduction.specs.Basis.{BasisState, IsBasisOf, IsNewElement}
use Rattle.subduction.specs.Subduced.{CanSubduce, IsSubduced}
use Rattle.subduction.specs.declared.subduction.Subduced.{Subduced}
use Rattle.worked_bases.specs.Elements.{IsGeneratorElement}
use Rattle.worked_bases.specs.Rings.{of_ring}

module _ (p : Presentation WordField WeightOrder ℕ) (b : BasisState WordField ℕ) where
  module _ (B : IsBasisOf (of_ring p) b) (t : Tracked WordField ℕ) (g : IsGeneratorElement p t) (d : degree_of (weight_order_of p.order) t.value ≡ b.words.degree) where
    element : IsTrackedElement (of_ring p) (by_order b.by_order) (values_of b.elements) t
    element = g.each (values_of b.elements) b.by_order B.by_order

    pub generator_can : degree_of (weight_order_of p.order) t.value ≤ 30000 → CanSubduce (of_ring p) b t
    generator_can l = record {
      canonical = element.canonical;
      reach = inl (omega arith);
      small = l;
    }

    pub rest_is_new : (s : Subduced WordField ℕ) → IsSubduced (of_ring p) b t s → s.rest.value ≢ [] → IsNewElement (of_ring p) b s.rest
    rest_is_new s h n = record {
      tracks = h.tracks element.tracks;
      canonical = h.canonical;
      nonzero = n;
      graded = h.graded b.words.degree (subst (λ k. IsGradedPair (residues p.field.modulus) (weight_order_of p.order) (by_order b.by_order) k t) d element.graded);
      reduced = h.parts.reduced;
    }

  -- a polynomial with no witness
  pub polynomial_can : (a none : Polynomial ℕ) → none ≡ [] → IsIn p a → degree_of (weight_order_of p.order) a ≤ b.words.degree → degree_of (weight_order_of p.order) a ≤ 30000 →
      CanSubduce (of_ring p) b (record { value = a; by = none })
  polynomial_can a none e c r l = record {
    canonical = record { value = c; by = subst (IsCanonical (residues p.field.modulus) (by_order b.by_order)) (sym e) (record { decreasing = tt; small = tt }) };
    reach = inl r;
    small = l;
  }

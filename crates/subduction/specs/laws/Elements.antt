-- The elements of a basis.
use Rattle.std.proofs.Common.{subst, List}
use Rattle.std.specs.Prelude.{Contains}
use Rattle.std.proofs.lemmas.List.Elements.{All-contains}
use Rattle.monomial_order.specs.Monomial.{IsMonomial}
use Rattle.monomial_order.specs.laws.Lists.{map_contains}
use Rattle.polynomials.specs.Polynomial.{Polynomial, lead_monomial}
use Rattle.polynomials.specs.Subalgebra.{Presented, IsPresentation}
use Rattle.polynomials.specs.laws.Coefficients.{decreasing_leads, found_monomial, monic_some}
use Rattle.polynomials.specs.laws.Decreasing.{IsDecreasing_IsPoly}
use Rattle.subalgebra_laws.specs.Bases.{AreMonicElements, IsMonicElement}
use Rattle.witness.specs.Tracking.{values_of}
use Rattle.word_values.specs.Values.{AreHomogeneousElements, IsHomogeneousElement}
use Rattle.subduction.specs.Basis.{BasisState, IsBasisElement, IsBasisOf}

module _ {F E : Type 0} (P : Presented E) (H : IsPresentation P) (b : BasisState F E) (B : IsBasisOf P b) where
  abbrev S : List (Polynomial E)
  S = values_of b.elements

  pub monic_elements : AreMonicElements P S
  monic_elements s k =
      let r = map_contains (λ t. t.value) b.elements s k in
      subst (λ x. IsMonicElement P x) r.2 (All-contains (IsBasisElement P b) b.elements r.0 B.elements r.1).monic

  pub homogeneous_elements : AreHomogeneousElements P S
  homogeneous_elements s k =
      let r = map_contains (λ t. t.value) b.elements s k in
      let t = r.0 in
      let e = All-contains (IsBasisElement P b) b.elements t B.elements r.1 in
      subst (λ x. IsHomogeneousElement P x) r.2 (record {
        canonical = e.tracked.canonical.value;
        homogeneous = record {
          some = (lead_monomial t.value, (decreasing_leads P.field H.field P.order H.order t.value e.monic.decreasing (monic_some P.field H.field P.order H.order t.value e.monic.monic)).nonzero);
          each = e.tracked.graded.value;
        };
        positive = e.monic.positive;
        standard = e.standard;
      })

  pub leads_monomials : (s : Polynomial E) → Contains S s → IsMonomial P.order.places (lead_monomial s)
  leads_monomials s k =
      let m = monic_elements s k in
      found_monomial P.field H.field P.order H.order s (IsDecreasing_IsPoly P.field P.order s m.decreasing) (lead_monomial s)
      (decreasing_leads P.field H.field P.order H.order s m.decreasing (monic_some P.field H.field P.order H.order s m.monic)).nonzero

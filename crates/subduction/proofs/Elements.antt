-- Facts of a basis.
use Rattle.std.proofs.Common.{◌≡◌, ◌∙◌, ap, subst, length}
use Rattle.std.specs.Prelude.{Contains}
use Rattle.std.proofs.lemmas.List.{length-map}
use Rattle.monomial_order.specs.Monomial.{Exponents, IsMonomial, IsMultiple, weighted_degree}
use Rattle.word_laws.specs.Words.{variables}
use Rattle.word_laws.specs.laws.Images.{degree_weighted, length-variables}
use Rattle.polynomials.specs.Subalgebra.{Presented, IsPresentation, IsStandard}
use Rattle.polynomials.specs.laws.NormalForm.{lead_multiple}
use Rattle.subduction.specs.Basis.{BasisState, IsBasisOf}
pub use Rattle.subduction.specs.laws.Elements.{homogeneous_elements, monic_elements}

module _ {F E : Type 0} (P : Presented E) (H : IsPresentation P) (b : BasisState F E) (B : IsBasisOf P b) where
  pub places_is : length b.words.letters.degrees ≡ P.order.places
  places_is = ap (λ L. length L.degrees) B.letters ∙ (length-map (variables 0 P.order.places) P.order.degree ∙ length-variables 0 P.order.places)

  pub degree_is : (m : Exponents) → IsMonomial P.order.places m → weighted_degree b.words.letters.degrees m ≡ P.order.degree m
  degree_is m h = ap (λ L. weighted_degree L.degrees m) B.letters ∙ degree_weighted P.order H.order m h

  pub standard_not_zero : (m : Exponents) → IsStandard P m → ¬ IsMultiple b.words.zeros m
  standard_not_zero m h k =
      let q : Contains b.quotient.leads k.0 = ((B.zeros k.0).0 k.1).0 in
      let l = B.quotient.basis.leads.leads k.0 (subst (λ ms. Contains ms k.0) B.quotient.leads q) in
      h.no_lead (lead_multiple P H k.0 m l h.monomial k.2)

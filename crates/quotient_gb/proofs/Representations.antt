-- Standard representations by more members, and the generators of the ideal.
use Rattle.std.proofs.Common.{◌≡◌, ◌≢◌, ℕ, sym, ◌∙◌, ap, subst, List, [], ◌∷◌, ◌⊎◌, ⊎_elim}
use Rattle.polynomials.specs.laws.Coefficients.{decreasing_leads, nothing_at}
use Rattle.std.specs.Prelude.{Contains}
use Rattle.word_field.specs.Field.{FieldOps}
use Rattle.monomial_order.specs.MonomialOrder.{MonomialOrder}
use Rattle.monomial_order.specs.laws.Lists.{contains_cases, contains_none}
use Rattle.polynomials.specs.Polynomial.{Polynomial, coefficient, IsDecreasing, IsHomogeneous, degree_of, lead_monomial}
use Rattle.poly_core.specs.Presentation.{IsCanonicalGenerator, AreCanonicalGenerators}
use Rattle.polynomials.specs.Subalgebra.{Presented, IsPresentation}
use Rattle.quotient_gb.specs.Combinations.{AtMost, HasStandardRepresentation}
use Rattle.quotient_gb.specs.Criterion.{s_polynomial, HasStandardSPolynomial}
use Rattle.quotient_gb.specs.DegreeStep.{IsPart}
use Rattle.quotient_gb.proofs.Combinations.{combines_more}

module _ {E : Type 0} (P : Presented E) (H : IsPresentation P) where
  pub represented_more : (G G' : List (Polynomial E)) → IsPart G G' → (a : Polynomial E) → HasStandardRepresentation P.field P.order G a → HasStandardRepresentation P.field P.order G' a
  represented_more G G' more a h M l = combines_more P.field H.field P.order H.order G G' more (AtMost P.order M) a (h M l)

  pub s_polynomial_more : (G G' : List (Polynomial E)) → IsPart G G' → (x y : Polynomial E) → HasStandardSPolynomial P.field P.order G x y → HasStandardSPolynomial P.field P.order G' x y
  s_polynomial_more G G' more x y h u v w = represented_more G G' more (s_polynomial P.field u x v y) (h u v w)

  -- a homogeneous decreasing list has the degree of its lead
  pub homogeneous_degree : (r : Polynomial E) (d : ℕ) → IsDecreasing P.field P.order r → IsHomogeneous P.field P.order d r → ((r ≡ []) ⊎ (degree_of P.order r ≢ d)) → ⊥
  homogeneous_degree r d f h n = ⊎_elim some (λ ne. ne (h.each (lead_monomial r) (decreasing_leads P.field H.field P.order H.order r f some).nonzero)) n
    where
      some : r ≢ []
      some e = h.some.1 (ap (λ x. coefficient P.field x h.some.0) e ∙ sym (nothing_at P.field h.some.0))

pub canonical_generator : {E : Type 0} (K : FieldOps E) (O : MonomialOrder) (fs : List (Polynomial E)) → AreCanonicalGenerators K O fs → (x : Polynomial E) → Contains fs x → IsCanonicalGenerator K O x
canonical_generator K O [] h x k = absurd (contains_none x k)
canonical_generator K O (f ∷ fs) h x k = ⊎_elim (λ e. subst (IsCanonicalGenerator K O) e h.0) (λ i. canonical_generator K O fs h.1 x i) (contains_cases f fs x k)

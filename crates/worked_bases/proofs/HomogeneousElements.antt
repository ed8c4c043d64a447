-- Elements that tests make.
use Rattle.std.proofs.Common.{◌≡◌, ◌≤◌, ℕ, sym, ◌∙◌, subst, List, [], ◌∷◌, ◌++◌, ⊎_elim}
use Rattle.std.specs.Prelude.{Contains}
use Rattle.monomial_order.specs.declared.terms.Term.{Term}
use Rattle.monomial_order.specs.laws.Lists.{contains_cases, contains_none, contains_here, contains_there}
use Rattle.polynomials.specs.Polynomial.{Polynomial, IsCanonical, IsHomogeneous, IsZeroOrHomogeneous, IsDegree, lead_monomial}
use Rattle.polynomials.specs.Subalgebra.{Presented, IsPresentation, IsNormalForm}
use Rattle.polynomials.specs.laws.Coefficients.{decreasing_leads, nothing_at}
use Rattle.witness.specs.Tracking.{values_of}
use Rattle.witness.specs.declared.tracked.Tracked.{Tracked}
use Rattle.word_values.specs.Values.{IsHomogeneousElement, AreHomogeneousElements}

module _ {E : Type 0} (P : Presented E) (H : IsPresentation P) where
  -- a nonzero canonical normal form that is homogeneous of positive degree is an element
  pub homogeneous_element : (t : Term E) (rest a : Polynomial E) → IsCanonical P.field P.order (t ∷ rest) → IsNormalForm P a (t ∷ rest) → IsZeroOrHomogeneous P.field P.order (t ∷ rest) →
      1 ≤ P.order.degree t.at → IsHomogeneousElement P (t ∷ rest)
  homogeneous_element t rest a c n z p =
      let lead = (decreasing_leads P.field H.field P.order H.order (t ∷ rest) c.decreasing (λ e. cc)).nonzero in
      record {
        canonical = c;
        homogeneous = ⊎_elim (λ s. absurd (lead (s t.at ∙ sym (nothing_at P.field t.at))))
            (λ h. subst (λ d. IsHomogeneous P.field P.order d (t ∷ rest)) (sym (h.1.each t.at lead)) h.1) z;
        positive = p;
        standard = n.standard;
      }

-- the degree of an element is that of its lead
pub element_degree : {E : Type 0} (P : Presented E) (s : Polynomial E) → IsHomogeneousElement P s → (d : ℕ) → IsDegree P.field P.order d s → d ≡ P.order.degree (lead_monomial s)
element_degree P s h d g = sym g.some.2 ∙ h.homogeneous.each g.some.0 g.some.1

-- one more element at the end
pub homogeneous_more : {F E : Type 0} (P : Presented E) (ts : List (Tracked F E)) (t : Tracked F E) → AreHomogeneousElements P (values_of ts) → IsHomogeneousElement P t.value → AreHomogeneousElements P (values_of (ts ++ t ∷ []))
homogeneous_more P [] t h k s c = ⊎_elim (λ e. subst (IsHomogeneousElement P) e k) (λ n. absurd (contains_none s n)) (contains_cases t.value [] s c)
homogeneous_more P (u ∷ ts) t h k s c =
    ⊎_elim (λ e. h s (subst (Contains (u.value ∷ values_of ts)) e (contains_here u.value (values_of ts))))
    (λ r. homogeneous_more P ts t (λ x m. h x (contains_there u.value (values_of ts) x m)) k s r) (contains_cases u.value (values_of (ts ++ t ∷ [])) s c)

-- Generators of a list that have a degree above c.
use Rattle.std.proofs.Common.{◌≡◌, ℕ, ◌<◌, ◌≤◌, refl, sym, ◌∙◌, ap, subst, List, [], ◌∷◌, ⊎_elim, arith, Option, Some, None}
use Rattle.std.specs.Prelude.{unwrap_or, Contains, IfSome, IsNone}
use Rattle.word_field.specs.Field.{FieldOps}
use Rattle.monomial_order.specs.MonomialOrder.{MonomialOrder}
use Rattle.monomial_order.specs.laws.Comparing.{degree_one}
use Rattle.monomial_order.specs.laws.Lists.{contains_cases, contains_none}
use Rattle.poly_core.specs.Presentation.{AreCanonicalGenerators, IsCanonicalGenerator}
use Rattle.polynomials.specs.Polynomial.{Polynomial, coefficient, degree_of, lead_monomial, IsDecreasing, IsDegree, IsHomogeneous}
use Rattle.polynomials.specs.Subalgebra.{Presented, HasDegreesTo, IsPresentation}
use Rattle.polynomials.specs.laws.Coefficients.{decreasing_leads, nothing_at}

pub member_generator : {E : Type 0} (K : FieldOps E) (O : MonomialOrder) (fs : List (Polynomial E)) → AreCanonicalGenerators K O fs →
    (x : Polynomial E) → Contains fs x → IsCanonicalGenerator K O x
member_generator K O [] h x k = absurd (contains_none x k)
member_generator K O (f ∷ fs) h x k =
    ⊎_elim (λ e. subst (IsCanonicalGenerator K O) e h.0) (λ i. member_generator K O fs h.1 x i) (contains_cases f fs x k)

module _ {E : Type 0} (P : Presented E) (f : Polynomial E) (c : ℕ) where
  -- zero has no monomial
  pub zero_to : f ≡ [] → HasDegreesTo P c f
  zero_to z m n = absurd (n (ap (λ p. coefficient P.field p m) z ∙ sym (nothing_at P.field m)))

  module _ (d : ℕ) (h : IsDegree P.field P.order d f) where
    pub degrees_to : d ≤ c → HasDegreesTo P c f
    degrees_to l m n = let a = h.greatest m n in omega arith

    pub degree_above : IsCanonicalGenerator P.field P.order f → c < d → (e : ℕ) × IsHomogeneous P.field P.order e f × (c < e)
    degree_above g l = ⊎_elim
        (λ z. absurd (h.some.1 (ap (λ p. coefficient P.field p h.some.0) z ∙ sym (nothing_at P.field h.some.0))))
        (λ (e, low, top, k). let a = k.each h.some.0 h.some.1 in let b = h.some.2 in let q : c < e = omega arith in (e, k, q)) g.homogeneous

-- the degree of a polynomial from that of its monomials
pub degree_found : {E : Type 0} (P : Presented E) (H : IsPresentation P) (p : Polynomial E) → IsDecreasing P.field P.order p →
    (o : Option ℕ) → (IsNone o → p ≡ []) → IfSome o (λ d. IsDegree P.field P.order d p) → degree_of P.order p ≤ unwrap_or o 0
degree_found P H p f None z h =
    let e : degree_of P.order p ≡ P.order.degree [] = ap (degree_of P.order) (z refl) in
    let one = degree_one P.order H.order in omega arith
degree_found P H p f (Some d) z h =
    h.greatest (lead_monomial p)
    (decreasing_leads P.field H.field P.order H.order p f
    (λ e. h.some.1 (ap (λ q. coefficient P.field q h.some.0) e ∙ sym (nothing_at P.field h.some.0)))).nonzero

pub if_some : {T : Type 0} (A B : T → Type 0) → ((v : T) → A v → B v) → (o : Option T) → IfSome o A → IfSome o B
if_some A B h None k = tt
if_some A B h (Some v) k = h v k

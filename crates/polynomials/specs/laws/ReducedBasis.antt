-- A reduced basis to a degree is unique.
use Rattle.std.proofs.Common.{◌≡◌, ◌≢◌, ℕ, ◌+◌, ◌<◌, ◌≤◌, refl, sym, ◌∙◌, ap, subst, List, [], ◌∷◌, ◌++◌, arith, ⊎_elim}
use Rattle.std.specs.Prelude.{Contains, map}
use Rattle.std.specs.declared.cmp.Ordering.TheVariants.{Less}
use Rattle.monomial_order.specs.laws.Lists.{contains_cases, contains_here, contains_there, contains_none, map_contains}
use Rattle.monomial_order.specs.Monomial.{Exponents, product}
use Rattle.monomial_order.specs.MonomialOrder.{IsIncreasing}
use Rattle.monomial_order.specs.laws.Monomial.{product_assoc, product-one}
use Rattle.polynomials.specs.Polynomial.{IsPoly, Polynomial, coefficient, Same, minus, IsLead, lead_monomial}
use Rattle.polynomials.specs.Subalgebra.{Presented, IsPresentation, product_of, AllIn, IsGenerated, LeadsSubalgebra, IsStandard, IsElement, IsReducedBasis}
use Rattle.polynomials.specs.laws.Decreasing.{IsDecreasing_IsPoly, IsDecreasing_unique, IsLead_first}
use Rattle.polynomials.specs.laws.Canonical.{zero_or_lead}
use Rattle.polynomials.specs.laws.Congruence.{coefficient-minus, minus_nonzero, minus_poly, minus_zero}
use Rattle.polynomials.specs.laws.Membership.{sub_minus}
use Rattle.monomial_order.specs.laws.Comparing.{not_below_self, degree_one}

-- a list around a member
pub contains_split : {A : Type 0} (xs : List A) (x : A) → Contains xs x → (before : List A) × (after : List A) × (xs ≡ before ++ (x ∷ after))
contains_split [] x h = absurd (contains_none x h)
contains_split (y ∷ xs) x h =
    ⊎_elim (λ e. ([], xs, ap (λ z. z ∷ xs) e)) (λ k. let r = contains_split xs x k in (y ∷ r.0, r.1, ap (λ zs. y ∷ zs) r.2)) (contains_cases y xs x h)

-- a member other than s is around s
pub contains_other : {A B : Type 0} (f : A → B) (before : List A) (s : A) (after : List A) (y : B) →
    Contains (map f (before ++ (s ∷ after))) y → y ≢ f s → Contains (map f (before ++ after)) y
contains_other f [] s after y h ne = ⊎_elim (λ e. absurd (ne (sym e))) (λ k. k) (contains_cases (f s) (map f after) y h)
contains_other f (x ∷ before) s after y h ne =
    ⊎_elim (λ e. subst (λ z. Contains (f x ∷ map f (before ++ after)) z) e (contains_here (f x) (map f (before ++ after))))
    (λ k. contains_there (f x) (map f (before ++ after)) y (contains_other f before s after y k ne)) (contains_cases (f x) (map f (before ++ (s ∷ after))) y h)

-- products of members
AllIn-append : (M ms ns : List Exponents) → AllIn M ms → AllIn M ns → AllIn M (ms ++ ns)
AllIn-append M [] ns h k = k
AllIn-append M (m ∷ ms) ns h k = (h.0, AllIn-append M ms ns h.1 k)

product_of-append : (ms ns : List Exponents) → product_of (ms ++ ns) ≡ product (product_of ms) (product_of ns)
product_of-append [] ns = refl
product_of-append (m ∷ ms) ns = ap (product m) (product_of-append ms ns) ∙ sym (product_assoc m (product_of ms) (product_of ns))

pub generated_times : (M : List Exponents) (a b : Exponents) → IsGenerated M a → IsGenerated M b → IsGenerated M (product a b)
generated_times M a b h k = record {
  factors = h.factors ++ k.factors;
  members = AllIn-append M h.factors k.factors h.members k.members;
  product = product_of-append h.factors k.factors ∙ (ap (λ x. product x (product_of k.factors)) h.product ∙ ap (product a) k.product);
}

module _ {E : Type 0} (P : Presented E) (H : IsPresentation P) (c : ℕ) where
  pub element_IsLead : (s : Polynomial E) → IsElement P c s → IsLead P.field P.order s (lead_monomial s)
  unfolding coefficient
  element_IsLead [] h = absurd (H.field.one_not_zero (sym h.monic))
  element_IsLead (t ∷ p) h = IsLead_first P.field H.field P.order H.order t p h.decreasing

  pub element_leads : (s : Polynomial E) → IsElement P c s → LeadsSubalgebra P (lead_monomial s)
  element_leads s h = record {
    standard = h.standard (lead_monomial s) (element_IsLead s h).nonzero;
    member = s;
    poly = IsDecreasing_IsPoly P.field P.order s h.decreasing;
    inside = h.inside;
    leads = element_IsLead s h;
  }

  module _ (S T : List (Polynomial E)) (HS : IsReducedBasis P c S) (HT : IsReducedBasis P c T) where
    lead_of_T : (m : Exponents) → Contains (map lead_monomial T) m → LeadsSubalgebra P m × (P.order.degree m ≤ c) × (1 ≤ P.order.degree m)
    lead_of_T m h =
        let r = map_contains lead_monomial T m h in
        let e = HT.elements r.0 r.1 in
        subst (λ k. LeadsSubalgebra P k × (P.order.degree k ≤ c) × (1 ≤ P.order.degree k)) r.2 (element_leads r.0 e, e.at_most, e.at_least)

    module _ (before : List (Polynomial E)) (s : Polynomial E) (after : List (Polynomial E)) (around : S ≡ before ++ (s ∷ after)) where
      -- factors of a smaller degree are other leads
      others : (ms : List Exponents) → AllIn (map lead_monomial (before ++ (s ∷ after))) ms → P.order.degree (product_of ms) < P.order.degree (lead_monomial s) →
          AllIn (map lead_monomial (before ++ after)) ms
      others [] h l = tt
      others (m ∷ ms) h l =
          let e : P.order.degree (product m (product_of ms)) ≡ P.order.degree m + P.order.degree (product_of ms) = H.order.degree_product m (product_of ms) in (
            contains_other lead_monomial before s after m h.0 (λ same. let k : P.order.degree m ≡ P.order.degree (lead_monomial s) = ap P.order.degree same in omega arith),
            others ms h.1 (omega arith),
          )

      -- a lead of a smaller degree is a product of other leads
      smaller : (m : Exponents) → LeadsSubalgebra P m → P.order.degree m ≤ c → P.order.degree m < P.order.degree (lead_monomial s) → IsGenerated (map lead_monomial (before ++ after)) m
      smaller m h le lt =
          let g = HS.generates m h le in
          record {
            factors = g.factors;
            members = others g.factors (subst (λ X. AllIn (map lead_monomial X) g.factors) around g.members)
                (let e : P.order.degree (product_of g.factors) ≡ P.order.degree m = ap P.order.degree g.product in omega arith);
            product = g.product;
          }

      smaller_all : (ms : List Exponents) → AllIn (map lead_monomial T) ms → P.order.degree (product_of ms) < P.order.degree (lead_monomial s) → IsGenerated (map lead_monomial (before ++ after)) (product_of ms)
      smaller_all [] h l = record { factors = []; members = tt; product = refl }
      smaller_all (m ∷ ms) h l =
          let e : P.order.degree (product m (product_of ms)) ≡ P.order.degree m + P.order.degree (product_of ms) = H.order.degree_product m (product_of ms) in
          let r = lead_of_T m h.0 in
          generated_times (map lead_monomial (before ++ after)) m (product_of ms) (smaller m r.0 r.1 (omega arith)) (smaller_all ms h.1 (omega arith))

      -- a lead of S is a lead of T
      one_factor : IsElement P c s → (ms : List Exponents) → AllIn (map lead_monomial T) ms → product_of ms ≡ lead_monomial s → Contains (map lead_monomial T) (lead_monomial s)
      one_factor el [] h e = absurd (let z : P.order.degree [] ≡ P.order.degree (lead_monomial s) = ap P.order.degree e in let o = degree_one P.order H.order in let a = el.at_least in omega arith)
      one_factor el (m ∷ []) h e = subst (Contains (map lead_monomial T)) (sym (product-one m) ∙ e) h.0
      one_factor el (m ∷ (k ∷ ms)) h e =
          let d : P.order.degree (product m (product_of (k ∷ ms))) ≡ P.order.degree m + P.order.degree (product_of (k ∷ ms)) = H.order.degree_product m (product_of (k ∷ ms)) in
          let d2 : P.order.degree (product_of (k ∷ ms)) ≡ P.order.degree k + P.order.degree (product_of ms) = H.order.degree_product k (product_of ms) in
          let whole : P.order.degree (product m (product_of (k ∷ ms))) ≡ P.order.degree (lead_monomial s) = ap P.order.degree e in
          let rm = lead_of_T m h.0 in
          let rk = lead_of_T k h.1.0 in
          let pm : 1 ≤ P.order.degree m = rm.2 in
          let pk : 1 ≤ P.order.degree k = rk.2 in
          absurd (HS.minimal before after s around
          (subst (IsGenerated (map lead_monomial (before ++ after))) e
          (generated_times (map lead_monomial (before ++ after)) m (product_of (k ∷ ms)) (smaller m rm.0 rm.1 (omega arith)) (smaller_all (k ∷ ms) h.1 (omega arith)))))

    pub lead_common : (s : Polynomial E) → Contains S s → Contains (map lead_monomial T) (lead_monomial s)
    lead_common s h =
        let r = contains_split S s h in
        let e = HS.elements s h in
        let g = HT.generates (lead_monomial s) (element_leads s e) e.at_most in
        one_factor r.0 s r.1 r.2 e g.factors g.members g.product

  -- two elements with one lead are equal
  difference_zero : (s t : Polynomial E) (m : Exponents) → coefficient P.field s m ≡ coefficient P.field t m → coefficient P.field (minus P.field s t) m ≡ P.field.zero
  difference_zero s t m e = simp (coefficient-minus P.field H.field, e, H.field.plus_negate)

  pub same_lead : (s t : Polynomial E) → IsElement P c s → IsElement P c t → lead_monomial s ≡ lead_monomial t → s ≡ t
  same_lead s t hs ht e =
      IsDecreasing_unique P.field H.field P.order H.order s t hs.decreasing ht.decreasing (⊎_elim equal (λ l. absurd (no_lead l.0 l.1))
      (zero_or_lead P.field H.field P.order H.order (minus P.field s t) poly))
    where
      poly : IsPoly P.field P.order.places (minus P.field s t)
      poly = minus_poly P.field H.field P.order.places s t (IsDecreasing_IsPoly P.field P.order s hs.decreasing) (IsDecreasing_IsPoly P.field P.order t ht.decreasing)

      equal : Same P.field (minus P.field s t) [] → Same P.field s t
      equal z = minus_zero P.field H.field s t z

      no_lead : (m : Exponents) → IsLead P.field P.order (minus P.field s t) m → ⊥
      no_lead m l =
          let differs : m ≢ lead_monomial s = λ same. l.nonzero (difference_zero s t m (ap (coefficient P.field s) same ∙ (hs.monic ∙ (sym ht.monic ∙ (ap (coefficient P.field t) (sym e) ∙ ap (coefficient P.field t) (sym same)))))) in
          let either = minus_nonzero P.field H.field s t m l.nonzero in
          let found : IsStandard P m → ⊥ = λ st. ⊎_elim (λ z. hs.tail m z differs (lead_of st)) (λ w. ht.tail m w (λ same. differs (same ∙ sym e)) (lead_of st)) either in
          ⊎_elim (λ z. found (hs.standard m z)) (λ w. found (ht.standard m w)) either
        where
          lead_of : IsStandard P m → LeadsSubalgebra P m
          lead_of st = record {
            standard = st;
            member = minus P.field s t;
            poly = poly;
            inside = sub_minus P H s t hs.inside ht.inside;
            leads = l;
          }

  -- the leads increase along the list
  rise_all : (s : Polynomial E) (S : List (Polynomial E)) → IsIncreasing P.order (lead_monomial s ∷ map lead_monomial S) → (x : Polynomial E) → Contains S x → P.order.compare (lead_monomial s) (lead_monomial x) ≡ Less
  rise_all s [] h x k = absurd (contains_none x k)
  rise_all s (y ∷ S) h x k =
      ⊎_elim (λ e. subst (λ z. P.order.compare (lead_monomial s) (lead_monomial z) ≡ Less) e h.0)
      (λ r. H.order.total.trans (lead_monomial s) (lead_monomial y) (lead_monomial x) h.0 (rise_all y S h.1 x r)) (contains_cases y S x k)

  rise_tail : (s : Polynomial E) (S : List (Polynomial E)) → IsIncreasing P.order (lead_monomial s ∷ map lead_monomial S) → IsIncreasing P.order (map lead_monomial S)
  rise_tail s [] h = tt
  rise_tail s (y ∷ S) h = h.1

  -- two increasing lists with the same members are equal
  same_members : (S T : List (Polynomial E)) → IsIncreasing P.order (map lead_monomial S) → IsIncreasing P.order (map lead_monomial T) →
      ((x : Polynomial E) → Contains S x → Contains T x) → ((x : Polynomial E) → Contains T x → Contains S x) → S ≡ T
  same_members [] [] hs ht f g = refl
  same_members [] (t ∷ T) hs ht f g = absurd (contains_none t (g t (contains_here t T)))
  same_members (s ∷ S) [] hs ht f g = absurd (contains_none s (f s (contains_here s S)))
  same_members (s ∷ S) (t ∷ T) hs ht f g =
      let heads : s ≡ t = ⊎_elim (λ e. sym e)
      (λ k. ⊎_elim (λ e. e)
      (λ r. absurd (not_below_self P.order H.order (lead_monomial s) (H.order.total.trans (lead_monomial s) (lead_monomial t) (lead_monomial s) (rise_all s S hs t r) (rise_all t T ht s k))))
      (contains_cases s S t (g t (contains_here t T))))
      (contains_cases t T s (f s (contains_here s S))) in
      ap (λ z. z ∷ S) heads ∙ ap (λ Z. t ∷ Z) (same_members S T (rise_tail s S hs) (rise_tail t T ht)
      (λ x k. ⊎_elim
      (λ e. absurd (not_below_self P.order H.order (lead_monomial x) (subst (λ z. P.order.compare (lead_monomial z) (lead_monomial x) ≡ Less) (heads ∙ e) (rise_all s S hs x k)))) (λ r. r)
      (contains_cases t T x (f x (contains_there s S x k))))
      (λ x k. ⊎_elim
      (λ e. absurd (not_below_self P.order H.order (lead_monomial x) (subst (λ z. P.order.compare (lead_monomial z) (lead_monomial x) ≡ Less) (sym heads ∙ e) (rise_all t T ht x k)))) (λ r. r)
      (contains_cases s S x (g x (contains_there t T x k)))))

  common : (S T : List (Polynomial E)) → IsReducedBasis P c S → IsReducedBasis P c T → (x : Polynomial E) → Contains S x → Contains T x
  common S T hs ht x k =
      let r = map_contains lead_monomial T (lead_monomial x) (lead_common S T hs ht x k) in
      subst (Contains T) (sym (same_lead x r.0 (hs.elements x k) (ht.elements r.0 r.1) (sym r.2))) r.1

  -- there is at most one reduced basis to a degree
  pub reduced_unique : (S T : List (Polynomial E)) → IsReducedBasis P c S → IsReducedBasis P c T → S ≡ T
  reduced_unique S T hs ht = same_members S T hs.increasing ht.increasing (common S T hs ht) (common T S ht hs)

-- The leads of the ideal, and normal forms modulo it.
use Rattle.std.proofs.Common.{◌≡◌, ◌≢◌, ℕ, ◌≤◌, refl, sym, ◌∙◌, ap, subst, List, [], ◌∷◌, cond, ◌⊎◌, inl, inr, ⊎_elim, append-nil, length, Bool, true, false, arith}
use Rattle.std.specs.Prelude.{nat_eq}
use Rattle.std.proofs.lemmas.Bool.{eqb-true}
use Rattle.word_field.specs.Field.{FieldOps}
use Rattle.word_field.specs.laws.Field.{negate-zero}
use Rattle.monomial_order.specs.Monomial.{Exponents, product, IsMonomial, Divides, IsMultiple}
use Rattle.monomial_order.specs.laws.Cofactors.{cofactor, divides_or_not, length-product_right}
use Rattle.monomial_order.specs.laws.Comparing.{le_or_not}
use Rattle.monomial_order.specs.laws.Lists.{find_member}
use Rattle.monomial_order.specs.laws.Monomial.{product_comm}
use Rattle.monomial_order.specs.MonomialOrder.{MonomialOrder}
use Rattle.polynomials.specs.Polynomial.{Polynomial, coefficient, Same, term_of, times, scaled, minus, component, IsTerm, IsPoly, IsLead, IsHomogeneous}
use Rattle.polynomials.specs.Subalgebra.{HasHomogeneousLead, Presented, IsPresentation, LeadsIdeal, IsDecidedTo, AreZerosTo, HasDegreesTo, IsNormalForm}
use Rattle.polynomials.specs.laws.Ring.{coefficient_value, coefficient-append}
use Rattle.polynomials.specs.laws.Same.{times_same, coefficient-negated}
use Rattle.polynomials.specs.laws.Decreasing.{IsLead_first, IsLead_unique}
use Rattle.polynomials.specs.laws.Canonical.{canonical, IsCanonicalForm, IsLead_same, zero_or_lead}
use Rattle.polynomials.specs.laws.Ideal.{IsPoly-times, InIdeal_same, InIdeal_times}
use Rattle.polynomials.specs.laws.Congruence.{minus_nonzero, minus_poly, minus_zero, congruent_sym, congruent_trans}
use Rattle.polynomials.specs.laws.Terms.{IsDecreasing-scaled}
use Rattle.polynomials.specs.laws.Degrees.{ideal_component, coefficient-component, component_is, component_nonzero, component_leads}
use Rattle.polynomials.specs.laws.Coefficients.{nothing_at, no_coefficient, found_monomial}

module _ {E : Type 0} (P : Presented E) (H : IsPresentation P) where
  -- a polynomial has one normal form at most
  pub normal_form_unique : (a b c : Polynomial E) → IsNormalForm P a b → IsNormalForm P a c → Same P.field b c
  normal_form_unique a b c h k =
      ⊎_elim (λ z. minus_zero P.field H.field b c z) (λ l. absurd (no_lead l.0 l.1)) (zero_or_lead P.field H.field P.order H.order (minus P.field b c) poly)
    where
      poly : IsPoly P.field P.order.places (minus P.field b c)
      poly = minus_poly P.field H.field P.order.places b c h.poly k.poly

      no_lead : (m : Exponents) → IsLead P.field P.order (minus P.field b c) m → ⊥
      no_lead m l = ⊎_elim (λ z. (h.standard m z).no_lead leads) (λ w. (k.standard m w).no_lead leads) (minus_nonzero P.field H.field b c m l.nonzero)
        where
          leads : LeadsIdeal P m
          leads = record {
            member = minus P.field b c;
            poly = poly;
            inside = congruent_trans P.field H.field P.order.places P.ideal b a c (congruent_sym P.field H.field P.order.places P.ideal a b h.inside) k.inside;
            leads = l;
          }

  -- a multiple of a lead of the ideal is one
  pub lead_times : (k m : Exponents) → IsMonomial P.order.places k → LeadsIdeal P m → LeadsIdeal P (product k m)
  lead_times k m hk h = of_form (canonical P.field H.field P.order H.order h.member h.poly)
    where
      term : IsTerm P.field P.order.places (term_of k P.field.one)
      term = record { monomial = hk; value = H.field.one_value }

      of_form : (q : Polynomial E) × IsCanonicalForm P.field H.field P.order H.order h.member q → LeadsIdeal P (product k m)
      of_form r = by_list r.0 r.1
        where
          by_list : (q : Polynomial E) → IsCanonicalForm P.field H.field P.order H.order h.member q → LeadsIdeal P (product k m)
          by_list [] c = absurd (h.leads.nonzero (sym (nothing_at P.field m ∙ c.same m)))
          by_list (t ∷ q) c = record {
            member = times P.field (term_of k P.field.one ∷ []) h.member;
            poly = IsPoly-times P.field H.field P.order.places (term_of k P.field.one ∷ []) h.member (term, tt) h.poly;
            inside = InIdeal_times P.field H.field P.order.places P.ideal (term_of k P.field.one ∷ []) h.member (term, tt) h.inside;
            leads = subst (λ n. IsLead P.field P.order (times P.field (term_of k P.field.one ∷ []) h.member) (product k n)) at
                (IsLead_same P.field H.field P.order H.order (scaled P.field (term_of k P.field.one) (t ∷ q)) (times P.field (term_of k P.field.one ∷ []) h.member) (product k t.at) same
                (IsLead_first P.field H.field P.order H.order (term_of (product k t.at) (P.field.times P.field.one t.by)) (scaled P.field (term_of k P.field.one) q)
                (IsDecreasing-scaled P.field H.field P.order H.order (term_of k P.field.one) (t ∷ q) term H.field.one_not_zero c.decreasing)));
          }
            where
              at : t.at ≡ m
              at = IsLead_unique P.field H.field P.order H.order h.member t.at m
                  (IsLead_same P.field H.field P.order H.order (t ∷ q) h.member t.at c.same (IsLead_first P.field H.field P.order H.order t q c.decreasing)) h.leads

              same : Same P.field (scaled P.field (term_of k P.field.one) (t ∷ q)) (times P.field (term_of k P.field.one ∷ []) h.member)
              same n =
                  ap (λ x. coefficient P.field x n) (sym (append-nil (scaled P.field (term_of k P.field.one) (t ∷ q)))) ∙
                  times_same P.field H.field (term_of k P.field.one ∷ []) (term_of k P.field.one ∷ []) (t ∷ q) h.member (λ i. refl) c.same n

-- the part of one degree is a polynomial
pub IsPoly-component : {E : Type 0} (K : FieldOps E) (n : ℕ) (O : MonomialOrder) (d : ℕ) (p : Polynomial E) → IsPoly K n p → IsPoly K n (component O d p)
IsPoly-component K n O d [] h = tt
IsPoly-component K n O d (t ∷ p) h = by_test (nat_eq (O.degree t.at) d) (IsPoly-component K n O d p h.1)
  where
    by_test : (b : Bool) → IsPoly K n (component O d p) → IsPoly K n (cond b (t ∷ component O d p) (component O d p))
    by_test true r = (h.0, r)
    by_test false r = r

module _ {E : Type 0} (P : Presented E) (H : IsPresentation P) where
  open P use {field as K, order as O}
  open H use {field as F, order as L}

  -- each lead of the ideal is that of a homogeneous member
  pub lead_component : (m : Exponents) (h : LeadsIdeal P m) → HasHomogeneousLead P m (component O (O.degree m) h.member)
  lead_component m h =
      let r = component_leads K F O L h.member m h.leads in
      record {
        poly = IsPoly-component K O.places O (O.degree m) h.member h.poly;
        inside = ideal_component K F O L P.ideal H.ideal (O.degree m) h.member h.inside;
        homogeneous = r.1;
        leads = r.0;
      }

  pub lead_is_monomial : (m : Exponents) → LeadsIdeal P m → IsMonomial O.places m
  lead_is_monomial m h = found_monomial K F O L h.member h.poly m h.leads.nonzero

  -- a monomial that a lead of the ideal divides is one
  pub lead_multiple : (n m : Exponents) → LeadsIdeal P n → IsMonomial O.places m → Divides n m → LeadsIdeal P m
  lead_multiple n m l hm d =
      let k = cofactor n m (lead_is_monomial n l).trimmed hm.trimmed d in
      subst (LeadsIdeal P) (product_comm k.0 n ∙ k.2)
      (lead_times P H k.0 n
      (record {
        trimmed = k.1;
        within = let a = length-product_right n k.0 in let e : length (product n k.0) ≡ length m = ap length k.2 in let b = hm.within in omega arith;
      })
      l)

  -- zeros to a degree decide the ideal to that degree
  module _ (c : ℕ) (zeros : List Exponents) (Z : AreZerosTo P c zeros) where
    pub multiple_leads : (m : Exponents) → IsMonomial O.places m → IsMultiple zeros m → LeadsIdeal P m
    multiple_leads m hm h = lead_multiple h.0 m (Z.lead h.0 h.1) hm h.2

    pub zeros_decide : IsDecidedTo P c
    zeros_decide m hm d =
        ⊎_elim (λ h. inl (multiple_leads m hm (h.0, h.1, h.2))) (λ n. inr (λ l. let z = Z.divide m l d in n z.0 z.1 z.2))
        (find_member (λ n. Divides n m) (λ n. divides_or_not n m) zeros)

  module _ (a b : Polynomial E) (h : IsNormalForm P a b) where
    -- a normal form has no monomial of a degree in which the polynomial has none
    no_degree : (d : ℕ) → ((m : Exponents) → O.degree m ≡ d → coefficient K a m ≡ K.zero) → (m : Exponents) → O.degree m ≡ d → coefficient K b m ≡ K.zero
    no_degree d none m e =
        sym ((component_is K F O L d b).inside m e) ∙ (⊎_elim (λ z. z m) (λ l. absurd (no_lead l.0 l.1)) (zero_or_lead K F O L part poly) ∙ sym (nothing_at K m))
      where
        part : Polynomial E
        part = component O d b

        poly : IsPoly K O.places part
        poly = IsPoly-component K O.places O d b h.poly

        same : Same K (component O d (minus K b a)) part
        same n = coefficient-component K F O L d (minus K b a) n ∙ (by_test (nat_eq (O.degree n) d) refl ∙ sym (coefficient-component K F O L d b n))
          where
            by_test : (t : Bool) → nat_eq (O.degree n) d ≡ t → cond t (coefficient K (minus K b a) n) K.zero ≡ cond t (coefficient K b n) K.zero
            by_test true e = simp (coefficient-append K F, coefficient-negated K F, none n (eqb-true (O.degree n) d e), negate-zero K F, F.plus_zero, coefficient_value K F)
            by_test false e = refl

        no_lead : (n : Exponents) → IsLead K O part n → ⊥
        no_lead n l = (h.standard n (component_nonzero K F O L d b n l.nonzero).1).no_lead (record {
          member = part;
          poly = poly;
          inside = InIdeal_same K F O.places P.ideal (component O d (minus K b a)) part same
              (ideal_component K F O L P.ideal H.ideal d (minus K b a) (congruent_sym K F O.places P.ideal a b h.inside));
          leads = l;
        })

    -- what holds of the degrees of the monomials of a holds of those of its normal form
    normal_form_degrees : (D : ℕ → Type 0) → ((d : ℕ) → D d ⊎ (D d → ⊥)) → ((m : Exponents) → coefficient K a m ≢ K.zero → D (O.degree m)) →
        (m : Exponents) → coefficient K b m ≢ K.zero → D (O.degree m)
    normal_form_degrees D decided g m k =
        ⊎_elim (λ x. x) (λ n. absurd (k (no_degree (O.degree m) (λ i e. no_coefficient K F a i (λ c. n (subst D e (g i c)))) m refl))) (decided (O.degree m))

    pub normal_form_bounded : (d : ℕ) → HasDegreesTo P d a → HasDegreesTo P d b
    normal_form_bounded d = normal_form_degrees (λ e. e ≤ d) (λ e. le_or_not e d)

    pub normal_form_homogeneous : (d : ℕ) → IsHomogeneous K O d a → Same K b [] ⊎ IsHomogeneous K O d b
    normal_form_homogeneous d g = ⊎_elim inl (λ l. inr (record {
      some = (l.0, l.1.nonzero);
      each = λ m k.
          let most = normal_form_bounded d (λ i c. let e = g.each i c in omega arith) m k in
          let least = normal_form_degrees (λ e. d ≤ e) (λ e. le_or_not d e) (λ i c. let e = g.each i c in omega arith) m k in
          omega arith;
    })) (zero_or_lead K F O L b h.poly)

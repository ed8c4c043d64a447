-- What a quotient of a presentation says of its ideal.
use Rattle.std.proofs.Common.{◌≡◌, ℕ, ◌≤◌, sym, ◌∙◌, ap, subst, List, [], ◌∷◌, arith, ◌⊎◌, inl, inr, ⊎_elim, false}
use Rattle.polynomials.specs.laws.Coefficients.{found_monomial}
use Rattle.std.proofs.lemmas.Bool.{true≢false}
use Rattle.std.specs.Prelude.{Contains, map}
use Rattle.monomial_order.specs.Monomial.{IsMonomial, Divides, Exponents}
use Rattle.monomial_order.specs.laws.Cofactors.{Divides-trans, Divides-antisymm}
use Rattle.monomial_order.specs.laws.Comparing.{divisor_degree, degree_one}
use Rattle.monomial_order.specs.laws.Lists.{contains_none, contains_map, map_contains}
use Rattle.polynomials.specs.Polynomial.{Polynomial, minus, IsDecreasing, IsHomogeneous, lead_monomial, degree_of}
use Rattle.polynomials.specs.Subalgebra.{Presented, IsPresentation, LeadsIdeal, AreZerosTo, IsStandard, IsNormalForm}
use Rattle.polynomials.specs.laws.NormalForm.{lead_is_monomial, lead_multiple, normal_form_homogeneous}
use Rattle.polynomials.specs.laws.Decreasing.{IsDecreasing_unique, coefficient_first}
use Rattle.quotient_gb.specs.Combinations.{AtMost}
use Rattle.quotient_gb.specs.Remainder.{IsRemainderBy, AreReducersIn}
use Rattle.quotient_gb.specs.IdealBasis.{AreIdealLeads, IsIdealBasis, IsMinimalLead}
use Rattle.quotient_gb.specs.Quotient.{QuotientState, IsQuotientOf}
use Rattle.quotient_gb.specs.CriticalPairs.{HasPairsAbove}
use Rattle.quotient_gb.proofs.Combinations.{combines_inside}
use Rattle.quotient_gb.proofs.Steps.{reducer_of}
use Rattle.quotient_gb.proofs.Tails.{positive_leads}
use Rattle.quotient_gb.proofs.Criterion.{at_most_degree}

module _ {E : Type 0} (P : Presented E) (H : IsPresentation P) where
  module _ (c : ℕ) (ms : List Exponents) (h : AreIdealLeads P c ms) where
    pub each_minimal : (m : Exponents) → Contains ms m → IsMinimalLead P m × (P.order.degree m ≤ c)
    each_minimal m k = (
      record {
        leads = h.leads m k;
        minimal = λ n hn d.
            let r = h.divides n hn (let a = divisor_degree P.order H.order n m (lead_is_monomial P H n hn).trimmed (lead_is_monomial P H m (h.leads m k)).trimmed d in let b = h.degrees m k in omega arith) in
            let same : r.0 ≡ m = h.minimal r.0 m r.1 k (Divides-trans r.0 n m r.2 d) in
            Divides-antisymm n m (lead_is_monomial P H n hn).trimmed (lead_is_monomial P H m (h.leads m k)).trimmed d (subst (λ z. Divides z n) same r.2);
      },
      h.degrees m k,
    )

    pub all_minimal : (m : Exponents) → IsMinimalLead P m → P.order.degree m ≤ c → Contains ms m
    all_minimal m hm l = let r = h.divides m hm.leads l in subst (Contains ms) (hm.minimal r.0 (h.leads r.0 r.1) r.2) r.1

    pub standard : (m : Exponents) → ((n : Exponents) → Contains ms n → Divides n m → ⊥) → IsMonomial P.order.places m → P.order.degree m ≤ c → IsStandard P m
    standard m none hm l = record { monomial = hm; no_lead = λ k. let r = h.divides m k l in none r.0 r.1 r.2 }

    pub not_standard : (m n : Exponents) → Contains ms n → Divides n m → IsMonomial P.order.places m → LeadsIdeal P m
    not_standard m n k d hm = lead_multiple P H n m (h.leads n k) hm d

  -- a remainder by a basis to the degree is a normal form
  pub remainder_normal : (c : ℕ) (G : List (Polynomial E)) → IsIdealBasis P c G → (a r : Polynomial E) → degree_of P.order a ≤ c →
      IsRemainderBy P.field P.order G (AtMost P.order (lead_monomial a)) a r → IsNormalForm P a r
  remainder_normal c G h a r l rem = record {
    poly = rem.poly;
    inside = combines_inside P.field H.field P.order H.order G P.ideal (λ g k. (h.members g k).inside) (AtMost P.order (lead_monomial a)) (minus P.field a r) rem.combines;
    standard = λ m k. record {
      monomial = found_monomial P.field H.field P.order H.order r rem.poly m k;
      no_lead = λ q.
          let d = h.leads.divides m q (let s = at_most_degree P.order H.order (lead_monomial a) m (rem.has m k) in omega arith) in
          let g = map_contains lead_monomial G d.0 d.1 in
          rem.reduced m k (g.0, g.1, subst (λ z. Divides z m) (sym g.2) d.2);
    };
  }

  -- it has no degree above that of the polynomial
  pub remainder_degree : (G : List (Polynomial E)) (a r : Polynomial E) → IsDecreasing P.field P.order r →
      IsRemainderBy P.field P.order G (AtMost P.order (lead_monomial a)) a r → degree_of P.order r ≤ degree_of P.order a
  remainder_degree G a [] f rem = let z = degree_one P.order H.order in omega arith
  remainder_degree G a (t ∷ r) f rem = at_most_degree P.order H.order (lead_monomial a) t.at (rem.has t.at (λ z. f.0.nonzero (sym (coefficient_first P.field H.field P.order H.order t r f.0) ∙ z)))

  -- a decreasing normal form of a homogeneous polynomial
  pub homogeneous_form : (a b : Polynomial E) → IsDecreasing P.field P.order b → IsNormalForm P a b → (d : ℕ) → IsHomogeneous P.field P.order d a →
      (b ≡ []) ⊎ IsHomogeneous P.field P.order d b
  homogeneous_form a b f h d k = ⊎_elim (λ z. inl (IsDecreasing_unique P.field H.field P.order H.order b [] f tt z)) inr (normal_form_homogeneous P H a b h d k)

module _ {E : Type 0} (P : Presented E) (H : IsPresentation P) (q : QuotientState E) where
  -- no members are the basis to the degree 0
  pub empty_quotient : q.degree ≡ 0 → q.members ≡ [] → q.leads ≡ [] → q.pairs ≡ [] → q.closed ≡ false → IsQuotientOf P q
  empty_quotient d e f w n = record {
    small = omega arith;
    basis = subst (IsIdealBasis P q.degree) (sym e) (subst (λ n. IsIdealBasis P n []) (sym d) (record {
      members = λ g k. absurd (contains_none g k);
      tails = λ g k. absurd (contains_none g k);
      leads = record {
        increasing = tt;
        leads = λ m k. absurd (contains_none m k);
        degrees = λ m k. absurd (contains_none m k);
        minimal = λ m n k. absurd (contains_none m k);
        divides = λ m k l. absurd (positive_leads P H m k l);
      };
    }));
    leads = f ∙ ap (map lead_monomial) (sym e);
    pairs = subst (HasPairsAbove P.order q.leads q.degree) (sym w) (subst (λ ls. HasPairsAbove P.order ls q.degree []) (sym f) (record {
      each = λ v k. absurd (contains_none v k);
      listed = λ i j lt l q. absurd (omega arith);
    }));
    closed = λ t. absurd (true≢false (sym t ∙ n));
  }

  pub quotient_leads : IsQuotientOf P q → AreIdealLeads P q.degree q.leads
  quotient_leads h = subst (AreIdealLeads P q.degree) (sym h.leads) h.basis.leads

  pub quotient_zeros : IsQuotientOf P q → AreZerosTo P q.degree q.leads
  quotient_zeros h = let l = quotient_leads h in record { lead = l.leads; divide = l.divides }

  -- the members are reducers
  pub quotient_reducers : IsQuotientOf P q → AreReducersIn P q.members
  quotient_reducers h g k = reducer_of P H g (h.basis.members g k) (let l = h.basis.leads.degrees (lead_monomial g) (contains_map lead_monomial q.members g k) in let s = h.small in omega arith)

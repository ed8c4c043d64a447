-- A member whose tail is reduced.
use Rattle.std.proofs.Common.{◌≡◌, refl, ◌≢◌, ℕ, ◌≤◌, sym, ◌∙◌, ap, subst, List, [], ◌∷◌, ◌++◌, ⊎_elim, arith}
use Rattle.polynomials.specs.laws.Coefficients.{single_term, found_monomial, decreasing_leads, monic_some, append_nonzero}
use Rattle.std.specs.Prelude.{map}
use Rattle.std.specs.declared.cmp.Ordering.TheVariants.{Less}
use Rattle.word_field.specs.Field.{FieldOps, IsField}
use Rattle.word_field.specs.laws.Field.{negate-plus}
use Rattle.monomial_order.specs.declared.terms.Term.{Term}
use Rattle.monomial_order.specs.Monomial.{IsMultiple, Exponents}
use Rattle.monomial_order.specs.laws.Comparing.{degree_falls, degree_one, one_below}
use Rattle.monomial_order.specs.laws.Lists.{contains_none}
use Rattle.polynomials.specs.Polynomial.{Polynomial, coefficient, Same, minus, IsDecreasing, IsLead, IsHomogeneous, lead_monomial}
use Rattle.polynomials.specs.Subalgebra.{Presented, IsPresentation, IsGenerator, LeadsIdeal}
use Rattle.polynomials.specs.laws.Ring.{coefficient-append}
use Rattle.polynomials.specs.laws.Decreasing.{IsDecreasing_unique, IsLead_first, coefficient_first, IsDecreasing_IsPoly}
use Rattle.polynomials.specs.laws.Degrees.{decreasing_all, generator_of}
use Rattle.polynomials.specs.laws.Congruence.{congruent_sym, congruent_trans, congruent_member, member_congruent}
use Rattle.polynomials.specs.laws.Ideal.{InIdeal_same}
use Rattle.quotient_gb.specs.Combinations.{AtMost}
use Rattle.quotient_gb.specs.Remainder.{IsRemainderBy, IsCanonicalIn, IsRemainderIn}
use Rattle.quotient_gb.specs.IdealBasis.{IsMonicMember, HasStandardTail, AreIdealLeads, AreMonicMembers}
use Rattle.quotient_gb.specs.DegreeStep.{HasReducedTail}
use Rattle.quotient_gb.proofs.Combinations.{combines_inside}
use Rattle.quotient_gb.proofs.Criterion.{criterion}
use Rattle.quotient_gb.proofs.Reducing.{below_all}
use Rattle.quotient_gb.proofs.Places.{has_divisor}
use Rattle.quotient_gb.proofs.Pairs.{difference_below}
use Rattle.polynomials.specs.laws.Same.{coefficient-negated}

-- y has the lead of x and a reduced tail
pub record HasReplacement {E : Type 0} (P : Presented E) (G : List (Polynomial E)) (x y : Polynomial E) : Type 0 where
  pub member : IsMonicMember P y
  pub lead : lead_monomial y ≡ lead_monomial x
  pub tail : HasReducedTail P (map lead_monomial G) y

module _ {E : Type 0} (K : FieldOps E) (F : IsField K) where
  -- (x - f) - r = x - (f + r)
  pub minus_twice : (x f r tail member : Polynomial E) → Same K tail (minus K x f) → Same K member (f ++ r) → Same K (minus K tail r) (minus K x member)
  minus_twice x f r tail member ht hm m = simp (coefficient-append K F, coefficient-negated K F, ht, hm, negate-plus K F, F.plus_assoc)

module _ {E : Type 0} (P : Presented E) (H : IsPresentation P) where
  pub member_leads : (r : Polynomial E) → IsMonicMember P r → LeadsIdeal P (lead_monomial r)
  member_leads r h = record { member = r; poly = IsDecreasing_IsPoly P.field P.order r h.decreasing; inside = h.inside; leads = decreasing_leads P.field H.field P.order H.order r h.decreasing (monic_some P.field H.field P.order H.order r h.monic) }

  -- no lead of the ideal has the degree 0
  pub positive_leads : (m : Exponents) → LeadsIdeal P m → P.order.degree m ≤ 0 → ⊥
  positive_leads m h l =
      let d = criterion P H 0 [] (record {
        members = λ g k. absurd (contains_none g k);
        generators = λ r k e le hr. absurd (none r e le hr (generator_of P.field P.order P.ideal H.ideal r k));
      }) (λ x y hx hy q. absurd (contains_none x hx)) m h l in
      contains_none d.0 d.1
    where
      none : (r : Polynomial E) (e : ℕ) → e ≤ 0 → IsHomogeneous P.field P.order e r → IsGenerator P.field P.order r → ⊥
      none r e le hr k = ⊎_elim (λ z. hr.some.1 (z hr.some.0)) (λ s. let a = hr.each hr.some.0 hr.some.1 in let b = s.2.each hr.some.0 hr.some.1 in let l = s.1 in omega arith) k.homogeneous

  module _ (G : List (Polynomial E)) (members : AreMonicMembers P G)
      (x : Polynomial E) (hx : IsMonicMember P x) (t : Term E) (w : Polynomial E) (is : x ≡ t ∷ w)
      (tail rest member : Polynomial E) (f_tail : IsDecreasing P.field P.order tail) (f_rest : IsDecreasing P.field P.order rest) (f_member : IsDecreasing P.field P.order member)
      (tail_is : Same P.field tail (minus P.field x (t ∷ []))) (rem : IsRemainderBy P.field P.order G (AtMost P.order (lead_monomial tail)) tail rest)
      (member_is : Same P.field member ((t ∷ []) ++ rest)) where
    parts : IsDecreasing P.field P.order (t ∷ w)
    parts = subst (IsDecreasing P.field P.order) is hx.decreasing

    alone : IsDecreasing P.field P.order (t ∷ [])
    alone = (record { term = parts.0.term; nonzero = parts.0.nonzero; above = tt }, tt)

    tail_below : (n : Exponents) → coefficient P.field tail n ≢ P.field.zero → P.order.compare n t.at ≡ Less
    tail_below n k = difference_below P.field H.field P.order H.order x (t ∷ []) t.at (subst (λ y. IsLead P.field P.order y t.at) (sym is) (IsLead_first P.field H.field P.order H.order t w parts))
        (IsLead_first P.field H.field P.order H.order t [] alone)
        (ap (λ y. coefficient P.field y t.at) is ∙ (coefficient_first P.field H.field P.order H.order t w parts.0 ∙ sym (coefficient_first P.field H.field P.order H.order t [] alone.0))) n (λ z. k (tail_is n ∙ z))

    -- the lead is not 1
    lead_some : t.at ≢ []
    lead_some e = positive_leads (lead_monomial x) (member_leads x hx) (let z = degree_one P.order H.order in let q : P.order.degree (lead_monomial x) ≡ P.order.degree [] = ap P.order.degree (ap lead_monomial is ∙ e) in omega arith)

    top_below : (q : Polynomial E) → IsDecreasing P.field P.order q → ((n : Exponents) → coefficient P.field q n ≢ P.field.zero → P.order.compare n t.at ≡ Less) → P.order.compare (lead_monomial q) t.at ≡ Less
    top_below [] f h = one_below P.order H.order t.at parts.0.term.monomial lead_some
    top_below (u ∷ q) f h = h u.at (IsLead_first P.field H.field P.order H.order u q f).nonzero

    rest_below : (n : Exponents) → coefficient P.field rest n ≢ P.field.zero → P.order.compare n t.at ≡ Less
    rest_below n k =
        let lt = top_below tail f_tail tail_below in
        ⊎_elim (λ e. subst (λ y. P.order.compare y t.at ≡ Less) (sym e) lt) (λ l. H.order.total.trans n (lead_monomial tail) t.at l lt) (rem.has n k)

    whole : IsDecreasing P.field P.order (t ∷ rest)
    whole = (
      record {
        term = parts.0.term;
        nonzero = parts.0.nonzero;
        above = below_all P.field H.field P.order H.order t.at rest (decreasing_all P.field H.field P.order H.order (λ n. P.order.compare n t.at ≡ Less) rest f_rest rest_below);
      },
      f_rest,
    )

    pub member_form : member ≡ t ∷ rest
    member_form = IsDecreasing_unique P.field H.field P.order H.order member (t ∷ rest) f_member whole member_is

    pub member_lead : lead_monomial member ≡ lead_monomial x
    member_lead = ap lead_monomial member_form ∙ sym (ap lead_monomial is)

    pub reduced_member : IsMonicMember P member
    reduced_member = record {
      decreasing = f_member;
      monic = ap (λ y. coefficient P.field y (lead_monomial y)) member_form ∙ (coefficient_first P.field H.field P.order H.order t rest whole.0 ∙
          (sym (coefficient_first P.field H.field P.order H.order t w parts.0) ∙ (ap (λ y. coefficient P.field y (lead_monomial y)) (sym is) ∙ hx.monic)));
      inside = member_congruent P.field H.field P.order.places P.ideal member
          (congruent_trans P.field H.field P.order.places P.ideal member x []
          (congruent_sym P.field H.field P.order.places P.ideal x member
          (InIdeal_same P.field H.field P.order.places P.ideal (minus P.field tail rest) (minus P.field x member) (minus_twice P.field H.field x (t ∷ []) rest tail member tail_is member_is)
          (combines_inside P.field H.field P.order H.order G P.ideal (λ g k. (members g k).inside) (AtMost P.order (lead_monomial tail)) (minus P.field tail rest) rem.combines)))
          (congruent_member P.field H.field P.order.places P.ideal x hx.inside));
    }

    pub reduced_tail : (ms : List Exponents) → ms ≡ map lead_monomial G → HasReducedTail P ms member
    reduced_tail ms e m k ne h =
        ⊎_elim (λ a. ne (sym (single_term P.field H.field t.at t.by m a) ∙ sym (ap lead_monomial member_form)))
        (λ b. rem.reduced m b (has_divisor G m (subst (λ ns. IsMultiple ns m) e h)))
        (append_nonzero P.field H.field (t ∷ []) rest m (λ z. k (member_is m ∙ z)))

  -- a reduced tail is standard
  pub standard_tail : (d : ℕ) (ms : List Exponents) → AreIdealLeads P d ms → (g : Polynomial E) → IsMonicMember P g → P.order.degree (lead_monomial g) ≤ d → HasReducedTail P ms g → HasStandardTail P g
  standard_tail d ms h g hg le r m k ne = record {
    monomial = found_monomial P.field H.field P.order H.order g (IsDecreasing_IsPoly P.field P.order g hg.decreasing) m k;
    no_lead = λ l. r m k ne (h.divides m l (let e = degree_falls P.order H.order m (lead_monomial g) ((decreasing_leads P.field H.field P.order H.order g hg.decreasing some).greatest m k ne) in omega arith));
  }
    where
      some : g ≢ []
      some = monic_some P.field H.field P.order H.order g hg.monic

-- what replaces x: its first term and the remainder of its tail
module _ {E : Type 0} (P : Presented E) (H : IsPresentation P) (G : List (Polynomial E)) (members : AreMonicMembers P G)
    (x : Polynomial E) (hx : IsMonicMember P x) (t : Term E) (w : Polynomial E) (is : x ≡ t ∷ w) (front tail rest y : Polynomial E) (front_is : front ≡ t ∷ [])
    (k_tail : IsCanonicalIn P tail) (tail_is : Same P.field tail (minus P.field x front)) (rem : IsRemainderIn P G tail rest)
    (k_y : IsCanonicalIn P y) (y_is : Same P.field y (front ++ rest)) where
  less : Same P.field tail (minus P.field x (t ∷ []))
  less = subst (λ z. Same P.field tail (minus P.field x z)) front_is tail_is

  whole_is : Same P.field y ((t ∷ []) ++ rest)
  whole_is = subst (λ z. Same P.field y (z ++ rest)) front_is y_is

  pub tail_reduced : HasReplacement P G x y
  tail_reduced = record {
    member = reduced_member P H G members x hx t w is tail rest y k_tail.decreasing rem.canonical.decreasing k_y.decreasing less rem.remainder whole_is;
    lead = member_lead P H G members x hx t w is tail rest y k_tail.decreasing rem.canonical.decreasing k_y.decreasing less rem.remainder whole_is;
    tail = reduced_tail P H G members x hx t w is tail rest y k_tail.decreasing rem.canonical.decreasing k_y.decreasing less rem.remainder whole_is (map lead_monomial G) refl;
  }

-- The criterion to a degree: if the generators of degree at most c have standard representations, and the S-polynomials have
-- representations below, each lead of the ideal of degree at most c is a multiple of the lead of a member of the list.
use Rattle.std.proofs.Common.{◌≡◌, ◌≢◌, ℕ, ◌+◌, ◌≤◌, refl, sym, ◌∙◌, ap, subst, List, [], ◌∷◌, ◌++◌, ◌⊎◌, inl, inr, ⊎_elim, arith, true, false}
use Rattle.polynomials.specs.laws.Coefficients.{single_term, lead_sum}
use Rattle.std.specs.Prelude.{Contains, nat_eq}
use Rattle.std.proofs.lemmas.Bool.{eqb-true, eq-eqb, true≢false}
use Rattle.std.specs.declared.cmp.Ordering.TheVariants.{Less}
use Rattle.word_field.specs.Field.{FieldOps, IsField, IsValue}
use Rattle.word_field.specs.laws.Field.{plus_swap, plus-times, times-negate, zero-times, zero-plus}
use Rattle.monomial_order.specs.declared.terms.Term.{Term}
use Rattle.monomial_order.specs.Monomial.{product, least_common_multiple as lcm, IsMonomial, IsTrimmed, Divides, Exponents}
use Rattle.monomial_order.specs.laws.Monomial.{IsTrimmed-least_common_multiple}
use Rattle.monomial_order.specs.laws.Comparing.{degree_falls as less_degree}
use Rattle.monomial_order.specs.MonomialOrder.{MonomialOrder, IsMonomialOrder}
use Rattle.polynomials.specs.Polynomial.{Polynomial, coefficient, Same, term_of, term_times, times, scaled, negated, minus, component, IsTerm, IsPoly, IsBelow, IsDecreasing, IsLead, IsHomogeneous, lead_monomial}
use Rattle.polynomials.specs.Ideal.{InIdeal, Multiple, AreMultiples, sum_of}
use Rattle.polynomials.specs.Subalgebra.{Presented, IsPresentation, IsGenerator, AreGenerators, LeadsIdeal}
use Rattle.polynomials.specs.laws.Ring.{coefficient_value, coefficient-append}
use Rattle.polynomials.specs.laws.Value.{coefficient-scaled}
use Rattle.polynomials.specs.laws.Decreasing.{IsDecreasing_IsPoly, IsBelow_trans, IsLead_first, IsLead_unique}
use Rattle.polynomials.specs.laws.Canonical.{IsLead_same, zero_or_lead}
use Rattle.polynomials.specs.laws.Terms.{IsBelow-append, IsDecreasing-scaled, scaled_below}
use Rattle.polynomials.specs.laws.Leads.{below_found}
use Rattle.polynomials.specs.laws.Ideal.{IsPoly-scaled}
use Rattle.monomial_order.specs.laws.Rank.{IsWithin, below_induction}
use Rattle.polynomials.specs.laws.Degrees.{component-append, component_same, IsGraded, graded_component, graded_no_component, graded_times, component_leads, generator_of}
use Rattle.quotient_gb.specs.Combinations.{AtMost, Under, HasLeadDivisor, Step, sum_of_steps, AreSteps, Combines, HasStandardRepresentation}
use Rattle.quotient_gb.specs.IdealBasis.{AreMonicMembers}
use Rattle.quotient_gb.specs.Criterion.{s_polynomial, HasRepresentationBelow, ReducesGenerators, RepresentsPairs}
use Rattle.quotient_gb.proofs.Multiples.{common}
use Rattle.quotient_gb.proofs.Combinations.{scaled-append, scaled_scaled, scaled_is, scaled_same, combines_same, combines_zero, combines_plus, combines_one, combines_scaled, combines_constant, top}
use Rattle.monomial_order.specs.laws.Cofactors.{Divides-product_right}
use Rattle.polynomials.specs.laws.Same.{coefficient-negated}

module _ {E : Type 0} (K : FieldOps E) (F : IsField K) where
  pub scaled-negated : (t : Term E) (p : Polynomial E) → scaled K t (negated K p) ≡ negated K (scaled K t p)
  scaled-negated t [] = refl
  scaled-negated t (u ∷ p) =
      ap (λ c. term_of (product t.at u.at) c ∷ scaled K t (negated K p)) (times-negate K F t.by u.by) ∙
      ap (λ q. term_of (product t.at u.at) (K.negate (K.times t.by u.by)) ∷ q) (scaled-negated t p)

  pub scaled-minus : (t : Term E) (p q : Polynomial E) → scaled K t (minus K p q) ≡ minus K (scaled K t p) (scaled K t q)
  scaled-minus t p q = scaled-append K F t p (negated K q) ∙ ap (λ x. scaled K t p ++ x) (scaled-negated t q)

  -- the product of two monomials
  pub scaled_product : (a b c : Exponents) (p : Polynomial E) → product a b ≡ c → scaled K (term_of a K.one) (scaled K (term_of b K.one) p) ≡ scaled K (term_of c K.one) p
  scaled_product a b c p e =
      scaled_scaled K F (term_of a K.one) (term_of b K.one) p ∙
      (ap (λ x. scaled K (term_of x (K.times K.one K.one)) p) e ∙ ap (λ x. scaled K (term_of c x) p) (F.times_one K.one ∙ F.one_value))

  -- a coefficient in front
  pub coefficient-front : (a : Exponents) (d : E) (p : Polynomial E) (m : Exponents) → IsValue K d →
      coefficient K (scaled K (term_of a d) p) m ≡ K.times d (coefficient K (scaled K (term_of a K.one) p) m)
  coefficient-front a d p m v =
      ap (λ x. coefficient K (scaled K (term_of a x) p) m) (sym v ∙ sym (F.times_one d)) ∙
      (ap (λ x. coefficient K x m) (sym (scaled_scaled K F (term_of [] d) (term_of a K.one) p)) ∙ coefficient-scaled K F d (scaled K (term_of a K.one) p) m)

  plus_negate_cancel : (a b : E) → K.plus a (K.plus (K.negate a) b) ≡ K.reduce b
  plus_negate_cancel a b = sym (F.plus_assoc a (K.negate a) b) ∙ (ap (λ x. K.plus x b) (F.plus_negate a) ∙ zero-plus K F b)

  -- d x + (e y + r) = (d + e) y + (d (x - y) + r)
  moved : (d e x y r : E) → K.plus (K.times d x) (K.plus (K.times e y) r) ≡ K.plus (K.times (K.plus d e) y) (K.plus (K.times d (K.plus x (K.negate y))) r)
  moved d e x y r =
      let n = K.negate (K.times d y) in
      simp (F.times_plus, plus-times K F, times-negate K F, F.plus_assoc) (cc (plus_swap K F (K.times e y) (K.times d x) (K.plus n r), plus_swap K F (K.times d y) (K.times d x) (K.plus (K.times e y) (K.plus n r)), plus_swap K F (K.times e y) n r, plus_negate_cancel (K.times d y) (K.plus (K.times e y) r), F.plus_value (K.times e y) r))

  sum_swap : (A S T R : Polynomial E) → Same K S (T ++ R) → Same K (A ++ S) (T ++ (A ++ R))
  sum_swap A S T R h m = simp (coefficient-append K F, h) (plus_swap K F (coefficient K A m) (coefficient K T m) (coefficient K R m))

  module _ (O : MonomialOrder) (L : IsMonomialOrder O) where
    -- a term times a decreasing list
    pub below_scaled : (t : Term E) (g : Polynomial E) (M : Exponents) → IsTerm K O.places t → IsDecreasing K O g → O.compare (product t.at (lead_monomial g)) M ≡ Less → IsBelow K O M (scaled K t g)
    below_scaled t [] M ht h lt = tt
    below_scaled t (u ∷ p) M ht h lt =
        (lt, IsBelow_trans K F O L (product t.at u.at) M (scaled K t p) lt (scaled_below K F O L t u p ht h.0.term (IsDecreasing_IsPoly K O p h.1) h.0.above))

    pub scaled_leads : (t : Term E) (g : Polynomial E) → IsTerm K O.places t → t.by ≢ K.zero → IsDecreasing K O g → coefficient K g (lead_monomial g) ≡ K.one → IsLead K O (scaled K t g) (product t.at (lead_monomial g))
    unfolding coefficient
    scaled_leads t [] ht nz h e = absurd (F.one_not_zero (sym e))
    scaled_leads t (u ∷ p) ht nz h e = IsLead_first K F O L (term_times K t u) (scaled K t p) (IsDecreasing-scaled K F O L t (u ∷ p) ht nz h)

    pub monic_monomial : (g : Polynomial E) → IsDecreasing K O g → coefficient K g (lead_monomial g) ≡ K.one → IsMonomial O.places (lead_monomial g)
    unfolding coefficient
    monic_monomial [] h e = absurd (F.one_not_zero (sym e))
    monic_monomial (u ∷ p) h e = h.0.term.monomial

pub at_most_degree : (O : MonomialOrder) → IsMonomialOrder O → (M m : Exponents) → AtMost O M m → O.degree m ≤ O.degree M
at_most_degree O L M m h = ⊎_elim (λ e. let q : O.degree m ≡ O.degree M = ap O.degree e in omega arith) (λ lt. less_degree O L m M lt) h

pub zero_no_lead : {E : Type 0} (K : FieldOps E) (O : MonomialOrder) (a : Polynomial E) (m : Exponents) → Same K a [] → IsLead K O a m → ⊥
unfolding coefficient
zero_no_lead K O a m z h = h.nonzero (z m)

-- a reducer is decreasing and monic
pub record IsReducer {E : Type 0} (K : FieldOps E) (O : MonomialOrder) (g : Polynomial E) : Type 0 where
  pub decreasing : IsDecreasing K O g
  pub monic : coefficient K g (lead_monomial g) ≡ K.one

abbrev pub AreReducers : {E : Type 0} → FieldOps E → MonomialOrder → List (Polynomial E) → Type 0
AreReducers {E} K O G = (g : Polynomial E) → Contains G g → IsReducer K O g

module _ {E : Type 0} (K : FieldOps E) (F : IsField K) (O : MonomialOrder) (L : IsMonomialOrder O)
    (G : List (Polynomial E)) (HG : AreReducers K O G) where
  pub monomials : (g : Polynomial E) → Contains G g → IsMonomial O.places (lead_monomial g)
  monomials g h = let r = HG g h in monic_monomial K F O L g r.decreasing r.monic

  -- the monomials of a combination below M are below M
  pub under_found : (M : Exponents) (a : Polynomial E) → Combines K O G (Under O M) a → (n : Exponents) → coefficient K a n ≢ K.zero → O.compare n M ≡ Less
  under_found M a h n k = below_found K F O L M (sum_of_steps K h.steps) (all h.steps h.are) n (λ z. k (h.sums n ∙ z))
    where
      all : (ss : List (Step E)) → AreSteps K O G (Under O M) ss → IsBelow K O M (sum_of_steps K ss)
      all [] q = tt
      all (s ∷ ss) q = IsBelow-append K O M (scaled K s.term s.of) (sum_of_steps K ss) (below_scaled K F O L s.term s.of M q.0 (HG s.of q.1).decreasing q.2) (all ss q.3)

  module _ (c : ℕ) (pairs : (g h : Polynomial E) → Contains G g → Contains G h → O.degree (lcm (lead_monomial g) (lead_monomial h)) ≤ c → HasRepresentationBelow K O G g h) where
    -- two multiples of members with the same lead
    pub same_multiple : (M a b : Exponents) (g h : Polynomial E) → Contains G g → Contains G h → IsMonomial O.places a → IsMonomial O.places b →
        product a (lead_monomial g) ≡ M → product b (lead_monomial h) ≡ M → O.degree M ≤ c → Combines K O G (Under O M) (minus K (scaled K (term_of a K.one) g) (scaled K (term_of b K.one) h))
    same_multiple M a b g h hg hh ma mb ea eb l =
        let C = common O.places a (lead_monomial g) b (lead_monomial h) ma (monomials g hg) mb (monomials h hh) (ea ∙ sym eb) in
        let whole : product C.by (lcm (lead_monomial g) (lead_monomial h)) ≡ M = C.common ∙ ea in
        let small : O.degree (lcm (lead_monomial g) (lead_monomial h)) ≤ c =
        let p = L.degree_product C.by (lcm (lead_monomial g) (lead_monomial h)) in let q : O.degree (product C.by (lcm (lead_monomial g) (lead_monomial h))) ≡ O.degree M = ap O.degree whole in omega arith in
        let j = pairs g h hg hh small C.left C.right (record { left_trimmed = C.left_monomial.trimmed; right_trimmed = C.right_monomial.trimmed; left = C.left_is; right = C.right_is }) in
        let is : scaled K (term_of C.by K.one) (s_polynomial K C.left g C.right h) ≡ minus K (scaled K (term_of a K.one) g) (scaled K (term_of b K.one) h) =
        scaled-minus K F (term_of C.by K.one) (scaled K (term_of C.left K.one) g) (scaled K (term_of C.right K.one) h) ∙
        (ap (λ x. minus K x (scaled K (term_of C.by K.one) (scaled K (term_of C.right K.one) h))) (scaled_product K F C.by C.left a g C.left_by) ∙
        ap (minus K (scaled K (term_of a K.one) g)) (scaled_product K F C.by C.right b h C.right_by)) in
        subst (Combines K O G (Under O M)) is
        (combines_scaled K F O L G monomials (Under O (lcm (lead_monomial g) (lead_monomial h))) (Under O M) (term_of C.by K.one) (s_polynomial K C.left g C.right h)
        (record { monomial = C.by_monomial; value = F.one_value })
        (λ m hm lt. subst (λ x. O.compare (product C.by m) x ≡ Less) whole (L.kept C.by m (lcm (lead_monomial g) (lead_monomial h)) C.by_monomial.trimmed hm.trimmed (top_trimmed g h hg hh) ∙ lt)) j)
      where
        top_trimmed : (g h : Polynomial E) → Contains G g → Contains G h → IsTrimmed (lcm (lead_monomial g) (lead_monomial h))
        top_trimmed g h hg hh = IsTrimmed-least_common_multiple (lead_monomial g) (lead_monomial h) (monomials g hg).trimmed (monomials h hh).trimmed

    -- the terms at M taken together, at one member, and what is below M
    record IsGathered (M : Exponents) (a : Polynomial E) : Type 0 where
      member : Polynomial E
      contains : Contains G member
      by : Exponents
      monomial : IsMonomial O.places by
      is : product by (lead_monomial member) ≡ M
      front : E
      value : IsValue K front
      rest : Polynomial E
      under : Combines K O G (Under O M) rest
      sums : Same K a (scaled K (term_of by front) member ++ rest)

    gather : (M : Exponents) → O.degree M ≤ c → (ss : List (Step E)) → AreSteps K O G (AtMost O M) ss → Combines K O G (Under O M) (sum_of_steps K ss) ⊎ IsGathered M (sum_of_steps K ss)
    gather M l [] k = inl (combines_zero K F O L G (Under O M))
    gather M l (s ∷ ss) k = ⊎_elim (λ e. ⊎_elim (λ u. inr (first e u)) (λ r. inr (joined e r)) (gather M l ss k.3)) (λ lt. ⊎_elim (λ u. inl (below lt u)) (λ r. inr (beside lt r)) (gather M l ss k.3)) k.2
      where
        here : Polynomial E
        here = scaled K s.term s.of

        first : product s.term.at (lead_monomial s.of) ≡ M → Combines K O G (Under O M) (sum_of_steps K ss) → IsGathered M (scaled K s.term s.of ++ sum_of_steps K ss)
        first e u = record {
          member = s.of;
          contains = k.1;
          by = s.term.at;
          monomial = k.0.monomial;
          is = e;
          front = s.term.by;
          value = k.0.value;
          rest = sum_of_steps K ss;
          under = u;
          sums = λ m. refl;
        }

        below : O.compare (product s.term.at (lead_monomial s.of)) M ≡ Less → Combines K O G (Under O M) (sum_of_steps K ss) → Combines K O G (Under O M) (scaled K s.term s.of ++ sum_of_steps K ss)
        below lt u = combines_plus K F O L G (Under O M) (scaled K s.term s.of) (sum_of_steps K ss) (combines_one K F O L G (Under O M) s.term s.of k.0 k.1 lt) u

        beside : O.compare (product s.term.at (lead_monomial s.of)) M ≡ Less → IsGathered M (sum_of_steps K ss) → IsGathered M (scaled K s.term s.of ++ sum_of_steps K ss)
        beside lt r = record {
          member = r.member;
          contains = r.contains;
          by = r.by;
          monomial = r.monomial;
          is = r.is;
          front = r.front;
          value = r.value;
          rest = scaled K s.term s.of ++ r.rest;
          under = combines_plus K F O L G (Under O M) (scaled K s.term s.of) r.rest (combines_one K F O L G (Under O M) s.term s.of k.0 k.1 lt) r.under;
          sums = sum_swap K F (scaled K s.term s.of) (sum_of_steps K ss) (scaled K (term_of r.by r.front) r.member) r.rest r.sums;
        }

        joined : product s.term.at (lead_monomial s.of) ≡ M → IsGathered M (sum_of_steps K ss) → IsGathered M (scaled K s.term s.of ++ sum_of_steps K ss)
        joined e r = record {
          member = r.member;
          contains = r.contains;
          by = r.by;
          monomial = r.monomial;
          is = r.is;
          front = K.plus s.term.by r.front;
          value = F.plus_value s.term.by r.front;
          rest = scaled K (term_of [] s.term.by) difference ++ r.rest;
          under = combines_plus K F O L G (Under O M) (scaled K (term_of [] s.term.by) difference) r.rest
              (combines_constant K F O L G monomials (Under O M) s.term.by difference k.0.value (same_multiple M s.term.at r.by s.of r.member k.1 r.contains k.0.monomial r.monomial e r.is l)) r.under;
          sums = λ m.
              let x = coefficient K (scaled K (term_of s.term.at K.one) s.of) m in
              let y = coefficient K (scaled K (term_of r.by K.one) r.member) m in
              simp (coefficient-append K F, r.sums, coefficient-scaled K F, coefficient-negated K F, coefficient-front K F s.term.at s.term.by s.of m k.0.value, coefficient-front K F r.by r.front r.member m r.value, coefficient-front K F r.by (K.plus s.term.by r.front) r.member m (F.plus_value s.term.by r.front)) (moved K F s.term.by r.front x y (coefficient K r.rest m));
        }
          where
            difference : Polynomial E
            difference = minus K (scaled K (term_of s.term.at K.one) s.of) (scaled K (term_of r.by K.one) r.member)

    -- a combination whose products are at most M has a standard representation, and its lead is a multiple of a lead
    pub record IsLed (a : Polynomial E) (m : Exponents) : Type 0 where
      pub combines : Combines K O G (AtMost O m) a
      pub divisor : HasLeadDivisor G m

    abbrev AllLed : Exponents → Type 0
    AllLed M = (a : Polynomial E) → Combines K O G (AtMost O M) a → (m : Exponents) → IsLead K O a m → IsLed a m

    pub led : (M : Exponents) → IsWithin O L c M → (a : Polynomial E) → Combines K O G (AtMost O M) a → (m : Exponents) → IsLead K O a m → IsLed a m
    led = below_induction O L c AllLed step
      where
        lower : (M : Exponents) → IsWithin O L c M → ((k : Exponents) → IsWithin O L c k → O.compare k M ≡ Less → AllLed k) →
            (a : Polynomial E) → Combines K O G (Under O M) a → (m : Exponents) → IsLead K O a m → IsLed a m
        lower M w ih a u m h = ⊎_elim
            (λ z. absurd (zero_no_lead K O a m z h))
            (λ r. ih r.0 (record { monomial = r.1.monomial; degree = let d = less_degree O L r.0 M r.1.bound in let e = w.degree in omega arith }) r.1.bound a r.1.combines m h)
            (top K F O L G monomials (Under O M) a u)

        step : (M : Exponents) → IsWithin O L c M → ((k : Exponents) → IsWithin O L c k → O.compare k M ≡ Less → AllLed k) →
            (a : Polynomial E) → Combines K O G (AtMost O M) a → (m : Exponents) → IsLead K O a m → IsLed a m
        step M w ih a h m lead_m = ⊎_elim
            (λ u. lower M w ih a (combines_same K F O L G (Under O M) (sum_of_steps K h.steps) a (λ n. sym (h.sums n)) u) m lead_m)
            (λ r. ⊎_elim (none r) (some r) (F.equal_or_not r.front K.zero))
            (gather M w.degree h.steps h.are)
          where
            none : (r : IsGathered M (sum_of_steps K h.steps)) → r.front ≡ K.zero → IsLed a m
            none r z = lower M w ih a (combines_same K F O L G (Under O M) r.rest a (λ n.
                let x = coefficient K (scaled K (term_of r.by K.one) r.member) n in
                cc (h.sums n, r.sums n, coefficient-append K F (scaled K (term_of r.by r.front) r.member) r.rest n, coefficient-front K F r.by r.front r.member n r.value, z, zero-times K F x, zero-plus K F (coefficient K r.rest n), coefficient_value K F r.rest n)) r.under) m lead_m

            some : (r : IsGathered M (sum_of_steps K h.steps)) → r.front ≢ K.zero → IsLed a m
            some r nz =
                let g = HG r.member r.contains in
                let first : IsLead K O (scaled K (term_of r.by r.front) r.member) M =
                subst (IsLead K O (scaled K (term_of r.by r.front) r.member)) r.is (scaled_leads K F O L (term_of r.by r.front) r.member (record { monomial = r.monomial; value = r.value }) nz g.decreasing g.monic) in
                let whole : IsLead K O a M = IsLead_same K F O L (scaled K (term_of r.by r.front) r.member ++ r.rest) a M (λ n. sym (h.sums n ∙ r.sums n))
                (lead_sum K F O L (scaled K (term_of r.by r.front) r.member) r.rest M first (under_found M r.rest r.under)) in
                let is : M ≡ m = IsLead_unique K F O L a M m whole lead_m in
                record {
                  combines = subst (λ x. Combines K O G (AtMost O x) a) is h;
                  divisor = (r.member, r.contains, subst (Divides (lead_monomial r.member)) (r.is ∙ is) (Divides-product_right r.by (lead_monomial r.member)));
                }

    module _ (rs : List (Polynomial E)) (HR : AreGenerators K O rs)
        (reduces : (r : Polynomial E) → Contains rs r → (d : ℕ) → d ≤ c → IsHomogeneous K O d r → HasStandardRepresentation K O G r) where
      abbrev pub Small : Exponents → Type 0
      Small m = O.degree m ≤ c

      -- the part of degree d of a term times a generator
      term_part : (d : ℕ) → d ≤ c → (t : Term E) (r : Polynomial E) → IsTerm K O.places t → IsGenerator K O r → Contains rs r → Combines K O G Small (component O d (scaled K t r))
      unfolding coefficient
      term_part d l t r ht hr k = ⊎_elim none some hr.homogeneous
        where
          nothing : Same K (component O d (scaled K t r)) [] → Combines K O G Small (component O d (scaled K t r))
          nothing z = combines_same K F O L G Small [] (component O d (scaled K t r)) (λ m. sym (z m)) (combines_zero K F O L G Small)

          none : ((m : Exponents) → coefficient K r m ≡ K.zero) → Combines K O G Small (component O d (scaled K t r))
          none z = nothing (component_same K F O L d (scaled K t r) [] (scaled_same K F t r [] z))

          some : (e : ℕ) × (1 ≤ e) × IsHomogeneous K O e r → Combines K O G Small (component O d (scaled K t r))
          some h =
              elim (nat_eq (O.degree t.at + h.0) d) as (λ b. nat_eq (O.degree t.at + h.0) d ≡ b → Combines K O G Small (component O d (scaled K t r))) [
                | true ↦ λ e. here (eqb-true (O.degree t.at + h.0) d e)
                | false ↦ λ e. nothing (graded_no_component K F O L d (O.degree t.at + h.0) (scaled K t r) poly graded (λ q. true≢false (sym (eq-eqb (O.degree t.at + h.0) d q) ∙ e)))
              ] refl
            where
              poly : IsPoly K O.places (scaled K t r)
              poly = IsPoly-scaled K F O.places t r ht hr.poly

              graded : IsGraded K F O L (O.degree t.at + h.0) (scaled K t r)
              graded = subst (IsGraded K F O L (O.degree t.at + h.0)) (scaled_is K F t r)
                  (graded_times K F O L (t ∷ []) r (O.degree t.at) h.0 (ht, tt) hr.poly (λ m n. ap O.degree (sym (single_term K F t.at t.by m n))) h.2.each)

              lead_of : Same K r [] ⊎ ((M : Exponents) × IsLead K O r M) → (M : Exponents) × IsLead K O r M
              lead_of s = ⊎_elim (λ z. absurd (h.2.some.1 (z h.2.some.0))) (λ x. x) s

              here : O.degree t.at + h.0 ≡ d → Combines K O G Small (component O d (scaled K t r))
              here e =
                  let M = lead_of (zero_or_lead K F O L r hr.poly) in
                  let dm = h.2.each M.0 M.1.nonzero in
                  combines_same K F O L G Small (scaled K t r) (component O d (scaled K t r))
                  (λ m. sym (graded_component K F O L d (scaled K t r) poly (subst (λ x. IsGraded K F O L x (scaled K t r)) e graded) m))
                  (combines_scaled K F O L G monomials (AtMost O M.0) Small t r ht
                  (λ m hm b. let p = L.degree_product t.at m in let q = at_most_degree O L M.0 m b in omega arith)
                  (reduces r k h.0 (omega arith) h.2 M.0 M.1))

      times_part : (d : ℕ) → d ≤ c → (q r : Polynomial E) → IsPoly K O.places q → IsGenerator K O r → Contains rs r → Combines K O G Small (component O d (times K q r))
      times_part d l [] r hq hr k = combines_zero K F O L G Small
      times_part d l (t ∷ q) r hq hr k =
          subst (Combines K O G Small) (sym (component-append O d (scaled K t r) (times K q r)))
          (combines_plus K F O L G Small (component O d (scaled K t r)) (component O d (times K q r)) (term_part d l t r hq.0 hr k) (times_part d l q r hq.1 hr k))

      -- the part of degree d at most c of a member of the ideal
      pub member_part : (d : ℕ) → d ≤ c → (a : Polynomial E) → InIdeal K O.places rs a → Combines K O G Small (component O d a)
      member_part d l a h =
          combines_same K F O L G Small (component O d (sum_of K h.parts)) (component O d a) (λ m. sym (component_same K F O L d a (sum_of K h.parts) h.sums m)) (all h.parts h.multiples)
        where
          all : (ws : List (Multiple E)) → AreMultiples K O.places rs ws → Combines K O G Small (component O d (sum_of K ws))
          all [] k = combines_zero K F O L G Small
          all (w ∷ ws) k =
              subst (Combines K O G Small) (sym (component-append O d (times K w.by w.of) (sum_of K ws)))
              (combines_plus K F O L G Small (component O d (times K w.by w.of)) (component O d (sum_of K ws))
              (times_part d l w.by w.of k.0 (generator_of K O rs HR w.of k.1) k.1) (all ws k.2))

      -- the lead of a member of the ideal, of a degree at most c
      pub lead_divided : (a : Polynomial E) (m : Exponents) → InIdeal K O.places rs a → IsLead K O a m → O.degree m ≤ c → HasLeadDivisor G m
      unfolding coefficient
      lead_divided a m h lm l = ⊎_elim
          (λ z. absurd (part_lead.nonzero (z m)))
          (λ r. (led r.0 (record { monomial = r.1.monomial; degree = r.1.bound }) (component O (O.degree m) a) r.1.combines m part_lead).divisor)
          (top K F O L G monomials Small (component O (O.degree m) a) (member_part (O.degree m) l a h))
        where
          part_lead : IsLead K O (component O (O.degree m) a) m
          part_lead = (component_leads K F O L a m lm).0

-- a monic member is a reducer
pub reducer : {E : Type 0} (P : Presented E) → IsPresentation P → (G : List (Polynomial E)) → AreMonicMembers P G → AreReducers P.field P.order G
reducer P H G members g h = let m = members g h in record { decreasing = m.decreasing; monic = m.monic }

module _ {E : Type 0} (P : Presented E) (H : IsPresentation P) (c : ℕ) (G : List (Polynomial E)) (HG : ReducesGenerators P c G) (HP : RepresentsPairs P c G) where
  pub criterion : (m : Exponents) → LeadsIdeal P m → P.order.degree m ≤ c → HasLeadDivisor G m
  criterion m h l =
      lead_divided P.field H.field P.order H.order G (reducer P H G HG.members) c HP P.ideal H.ideal HG.generators h.member m h.inside h.leads l

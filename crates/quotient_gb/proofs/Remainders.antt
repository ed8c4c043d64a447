-- The steps of a reduction over a presentation.
use Rattle.std.proofs.Common.{◌≡◌, ◌≢◌, ◌+◌, ◌≤◌, sym, ◌∙◌, ap, subst, List, [], ◌∷◌, ◌++◌, length, append-nil, arith}
use Rattle.std.specs.Prelude.{Contains}
use Rattle.word_field.specs.Field.{IsValue}
use Rattle.word_field.specs.laws.Field.{plus_four}
use Rattle.monomial_order.specs.declared.terms.Term.{Term}
use Rattle.monomial_order.specs.Monomial.{product, IsMonomial, IsTrimmed, Exponents, least_common_multiple}
use Rattle.monomial_order.specs.laws.Monomial.{product_comm, IsMonomial-least_common_multiple}
use Rattle.polynomials.specs.Polynomial.{Polynomial, coefficient, Same, term_of, term_times, scaled, negated, AllAt, IsSmall, lead_monomial}
use Rattle.polynomials.specs.laws.Coefficients.{scaled_small, found_monomial}
use Rattle.polynomials.specs.laws.Decreasing.{IsDecreasing_IsPoly, IsDecreasing_unique, coefficient_first}
use Rattle.polynomials.specs.laws.Degrees.{decreasing_all}
use Rattle.polynomials.specs.laws.Ring.{coefficient-append}
use Rattle.polynomials.specs.laws.Same.{coefficient-negated}
use Rattle.polynomials.specs.laws.Terms.{canonical_left, canonical_right}
use Rattle.polynomials.specs.laws.Value.{one_times}
use Rattle.polynomials.specs.Subalgebra.{Presented, IsPresentation}
use Rattle.quotient_gb.specs.Combinations.{HasLeadDivisor}
use Rattle.quotient_gb.specs.Remainder.{IsCanonicalIn, IsReducerIn, AreReducersIn, IsLeadReduction, IsRemainderIn}
use Rattle.quotient_gb.proofs.Criterion.{IsReducer, AreReducers, monic_monomial}
use Rattle.quotient_gb.proofs.Multiples.{divides_left}
use Rattle.quotient_gb.proofs.Reducing.{IsReducing, by_monomial, cancel_small, cancel_below, reducing_start, reducing_cancel, reducing_move, reducing_end}

-- the multiple of g by the term c * u is canonical
pub record IsFactor {E : Type 0} (P : Presented E) (g : Polynomial E) (u : Exponents) (c : E) : Type 0 where
  pub monomial : IsMonomial P.order.places u
  pub value : IsValue P.field c
  pub small : IsSmall P.order (scaled P.field (term_of u c) g)

module _ {E : Type 0} (P : Presented E) (H : IsPresentation P) where
  monic_reducer : (g : Polynomial E) → IsReducerIn P g → IsReducer P.field P.order g
  monic_reducer g h = record { decreasing = h.canonical.decreasing; monic = h.monic }

  pub reducer_monomial : (g : Polynomial E) → IsReducerIn P g → IsMonomial P.order.places (lead_monomial g)
  reducer_monomial g h = monic_monomial P.field H.field P.order H.order g h.canonical.decreasing h.monic

  pub lcm_monomial : (g h : Polynomial E) → IsReducerIn P g → IsReducerIn P h → (top : Exponents) → top ≡ least_common_multiple (lead_monomial g) (lead_monomial h) → IsMonomial P.order.places top
  lcm_monomial g h kg kh top e = subst (IsMonomial P.order.places) (sym e) (IsMonomial-least_common_multiple P.order.places (lead_monomial g) (lead_monomial h) (reducer_monomial g kg) (reducer_monomial h kh))

  pub raising_factor : (g : Polynomial E) → IsReducerIn P g → (u : Exponents) → IsTrimmed u → IsMonomial P.order.places (product u (lead_monomial g)) → P.order.degree (product u (lead_monomial g)) ≤ 65535 →
      (c : E) → c ≡ P.field.one → IsFactor P g u c
  raising_factor g h u tu hm l c e = subst (IsFactor P g u) (sym e) (record {
    monomial = divides_left u (lead_monomial g) P.order.places hm tu;
    value = H.field.one_value;
    small = scaled_small P.field H.field P.order H.order (term_of u P.field.one) g (record { monomial = divides_left u (lead_monomial g) P.order.places hm tu; value = H.field.one_value }) h.canonical.decreasing l;
  })

  -- monomials in at most 32 places are stored without an allocation
  pub short_monomials : P.order.places ≤ 32 → (p : Polynomial E) → IsCanonicalIn P p → AllAt (λ k. length k ≤ 32) p
  short_monomials l p k = decreasing_all P.field H.field P.order H.order (λ k. length k ≤ 32) p k.decreasing
      (λ m n. let w = (found_monomial P.field H.field P.order H.order p (IsDecreasing_IsPoly P.field P.order p k.decreasing) m n).within in omega arith)

  pub one_time : (p work : Polynomial E) → IsCanonicalIn P p → IsCanonicalIn P work → (c : E) → c ≡ P.field.one → Same P.field work (scaled P.field (term_of [] c) p) → work ≡ p
  one_time p work kp kw c e s = IsDecreasing_unique P.field H.field P.order H.order work p kw.decreasing kp.decreasing
      (λ m. s m ∙ (ap (λ x. coefficient P.field (scaled P.field (term_of [] x) p) m) e ∙ (ap (λ x. coefficient P.field x m) (sym (append-nil (scaled P.field (term_of [] P.field.one) p))) ∙ one_times P.field H.field p m)))

-- the first term alone
module _ {E : Type 0} (P : Presented E) (H : IsPresentation P) (a : Polynomial E) (ka : IsCanonicalIn P a) (t : Term E) (w : Polynomial E) (is : a ≡ t ∷ w) (plus : Polynomial E) (m : Exponents)
    (e : m ≡ t.at) (h : t.by ≢ P.field.zero → plus ≡ term_of m t.by ∷ []) where
  pub first_form : plus ≡ t ∷ []
  first_form = h (subst (IsCanonicalIn P) is ka).decreasing.0.nonzero ∙ ap (λ x. term_of x t.by ∷ []) e

  pub first_is_canonical : IsCanonicalIn P plus
  first_is_canonical =
      let k = subst (IsCanonicalIn P) is ka in
      let d = k.decreasing.0 in
      subst (IsCanonicalIn P) (sym first_form) (record { decreasing = (record { term = d.term; nonzero = d.nonzero; above = tt }, tt); small = (k.small.0, tt) })

module _ {E : Type 0} (P : Presented E) (H : IsPresentation P) (t : Term E) (w : Polynomial E) (k : IsCanonicalIn P (t ∷ w)) (top : Term E) (tail : Polynomial E) (kg : IsReducerIn P (top ∷ tail))
    (u : Exponents) (tu : IsTrimmed u) (at : product top.at u ≡ t.at) (c : E) (by : c ≡ P.field.negate t.by) where
  one_first : top.by ≡ P.field.one
  one_first = sym (coefficient_first P.field H.field P.order H.order top tail kg.canonical.decreasing.0) ∙ kg.monic

  whole_small : IsSmall P.order (scaled P.field (term_of u c) (top ∷ tail))
  whole_small = subst (λ x. IsSmall P.order (scaled P.field (term_of u x) (top ∷ tail))) (sym by) (cancel_small P.field H.field P.order H.order t w k (top ∷ tail) u kg.canonical kg.monic tu at)

  pub tail_factor : IsFactor P tail u c
  tail_factor = record {
    monomial = by_monomial P.field H.field P.order H.order t w k (top ∷ tail) u kg.canonical kg.monic tu at;
    value = ap P.field.reduce by ∙ (H.field.negate_value t.by ∙ sym by);
    small = whole_small.1;
  }

  -- the lead of the multiple is the term's negative
  cancelled : term_times P.field (term_of u c) top ≡ term_of t.at (P.field.negate t.by)
  cancelled = ap (λ x. term_of x (P.field.times c top.by)) (product_comm u top.at ∙ at) ∙ ap (term_of t.at) (ap (P.field.times c) one_first ∙ (H.field.times_one c ∙ (tail_factor.value ∙ by)))

  pub lead_reduction : (r : Polynomial E) → IsCanonicalIn P r → Same P.field r (w ++ scaled P.field (term_of u c) tail) → IsLeadReduction P (t ∷ w) (top ∷ tail) r
  lead_reduction r kr hr = record {
    canonical = kr;
    below = cancel_below P.field H.field P.order H.order t w k (top ∷ tail) u kg.canonical kg.monic tu at r kr.decreasing
        (subst (λ x. Same P.field r ((t ∷ w) ++ scaled P.field (term_of u x) (top ∷ tail))) by sum);
    term = term_of u c;
    is_term = record { monomial = tail_factor.monomial; value = tail_factor.value };
    at = product_comm u top.at ∙ at;
    sum = sum;
  }
    where
      sum : Same P.field r ((t ∷ w) ++ scaled P.field (term_of u c) (top ∷ tail))
      sum m =
          let K = P.field in
          let F = H.field in
          let A = t ∷ [] in
          let B = scaled K (term_of u c) tail in
          let two : coefficient K (t ∷ w) m ≡ K.plus (coefficient K A m) (coefficient K w m) = coefficient-append K F A w m in
          let four : coefficient K (term_times K (term_of u c) top ∷ B) m ≡ K.plus (K.negate (coefficient K A m)) (coefficient K B m) =
          ap (λ x. coefficient K (x ∷ B) m) cancelled ∙ (coefficient-append K F (negated K A) B m ∙ ap (λ x. K.plus x (coefficient K B m)) (coefficient-negated K F A m)) in
          hr m ∙ (coefficient-append K F w B m ∙ sym (coefficient-append K F (t ∷ w) (term_times K (term_of u c) top ∷ B) m ∙
          simp (two, four, plus_four K F (coefficient K A m) (coefficient K w m) (K.negate (coefficient K A m)) (coefficient K B m), F.plus_negate, F.plus_comm K.zero (K.plus (coefficient K w m) (coefficient K B m)), F.plus_zero, F.plus_value)))

-- what the loop maintains
abbrev pub IsReducingIn : {E : Type 0} → Presented E → List (Polynomial E) → Polynomial E → Polynomial E → Polynomial E → Type 0
IsReducingIn P G a done work = IsReducing P.field P.order G a done work

module _ {E : Type 0} (P : Presented E) (H : IsPresentation P) (G : List (Polynomial E)) (HG : AreReducersIn P G) (a : Polynomial E) where
  reducers : AreReducers P.field P.order G
  reducers g k = monic_reducer P H g (HG g k)

  pub start : IsCanonicalIn P a → IsReducingIn P G a [] a
  start k = reducing_start P.field H.field P.order H.order G reducers a k

  pub work_is_canonical : (done work : Polynomial E) → IsReducingIn P G a done work → IsCanonicalIn P work
  work_is_canonical done work h = canonical_right P.field P.order done work h.canonical

  pub after_reduction : (done : Polynomial E) (t : Term E) (w g next : Polynomial E) → IsReducingIn P G a done (t ∷ w) → Contains G g → IsLeadReduction P (t ∷ w) g next → IsReducingIn P G a done next
  after_reduction done t w g next h k r = reducing_cancel P.field H.field P.order H.order G reducers a done t w h next g r.term k r.is_term r.at r.canonical r.sum r.below

  pub after_move : (done : Polynomial E) (t : Term E) (w : Polynomial E) → IsReducingIn P G a done (t ∷ w) → (¬ HasLeadDivisor G t.at) → IsReducingIn P G a (done ++ (t ∷ [])) w
  after_move done t w h none = reducing_move P.field H.field P.order H.order G reducers a done t w h none

  pub finished : (done : Polynomial E) → IsReducingIn P G a done [] → IsRemainderIn P G a done
  finished done h = record {
    canonical = canonical_left P.field P.order done [] h.canonical;
    remainder = reducing_end P.field H.field P.order H.order G reducers a done h;
  }

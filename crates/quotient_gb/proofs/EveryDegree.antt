-- A closed quotient: a basis to every degree.
use Rattle.std.proofs.Common.{◌≡◌, ◌≢◌, ℕ, ◌+◌, ◌≤◌, ◌<◌, sym, ◌∙◌, ap, subst, List, [], length, get_or, arith, ◌⊎◌, inl, inr, ⊎_elim, Bool, true}
use Rattle.std.proofs.lemmas.List.{length-map}
use Rattle.std.specs.Prelude.{Contains}
use Rattle.monomial_order.specs.Monomial.{least_common_multiple, IsMultiple, AreCoprime, Exponents}
use Rattle.monomial_order.specs.laws.Comparing.{le_or_not, degree_one}
use Rattle.monomial_order.specs.laws.Lists.{contains_at, contains_map}
use Rattle.polynomials.specs.Ideal.{InIdeal}
use Rattle.polynomials.specs.Polynomial.{Polynomial, Same, IsDecreasing, IsHomogeneous, lead_monomial, degree_of}
use Rattle.polynomials.specs.laws.Coefficients.{decreasing_leads}
use Rattle.poly_core.specs.Presentation.{IsCanonicalGenerator}
use Rattle.polynomials.specs.Subalgebra.{Presented, IsPresentation, LeadsIdeal}
use Rattle.quotient_gb.specs.declared.basis.Basis.{Basis}
use Rattle.quotient_gb.specs.declared.critical_pair.CriticalPair.{CriticalPair}
use Rattle.quotient_gb.specs.Combinations.{HasLeadDivisor}
use Rattle.quotient_gb.specs.Criterion.{AreCofactors, s_polynomial, HasStandardSPolynomial, HasRepresentationBelow, ReducesGenerators}
use Rattle.quotient_gb.specs.CriticalPairs.{pair_degree, IsCriticalPair, HasPairsAbove}
use Rattle.quotient_gb.specs.DegreeStep.{IsBasisTo, ReducesPairOf}
use Rattle.quotient_gb.specs.IdealBasis.{IsIdealBasis}
use Rattle.quotient_gb.specs.Quotient.{QuotientState, IsQuotientOf, IsClosed, HasGeneratorAbove, HasOtherLead, with_degree, with_closed}
use Rattle.quotient_gb.specs.Remainder.{IsReducerIn, AreReducersIn, IsRemainderIn}
use Rattle.quotient_gb.proofs.Closing.{each_two}
use Rattle.quotient_gb.proofs.Complete.{complete_pairs, complete_generators}
use Rattle.quotient_gb.proofs.Criterion.{criterion, reducer, AreReducers}
use Rattle.quotient_gb.proofs.Finishing.{closed_more}
use Rattle.quotient_gb.proofs.Multiples.{degree-lcm}
use Rattle.quotient_gb.proofs.Offering.{nothing_left, rest_inside, rest_fresh}
use Rattle.quotient_gb.proofs.Pairs.{below_sym, below_self, below_standard, below_coprime}
use Rattle.quotient_gb.proofs.Places.{has_divisor, is_multiple, lead_at, not_below}
use Rattle.quotient_gb.proofs.Remainders.{reducer_monomial}
use Rattle.quotient_gb.proofs.Representations.{homogeneous_degree}
use Rattle.quotient_gb.proofs.SPolynomials.{pair_degree_is, pair_inside, pair_reduced, first_index, second_index, first_is, second_is}
use Rattle.quotient_gb.proofs.Steps.{reducer_of}

-- if no generator has a degree above c and the critical pairs reduce, the basis to c is closed
module _ {F E : Type 0} (P : Presented E) (H : IsPresentation P) (b : Basis F E) (c : ℕ) (hb : IsBasisTo P c b) (ws : List CriticalPair) (hw : HasPairsAbove P.order b.leads.items c ws)
    (generators : (r : Polynomial E) → Contains P.ideal r → (d : ℕ) → IsHomogeneous P.field P.order d r → d ≤ c)
    (pairs : (w : CriticalPair) → Contains ws w → ReducesPairOf P b.members.items w) where
  abbrev G : List (Polynomial E)
  G = b.members.items

  divides_lower : (m : Exponents) → LeadsIdeal P m → P.order.degree m ≤ c → HasLeadDivisor G m
  divides_lower m k l = has_divisor G m (hb.basis.leads.divides m k l)

  reducers : AreReducers P.field P.order G
  reducers = reducer P H G hb.basis.members

  all_generators : (n : ℕ) → ReducesGenerators P n G
  all_generators n = record {
    members = hb.basis.members;
    generators = λ r k d l h. complete_generators P H G hb.basis.members c divides_lower r k d (generators r k d h) h;
  }

  abbrev Represents : Polynomial E → Polynomial E → Type 0
  Represents x y = HasRepresentationBelow P.field P.order G x y

  represents_at : (i j : ℕ) → i < j → j < length G → Represents (get_or G i []) (get_or G j [])
  represents_at i j lt l = ⊎_elim
      (λ le. complete_pairs P H G hb.basis.members c divides_lower (get_or G i []) (get_or G j []) hi hj (subst (λ n. n ≤ c) degree_is le))
      (λ n. ⊎_elim
      (λ co. below_coprime P.field H.field P.order H.order G reducers (get_or G i []) (get_or G j []) hi hj (subst (λ m. AreCoprime m (lead_monomial (get_or G j []))) (is i) (subst (AreCoprime (get_or b.leads.items i [])) (is j) co)))
      (λ k. below_standard P.field H.field P.order H.order G reducers (get_or G i []) (get_or G j []) hi hj (pairs _ k))
      (hw.listed i j lt (let e : length b.leads.items ≡ length G = ap length hb.leads ∙ length-map G lead_monomial in omega arith) (not_below (pair_degree P.order b.leads.items i j) c n)))
      (le_or_not (pair_degree P.order b.leads.items i j) c)
    where
      hi : Contains G (get_or G i [])
      hi = contains_at G i [] (omega arith)

      hj : Contains G (get_or G j [])
      hj = contains_at G j [] l

      is : (k : ℕ) → get_or b.leads.items k [] ≡ lead_monomial (get_or G k [])
      is k = ap (λ ms. get_or ms k []) hb.leads ∙ lead_at G k

      degree_is : pair_degree P.order b.leads.items i j ≡ P.order.degree (least_common_multiple (lead_monomial (get_or G i [])) (lead_monomial (get_or G j [])))
      degree_is = ap (λ ms. pair_degree P.order ms i j) hb.leads ∙ pair_degree_is P.order G i j

  represents_all : (x y : Polynomial E) → Contains G x → Contains G y → Represents x y
  represents_all = each_two [] G Represents (λ x y. below_sym P.field H.field P.order H.order G reducers x y) (λ x. below_self P.field H.field P.order H.order G reducers x) represents_at

  pub is_closed : IsClosed P c b.leads.items
  is_closed = record {
    generators = generators;
    divides = λ m k. subst (λ ms. IsMultiple ms m) (sym hb.leads)
        (is_multiple G m (criterion P H (P.order.degree m) G (all_generators (P.order.degree m)) (λ x y hx hy l. represents_all x y hx hy) m k (omega arith)));
  }

module _ {E : Type 0} (P : Presented E) (q : QuotientState E) (h : IsQuotientOf P q) where
  module _ (t : q.closed ≡ true) (n : ℕ) (l : q.degree ≤ n) where
    closed_basis : IsIdealBasis P n q.members
    closed_basis = record {
      members = h.basis.members;
      tails = h.basis.tails;
      leads = record {
        increasing = h.basis.leads.increasing;
        leads = h.basis.leads.leads;
        degrees = λ m k. let d = h.basis.leads.degrees m k in omega arith;
        minimal = h.basis.leads.minimal;
        divides = λ m k d. subst (λ ms. IsMultiple ms m) h.leads ((h.closed t).divides m k);
      };
    }

    -- a closed quotient is one of each greater degree
    pub closed_quotient : n ≤ 30000 → IsQuotientOf P (with_degree n q)
    closed_quotient s = record {
      small = s;
      basis = closed_basis;
      leads = h.leads;
      pairs = record { each = h.pairs.each; listed = λ i j lt k above. h.pairs.listed i j lt k (omega arith) };
      closed = λ e. closed_more P q.degree n q.leads q.leads l (λ m k. k) (h.closed t);
    }

  -- a basis to the degree d
  pub known_to : (d : ℕ) → (d ≤ q.degree) ⊎ (q.closed ≡ true) → (n : ℕ) × (d ≤ n) × IsIdealBasis P n q.members
  known_to d k = ⊎_elim (λ l. (q.degree, l, h.basis)) (λ t. (q.degree + d, omega arith, closed_basis t (q.degree + d) (omega arith))) k

  -- a quotient of which it is found out whether it is closed
  pub found_closed : (b : Bool) → (b ≡ true → IsClosed P q.degree q.leads) → IsQuotientOf P (with_closed b q)
  found_closed b k = record { small = h.small; basis = h.basis; leads = h.leads; pairs = h.pairs; closed = k }

-- generators, and their degrees
module _ {E : Type 0} (P : Presented E) (H : IsPresentation P) where
  pub generator_above : (r : Polynomial E) → Contains P.ideal r → IsCanonicalGenerator P.field P.order r → (d : ℕ) → d < degree_of P.order r → HasGeneratorAbove P d
  generator_above r k h d l = ⊎_elim
      (λ z. absurd (let e : degree_of P.order r ≡ P.order.degree [] = ap (degree_of P.order) z in let o = degree_one P.order H.order in omega arith))
      (λ (e, low, high, hr). ⊎_elim (λ lt. let q : d < e = omega arith in (r, k, e, hr, q)) (λ n. absurd (homogeneous_degree P H r e h.canonical.decreasing hr (inr (λ q. n (omega arith))))) (le_or_not (d + 1) e))
      h.homogeneous

  pub generator_not_above : (r : Polynomial E) → IsDecreasing P.field P.order r → (d : ℕ) → (r ≡ []) ⊎ (degree_of P.order r ≤ d) → (e : ℕ) → IsHomogeneous P.field P.order e r → e ≤ d
  generator_not_above r f d n e h = ⊎_elim (λ l. l) (λ g. absurd (homogeneous_degree P H r e f h (⊎_elim (λ z. inl z) (λ l. inr (λ q. g (omega arith))) n))) (le_or_not e d)

-- the S-polynomial of two members, x and y
module _ {F E : Type 0} (P : Presented E) (H : IsPresentation P) (b : Basis F E) (c : ℕ) (l : c ≤ 15000) (hb : IsBasisTo P c b) where
  member_degree : (g : Polynomial E) → Contains b.members.items g → P.order.degree (lead_monomial g) ≤ 15000
  member_degree g k = let d = hb.basis.leads.degrees (lead_monomial g) (contains_map lead_monomial b.members.items g k) in omega arith

  pub basis_reducers : AreReducersIn P b.members.items
  basis_reducers g k = reducer_of P H g (hb.basis.members g k) (let d = member_degree g k in omega arith)

  module _ (w : CriticalPair) (hw : IsCriticalPair P.order b.leads.items w) (x y : Polynomial E) (ix : get_or b.members.items w.first x ≡ x) (iy : get_or b.members.items w.second y ≡ y) where
    x_in : Contains b.members.items x
    x_in = (w.first, first_index P b hb.leads w hw, ix)

    y_in : Contains b.members.items y
    y_in = (w.second, second_index P b hb.leads w hw, iy)

    pub first_reducer : IsReducerIn P x
    first_reducer = basis_reducers x x_in

    pub second_reducer : IsReducerIn P y
    second_reducer = basis_reducers y y_in

    pub top_small : P.order.degree (least_common_multiple (lead_monomial x) (lead_monomial y)) ≤ 65535
    top_small =
        let e = degree-lcm P.order H.order P.order.places (lead_monomial x) (lead_monomial y) (reducer_monomial P H x first_reducer) (reducer_monomial P H y second_reducer) in
        let dx = member_degree x x_in in
        let dy = member_degree y y_in in omega arith

    module _ (a : Polynomial E) (fa : IsDecreasing P.field P.order a) (D : (u v : Exponents) × AreCofactors u (lead_monomial x) v (lead_monomial y) × Same P.field a (s_polynomial P.field u x v y))
        (rest : Polynomial E) (r : IsRemainderIn P b.members.items a rest) where
      inside : InIdeal P.field P.order.places P.ideal a
      inside = pair_inside P H b.members.items hb.basis.members x y x_in y_in a fa D

      pub pair_to_zero : rest ≡ [] → ReducesPairOf P b.members.items w
      pair_to_zero z =
          subst (λ g. HasStandardSPolynomial P.field P.order b.members.items g (get_or b.members.items w.second [])) (sym (first_is P b hb.leads w hw x y ix iy))
          (subst (HasStandardSPolynomial P.field P.order b.members.items x) (sym (second_is P b hb.leads w hw x y ix iy))
          (pair_reduced P H b.members.items hb.basis.members x y x_in y_in a fa D b.members.items (nothing_left P H b.members.items hb.basis.members a rest fa inside r.remainder z)))

      pub pair_to_lead : rest ≢ [] → HasOtherLead P b.leads.items
      pair_to_lead n =
          let f = r.canonical.decreasing in (
            lead_monomial rest,
            record {
              member = rest;
              poly = r.remainder.poly;
              inside = rest_inside P H b.members.items hb.basis.members a rest fa inside r.remainder;
              leads = decreasing_leads P.field H.field P.order H.order rest f n;
            },
            λ k. rest_fresh P H b.members.items hb.basis.members a rest fa inside r.remainder f n (subst (λ ms. IsMultiple ms (lead_monomial rest)) hb.leads k),
          )

-- A finished step: each lead of the ideal up to its degree is a multiple, and the quotient goes on to that degree.
use Rattle.std.proofs.Common.{◌≡◌, ℕ, ◌+◌, ◌<◌, ◌≤◌, refl, sym, ◌∙◌, ap, subst, List, [], ◌++◌, length, length-append, arith, inl, inr, ⊎_elim, get_or, true, false}
use Rattle.std.proofs.lemmas.List.{length-map, map-append, get_or_append_left}
use Rattle.std.specs.Prelude.{Contains, map, filter, nat_lt}
use Rattle.std.proofs.lemmas.Bool.{ltb-false}
use Rattle.monomial_order.specs.Monomial.{least_common_multiple, AreCoprime, Exponents}
use Rattle.monomial_order.specs.MonomialOrder.{MonomialOrder}
use Rattle.monomial_order.specs.laws.Comparing.{le_or_not}
use Rattle.monomial_order.specs.laws.Lists.{contains_left, contains_right, contains_either, filter_has, filter_part}
use Rattle.polynomials.specs.Polynomial.{Polynomial, IsHomogeneous, lead_monomial}
use Rattle.polynomials.specs.Subalgebra.{Presented, IsPresentation}
use Rattle.quotient_gb.specs.declared.basis.Basis.{Basis}
use Rattle.quotient_gb.specs.declared.critical_pair.CriticalPair.{CriticalPair}
use Rattle.quotient_gb.specs.declared.degree_step.DegreeStep.{DegreeStep}
use Rattle.quotient_gb.specs.IdealBasis.{HasStandardTail, IsIdealBasis, AreIdealLeads}
use Rattle.quotient_gb.specs.CriticalPairs.{pair_degree, pair_at, IsCriticalPair, IsCoprimeOrListed, HasPairs, HasPairsAt, HasPairsAbove}
use Rattle.quotient_gb.specs.DegreeStep.{all_members, IsBasisTo, IsLaterStep, IsFinishedStep, ReducesGeneratorsAt, ReducesPair, DividesLeads}
use Rattle.quotient_gb.specs.Quotient.{QuotientState, IsQuotientOf, IsClosed}
use Rattle.quotient_gb.proofs.Closing.{closed}
use Rattle.quotient_gb.proofs.Listing.{listed_more}
use Rattle.quotient_gb.proofs.Places.{at_default, lead_at, not_below}
use Rattle.quotient_gb.proofs.Representations.{represented_more}
use Rattle.quotient_gb.proofs.SPolynomials.{pair_degree_is}
use Rattle.quotient_gb.proofs.Steps.{member, ideal_leads, part_all}

module _ {F E : Type 0} (P : Presented E) (H : IsPresentation P) (b : Basis F E) (c : ℕ) (hb : IsBasisTo P c b) (d : ℕ) (next : d ≡ c + 1) (ws : List CriticalPair) (hw : HasPairsAt P.order b.leads.items d ws) where
  -- after the generators, s, and after the critical pairs, s'
  pub divides : (s s' : DegreeStep F E) → IsLaterStep P b s s' → s.degree ≡ d → ReducesGeneratorsAt P b s → ((w : CriticalPair) → Contains ws w → w.degree ≡ s'.degree → ReducesPair P b s' w) → DividesLeads P b s'
  divides s s' later degree generators pairs = closed P H b s' later.step
      (λ r k h. represented_more P H (all_members b s) (all_members b s') (part_all P b s s' later) r (generators r k (subst (λ x. IsHomogeneous P.field P.order x r) later.degree h)))
      (λ i j lt l e.
      let n : length b.leads.items ≡ length b.members.items = ap length hb.leads ∙ length-map b.members.items lead_monomial in
      let at : pair_degree P.order b.leads.items i j ≡ s'.degree = ap (λ ms. pair_degree P.order ms i j) hb.leads ∙ (pair_degree_is P.order b.members.items i j ∙ e) in
      let is_i : get_or b.leads.items i [] ≡ lead_monomial (get_or b.members.items i []) = ap (λ ms. get_or ms i []) hb.leads ∙ lead_at b.members.items i in
      let is_j : get_or b.leads.items j [] ≡ lead_monomial (get_or b.members.items j []) = ap (λ ms. get_or ms j []) hb.leads ∙ lead_at b.members.items j in
      ⊎_elim (λ co. inl (subst (λ m. AreCoprime m (lead_monomial (get_or b.members.items j []))) is_i (subst (AreCoprime (get_or b.leads.items i [])) is_j co)))
      (λ k. inr (pairs (pair_at P.order b.leads.items i j) k at))
      (hw.listed i j lt (omega arith) (at ∙ (later.degree ∙ degree))))

module _ (O : MonomialOrder) (ms ns : List Exponents) where
  -- a critical pair stays one when leads are appended
  pair_degree_append : (i j : ℕ) → i < length ms → j < length ms → pair_degree O (ms ++ ns) i j ≡ pair_degree O ms i j
  pair_degree_append i j li lj =
      ap (λ m. O.degree (least_common_multiple m (get_or (ms ++ ns) j []))) (get_or_append_left ms ns [] i li) ∙ ap (λ n. O.degree (least_common_multiple (get_or ms i []) n)) (get_or_append_left ms ns [] j lj)

  pair_append : (w : CriticalPair) → IsCriticalPair O ms w → IsCriticalPair O (ms ++ ns) w
  pair_append w h =
      let o = h.order in
      let l = h.within in
      record { order = o; within = let e = length-append ms ns in omega arith; degree = h.degree ∙ sym (pair_degree_append w.first w.second (omega arith) l) }

  listed_append : (pairs : List CriticalPair) (i j : ℕ) → i < length ms → j < length ms → IsCoprimeOrListed O ms pairs i j → IsCoprimeOrListed O (ms ++ ns) pairs i j
  listed_append pairs i j li lj h = ⊎_elim
      (λ co. inl (subst (λ m. AreCoprime m (get_or (ms ++ ns) j [])) (sym (get_or_append_left ms ns [] i li)) (subst (AreCoprime (get_or ms i [])) (sym (get_or_append_left ms ns [] j lj)) co)))
      (λ k. inr (subst (λ d. Contains pairs (record { first = i; second = j; degree = d })) (sym (pair_degree_append i j li lj)) k)) h

-- closed at a greater degree, by more leads
pub closed_more : {E : Type 0} (P : Presented E) (c c' : ℕ) (ms ms' : List Exponents) → c ≤ c' → ((m : Exponents) → Contains ms m → Contains ms' m) → IsClosed P c ms → IsClosed P c' ms'
closed_more P c c' ms ms' l part h = record {
  generators = λ r k d hd. let q = h.generators r k d hd in omega arith;
  divides = λ m k. let (n, i, d) = h.divides m k in (n, part n i, d);
}

-- the quotient with the members of a finished step, and their critical pairs
module _ {F E : Type 0} (P : Presented E) (H : IsPresentation P) (b : Basis F E) (q : QuotientState E) (hq : IsQuotientOf P q) (is_members : b.members.items ≡ q.members) (is_leads : b.leads.items ≡ q.leads)
    (s : DegreeStep F E) (hs : IsFinishedStep P b s) (next : s.degree ≡ q.degree + 1) (vs : List CriticalPair) (hv : HasPairs P.order (q.leads ++ s.found.leads.items) (length q.leads) (length (q.leads ++ s.found.leads.items)) vs) where
  pub next_quotient : (q' : QuotientState E) → q'.degree ≡ s.degree → q'.members ≡ q.members ++ s.found.members.items → q'.leads ≡ q.leads ++ s.found.leads.items → q'.pairs ≡ q.pairs ++ vs → q'.closed ≡ q.closed → IsQuotientOf P q'
  next_quotient q' d em el ep ec = record {
    small = let l = hs.step.small in omega arith;
    basis = subst (λ G. IsIdealBasis P q'.degree G) (sym all) (record {
      members = member P H b s hs.step;
      tails = λ g k. ⊎_elim (λ i. subst (λ G. (g : Polynomial E) → Contains G g → HasStandardTail P g) (sym is_members) hq.basis.tails g i)
          (λ i. subst (HasStandardTail P) (at_default s.found.members.items i.0 g [] i.1 i.2) (hs.tails i.0 i.1 i.1)) (contains_either b.members.items s.found.members.items g k);
      leads = subst (λ n. AreIdealLeads P n (map lead_monomial (all_members b s))) (sym d) (ideal_leads P H b s hs.step hs.divides);
    });
    leads = leads_are;
    pairs = subst (λ ls. HasPairsAbove P.order ls q'.degree q'.pairs) (sym el) (subst (HasPairsAbove P.order (q.leads ++ s.found.leads.items) q'.degree) (sym ep) pairs_are);
    closed = λ t. closed_more P q.degree q'.degree q.leads q'.leads (omega arith)
        (λ m k. subst (λ ls. Contains ls m) (sym el) (contains_left q.leads s.found.leads.items m k)) (hq.closed (sym ec ∙ t));
  }
    where
      all : q'.members ≡ all_members b s
      all = em ∙ ap (λ xs. xs ++ s.found.members.items) (sym is_members)

      leads_are : q'.leads ≡ map lead_monomial q'.members
      leads_are = el ∙ (ap (λ ls. ls ++ s.found.leads.items) hq.leads ∙ (ap (λ ls. map lead_monomial q.members ++ ls) hs.step.leads ∙ (sym (map-append lead_monomial q.members s.found.members.items) ∙ ap (map lead_monomial) (sym em))))

      pairs_are : HasPairsAbove P.order (q.leads ++ s.found.leads.items) q'.degree (q.pairs ++ vs)
      pairs_are = record {
        each = λ w k. ⊎_elim (λ i. pair_append P.order q.leads s.found.leads.items w (hq.pairs.each w i)) (λ i. hv.each w i) (contains_either q.pairs vs w k);
        listed = λ i j lt l above. ⊎_elim
            (λ from. listed_more P.order (q.leads ++ s.found.leads.items) vs (q.pairs ++ vs) i j (λ w k. contains_right q.pairs vs w k) (hv.listed i j lt from l))
            (λ n. old i j lt (not_below (length q.leads) j n) above) (le_or_not (length q.leads) j);
      }
        where
          old : (i j : ℕ) → i < j → j < length q.leads → q'.degree < pair_degree P.order (q.leads ++ s.found.leads.items) i j → IsCoprimeOrListed P.order (q.leads ++ s.found.leads.items) (q.pairs ++ vs) i j
          old i j lt l above =
              let e = pair_degree_append P.order q.leads s.found.leads.items i j (omega arith) l in
              listed_more P.order (q.leads ++ s.found.leads.items) q.pairs (q.pairs ++ vs) i j (λ w k. contains_left q.pairs vs w k)
              (listed_append P.order q.leads s.found.leads.items q.pairs i j (omega arith) l (hq.pairs.listed i j lt l (omega arith)))

above : (a b : ℕ) → a < b → nat_lt a b ≡ true
above a b h = elim (nat_lt a b) as (λ v. nat_lt a b ≡ v → v ≡ true) [ true ↦ λ e. refl | false ↦ λ e. absurd (let l = ltb-false a b e in omega arith) ] refl

-- the critical pairs above the degree are enough
pub quotient_above : {E : Type 0} (P : Presented E) (q q' : QuotientState E) → IsQuotientOf P q → q'.degree ≡ q.degree → q'.members ≡ q.members → q'.leads ≡ q.leads → q'.closed ≡ q.closed →
    q'.pairs ≡ filter (λ w. nat_lt q.degree w.degree) q.pairs → IsQuotientOf P q'
quotient_above P q q' h d em el ec e = record {
  small = let l = h.small in omega arith;
  basis = subst (λ n. IsIdealBasis P n q'.members) (sym d) (subst (IsIdealBasis P q.degree) (sym em) h.basis);
  leads = el ∙ (h.leads ∙ ap (map lead_monomial) (sym em));
  pairs = subst (λ ls. HasPairsAbove P.order ls q'.degree q'.pairs) (sym el) (record {
    each = λ w k. h.pairs.each w (filter_part (λ w. nat_lt q.degree w.degree) q.pairs w (subst (λ xs. Contains xs w) e k)).0;
    listed = λ i j lt l above_d.
        let w = pair_at P.order q.leads i j in
        ⊎_elim (λ co. inl co) (λ k. inr (subst (λ xs. Contains xs w) (sym e) (filter_has (λ w. nat_lt q.degree w.degree) q.pairs w (above q.degree w.degree (omega arith)) k))) (h.pairs.listed i j lt l (omega arith));
  });
  closed = λ t. closed_more P q.degree q'.degree q.leads q'.leads (omega arith) (λ m k. subst (λ ls. Contains ls m) (sym el) k) (h.closed (sym ec ∙ t));
}

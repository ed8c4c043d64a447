use Rattle.std.proofs.Common.{◌≡◌, ◌<◌, ◌≤◌, ◌+◌, refl, sym, ◌∙◌, ap, subst, ℕ, [], ◌∷◌, ◌++◌, arith, inl, inr, ⊎_elim}
use Rattle.std.specs.Prelude.{Contains}
use borrow.Author.Count.{below_more}
use Rattle.monomial_order.specs.laws.Comparing.{le_or_not}
use Rattle.monomial_order.specs.laws.Lists.{contains_left, contains_right, contains_here}
use Rattle.quotient_gb.specs.CriticalPairs.{IsCriticalPair, IsCoprimeOrListed, pair_at}
use Rattle.quotient_gb.proofs.Listing.{listed_more}
use Rattle.quotient_gb.proofs.Places.{below_stop, not_below}
use Rattle.quotient_gb.proofs.critical_pair.push_pairs.Goals as goal
use Rattle.quotient_gb.proofs.critical_pair.push_pairs.Goals.{in-Some+in_ok-push, in_default}
use Rattle.std.proofs.lemmas.List.Elements.{Contains-push_cases}

pub firsts-preserved : goal.firsts-preserved
firsts-preserved g c =
    let O = g.O.Order.order c.args.o.now in
    let ms = c.args.leads.now in
    let old = c.firsts.pairs.items in
    let h = c.firsts.invariant in
    elim c.match-branch-2.branch [
      | in-Some+in_ok-push w ↦
          let is : w.in-Some.w ≡ pair_at O ms c.firsts.first c.args.second = (rw w.in-Some.is at c.in_ok-w.ensures.pair) in
          let items : c.match-branch-2.pairs.items ≡ old ++ (w.in-Some.w ∷ []) = ap (λ v. v.items) w.pairs-is ∙ w.in_ok-push.ensures.items in
          record {
            part = λ x k. subst (λ xs. Contains xs x) (sym items) (contains_left old (w.in-Some.w ∷ []) x (h.part x k));
            each = λ x k. ⊎_elim (λ i. h.each x i)
                (λ e. inr (subst (IsCriticalPair O ms) (sym is ∙ e) (record { order = c.firsts-test.true; within = c.requires.second; degree = refl })))
                (Contains-push_cases old w.in-Some.w x (subst (λ xs. Contains xs x) items k));
            listed = subst (λ xs. (i : ℕ) → i < c.firsts.first + 1 → IsCoprimeOrListed O ms xs i c.args.second) (sym items)
                (below_more (λ i. IsCoprimeOrListed O ms (old ++ (w.in-Some.w ∷ [])) i c.args.second) c.firsts.first
                (λ i l. listed_more O ms old (old ++ (w.in-Some.w ∷ [])) i c.args.second (λ x k. contains_left old (w.in-Some.w ∷ []) x k) (h.listed i l))
                (inr (subst (Contains (old ++ (w.in-Some.w ∷ []))) is (contains_right old (w.in-Some.w ∷ []) w.in-Some.w (contains_here w.in-Some.w [])))));
          }
      | in_default w ↦
          let items : c.match-branch-2.pairs.items ≡ old = ap (λ v. v.items) w.pairs-is in
          record {
            part = λ x k. subst (λ xs. Contains xs x) (sym items) (h.part x k);
            each = λ x k. h.each x (subst (λ xs. Contains xs x) items k);
            listed = subst (λ xs. (i : ℕ) → i < c.firsts.first + 1 → IsCoprimeOrListed O ms xs i c.args.second) (sym items)
                (below_more (λ i. IsCoprimeOrListed O ms old i c.args.second) c.firsts.first h.listed (inl ((rw w.in_default.is at c.in_ok-w.ensures.coprime) refl)));
          }
    ]

pub returns : goal.returns
returns g c = λ start k.
    let O = g.O.Order.order c.args.o.now in
    let ms = c.args.leads.now in
    let h = c.firsts.invariant in
    record {
      each = λ w i. ⊎_elim (λ o. k.each w o) (λ q. q) (h.each w i);
      listed = λ i j lt from below. ⊎_elim
          (λ at. subst (IsCoprimeOrListed O ms c.firsts.pairs.items i) (same j c.args.second below at) (h.listed i (below_stop i c.args.second c.firsts.first (less i j c.args.second lt below) c.firsts-test.false)))
          (λ n. listed_more O ms c.args.pairs.now.items c.firsts.pairs.items i j h.part (k.listed i j lt from (not_below c.args.second j n)))
          (le_or_not c.args.second j);
    }
  where
    same : (j s : ℕ) → j < s + 1 → s ≤ j → s ≡ j
    same j s h k = omega arith

    less : (i j s : ℕ) → i < j → j < s + 1 → i < s
    less i j s h k = omega arith

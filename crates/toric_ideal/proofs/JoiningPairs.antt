-- The pairs of a degree, joined one after the other.
use Rattle.std.proofs.Common.{◌≡◌, ℕ, ◌+◌, ◌<◌, ◌≤◌, refl, sym, ◌∙◌, ap, subst, List, [], ◌∷◌, ◌++◌, length, get_or, arith, inl, inr, ⊎_elim}
use Rattle.std.specs.Prelude.{Contains}
use Rattle.std.proofs.lemmas.List.{get_or-take}
use Rattle.monomial_order.specs.Monomial.{least_common_multiple as lcm}
use Rattle.monomial_order.specs.MonomialOrder.{MonomialOrder}
use Rattle.monomial_order.specs.laws.Lists.{contains_either, contains_left, contains_one}
use Rattle.word_rewriting.specs.Rewriting.{RewriteRule, HasJoinablePair, KeepsRules}
use Rattle.word_rewriting.specs.laws.Rewriting.{more_joinable}
use Rattle.word_rules.specs.Rules.{no_rule, rule_at}
use Rattle.degree_queue.specs.DegreeQueue.{list_of, SameElsewhere}
use Rattle.toric_ideal.specs.declared.index_pair.IndexPair.{IndexPair}
use Rattle.toric_ideal.specs.Queue.{pair, IsNeedless, IsNeedlessPair, IsQueued, JoinsOrLists}
use Rattle.toric_ideal.specs.Step.{pair_degree, IsPairAt, KeepsFirst}

-- the queue, while the pairs of degree c + 1 are joined
pub record IsJoining (O : MonomialOrder) (c first : ℕ) (S : List RewriteRule) (queue : List (List IndexPair)) : Type 0 where
  pub later : IsQueued O (c + 1) first S queue
  pub here : (p : IndexPair) → Contains (list_of queue (c + 1)) p → IsPairAt O (c + 1) first S p.first p.second
  pub pairs : JoinsOrLists O (c + 1) first S S (list_of queue (c + 1))

-- the first rules, so many, are the same
pub same_rule : (first : ℕ) (S T : List RewriteRule) → KeepsFirst first S T → (i : ℕ) → i < first → rule_at T i ≡ rule_at S i
same_rule first S T k i l = sym (get_or-take first T i no_rule l) ∙ (ap (λ xs. get_or xs i no_rule) k.same ∙ get_or-take first S i no_rule l)

module _ (O : MonomialOrder) (first : ℕ) (S T : List RewriteRule) (k : KeepsFirst first S T) where
  pub same_degree : (i j : ℕ) → i < first → j < first → pair_degree O T i j ≡ pair_degree O S i j
  same_degree i j l m =
      ap (λ (r : RewriteRule). O.degree (lcm r.left (rule_at T j).left)) (same_rule first S T k i l) ∙ ap (λ (r : RewriteRule). O.degree (lcm (rule_at S i).left r.left)) (same_rule first S T k j m)

  pub same_needless : (i j : ℕ) → i < first → j < first → IsNeedless S i j → IsNeedless T i j
  same_needless i j l m h =
      subst (λ r. IsNeedlessPair r (rule_at T j)) (sym (same_rule first S T k i l)) (subst (IsNeedlessPair (rule_at S i)) (sym (same_rule first S T k j m)) h)

  pub same_pair_at : (d i j : ℕ) → IsPairAt O d first S i j → IsPairAt O d first T i j
  same_pair_at d i j p = record { rising = p.rising; below = p.below; degree = let a = p.rising in let b = p.below in same_degree i j (omega arith) b ∙ p.degree }

  pub same_queued : (c : ℕ) (queue : List (List IndexPair)) → IsQueued O c first S queue → IsQueued O c first T queue
  same_queued c queue q = record {
    within = k.within;
    each = λ d p l h. same_pair_at d p.first p.second (q.each d p l h);
    all = λ i j l m a b.
        let e = same_degree i j (omega arith) m in
        ⊎_elim (λ n. inl (same_needless i j (omega arith) m n)) (λ h. inr (subst (λ d. Contains (list_of queue d) (pair i j)) (sym e) h)) (q.all i j l m (omega arith) (omega arith));
  }

module _ (O : MonomialOrder) (c first : ℕ) where
  pub joining_start : (S : List RewriteRule) (queue : List (List IndexPair)) → c + 1 ≤ 30000 → IsQueued O c first S queue → IsJoining O c first S queue
  joining_start S queue small q = record {
    later = record { within = q.within; each = λ d p l h. q.each d p (omega arith) h; all = λ i j l m a b. q.all i j l m (omega arith) b };
    here = λ p h. q.each (c + 1) p (omega arith) h;
    pairs = λ i j l m e. ⊎_elim inl (λ h. inr (inl (subst (λ d. Contains (list_of queue d) (pair i j)) e h))) (q.all i j l m (omega arith) (omega arith));
  }

  -- the last pair of the list is joined, and the rules may be more
  pub joining_next : (S T : List RewriteRule) (old new : List (List IndexPair)) (p : IndexPair) → KeepsFirst first S T → KeepsRules S T →
      list_of old (c + 1) ≡ list_of new (c + 1) ++ p ∷ [] → SameElsewhere (c + 1) old new → HasJoinablePair T (rule_at S p.first) (rule_at S p.second) → IsJoining O c first S old → IsJoining O c first T new
  joining_next S T old new p k more last others joined g = record {
    later = same_queued O first S T k (c + 1) new (record {
      within = g.later.within;
      each = λ d q l h. g.later.each d q l (subst (λ xs. Contains xs q) (others d (λ e. absurd (omega arith))) h);
      all = λ i j l m a b. ⊎_elim inl (λ h. inr (subst (λ xs. Contains xs (pair i j)) (sym (others (pair_degree O S i j) (λ e. absurd (omega arith)))) h)) (g.later.all i j l m a b);
    });
    here = λ q h. same_pair_at O first S T k (c + 1) q.first q.second (g.here q (subst (λ xs. Contains xs q) (sym last) (contains_left (list_of new (c + 1)) (p ∷ []) q h)));
    pairs = λ i j l m e.
        let li : i < first = omega arith in
        let x = same_rule first S T k i li in
        let y = same_rule first S T k j m in
        ⊎_elim (λ n. inl (same_needless O first S T k i j li m n))
        (λ r. ⊎_elim
        (λ h. ⊎_elim
        (λ h2. inr (inl h2))
        (λ q. inr (inr (subst (λ r. HasJoinablePair T r (rule_at T j)) (sym x) (subst (λ r. HasJoinablePair T (rule_at S i) r) (sym y)
        (subst (λ (z : IndexPair). HasJoinablePair T (rule_at S z.first) (rule_at S z.second)) (contains_one p (pair i j) q) joined)))))
        (contains_either (list_of new (c + 1)) (p ∷ []) (pair i j) (subst (λ xs. Contains xs (pair i j)) last h)))
        (λ h. inr (inr (subst (λ r. HasJoinablePair T r (rule_at T j)) (sym x) (subst (λ r. HasJoinablePair T (rule_at S i) r) (sym y)
        (λ a b z. more_joinable S T more a b (h a b z))))))
        r)
        (g.pairs i j l m (sym (same_degree O first S T k i j li m) ∙ e));
  }

pub keeps_first_trans : (first : ℕ) (R S T : List RewriteRule) → KeepsFirst first R S → KeepsFirst first S T → KeepsFirst first R T
keeps_first_trans first R S T a b = record { within = b.within; same = b.same ∙ a.same }

pub keeps_rules_trans : (R S T : List RewriteRule) → KeepsRules R S → KeepsRules S T → KeepsRules R T
keeps_rules_trans R S T a b r h = b r (a r h)

pub keeps_same : (first : ℕ) (S : List RewriteRule) → first ≤ length S → KeepsFirst first S S
keeps_same first S l = record { within = l; same = refl }

-- at the end no pair of the degree is left
pub joining_done : (O : MonomialOrder) (c first : ℕ) (S : List RewriteRule) (queue new : List (List IndexPair)) → new ≡ queue → list_of queue (c + 1) ≡ [] → IsJoining O c first S queue →
    IsQueued O (c + 1) first S new × JoinsOrLists O (c + 1) first S S []
joining_done O c first S queue new e none g =
    (subst (IsQueued O (c + 1) first S) (sym e) g.later, subst (JoinsOrLists O (c + 1) first S S) none g.pairs)

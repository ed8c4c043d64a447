-- Pairs that are put into the queue.
use Rattle.std.proofs.Common.{◌≡◌, ℕ, suc, ◌+◌, ◌<◌, ◌≤◌, sym, ◌∙◌, subst, List, [], ◌∷◌, ◌++◌, length, take, get_or, arith, inl, inr, ⊎_elim}
use Rattle.std.specs.Prelude.{Contains}
use Rattle.monomial_order.specs.Monomial.{product, least_common_multiple as lcm}
use Rattle.monomial_order.specs.MonomialOrder.{MonomialOrder}
use Rattle.monomial_order.specs.laws.Monomial.{IsMonomial-least_common_multiple, IsTrimmed-product}
use Rattle.monomial_order.specs.laws.Cofactors.{Divides-product, Divides-product_right, least_common_multiple_least}
use Rattle.monomial_order.specs.laws.Comparing.{divisor_degree, numbers_or_not}
use Rattle.monomial_order.specs.laws.Lists.{contains_at, contains_cases, contains_either, contains_here, contains_left, contains_none, contains_right}
use Rattle.word_laws.specs.Words.{Letters, AreLetters, word_order_of}
use Rattle.word_laws.specs.laws.Words.{word_laws}
use Rattle.word_rewriting.specs.Rewriting.{RewriteRule}
use Rattle.word_rules.specs.Rules.{no_rule, rule_at, AreSharing, IsSmallWord}
use Rattle.degree_queue.specs.DegreeQueue.{list_of, SameElsewhere}
use Rattle.toric_ideal.specs.declared.index_pair.IndexPair.{IndexPair}
use Rattle.toric_ideal.specs.Queue.{pair, IsQueued, IsQueuedPair, IsPairQueued}
use Rattle.toric_ideal.specs.Step.{pair_degree, AreSmallWords, IsPairAt}
use Rattle.toric_ideal.proofs.Members.{take_next, take_whole}

pub lcm_small : (L : Letters) → AreLetters L → (S : List RewriteRule) → AreSmallWords L S → (i j : ℕ) → i < length S → j < length S → IsSmallWord (word_order_of L) (lcm (rule_at S i).left (rule_at S j).left)
lcm_small L H S s i j li lj =
    let a = s (rule_at S i) (contains_at S i no_rule li) in
    let b = s (rule_at S j) (contains_at S j no_rule lj) in
    let m = (rule_at S i).left in
    let n = (rule_at S j).left in
    let w = IsMonomial-least_common_multiple (word_order_of L).places m n a.0 b.0 in
    let d = divisor_degree (word_order_of L) (word_laws L H) (lcm m n) (product m n) w.trimmed (IsTrimmed-product m n a.0.trimmed b.0.trimmed)
    (least_common_multiple_least m n (product m n) (Divides-product m n) (Divides-product_right m n)) in
    let e = (word_laws L H).degree_product m n in
    let x = a.1 in let y = b.1 in
    record { word = w; small = omega arith }

module _ (O : MonomialOrder) (c : ℕ) (R : List RewriteRule) where
  pub not_queued : (i j : ℕ) (old new : List (List IndexPair)) → new ≡ old → IsQueuedPair O c R old i j → IsPairQueued O c R i j old new
  not_queued i j old new e q = record {
    keeps = λ d p h. subst (λ z. Contains (list_of z d) p) (sym e) h;
    only = λ d p h. inl (subst (λ z. Contains (list_of z d) p) e h);
    queued = subst (λ z. IsQueuedPair O c R z i j) (sym e) q;
  }

  pub is_queued : (i j d : ℕ) (old new : List (List IndexPair)) → pair_degree O R i j ≡ d → list_of new d ≡ list_of old d ++ pair i j ∷ [] → SameElsewhere d old new → IsPairQueued O c R i j old new
  is_queued i j d old new e last others = record {
    keeps = λ b p h. ⊎_elim (λ q. subst (λ k. Contains (list_of new k) p) (sym q) (subst (λ xs. Contains xs p) (sym last) (contains_left (list_of old d) (pair i j ∷ []) p (subst (λ k. Contains (list_of old k) p) q h))))
        (λ ne. subst (λ xs. Contains xs p) (sym (others b ne)) h) (numbers_or_not b d);
    only = λ b p h. ⊎_elim
        (λ q. ⊎_elim (λ x. inl (subst (λ k. Contains (list_of old k) p) (sym q) x))
        (λ x. ⊎_elim (λ y. inr (sym y, e ∙ sym q)) (λ z. absurd (contains_none p z)) (contains_cases (pair i j) [] p x))
        (contains_either (list_of old d) (pair i j ∷ []) p (subst (λ xs. Contains xs p) last (subst (λ k. Contains (list_of new k) p) q h))))
        (λ ne. inl (subst (λ xs. Contains xs p) (others b ne) h)) (numbers_or_not b d);
    queued = λ _ _. inr (subst (λ k. Contains (list_of new k) (pair i j)) (sym e) (subst (λ xs. Contains xs (pair i j)) (sym last) (contains_right (list_of old d) (pair i j ∷ []) (pair i j) (contains_here (pair i j) []))));
  }

  -- the pairs of rule j with these rules are in the queue
  pub record IsQueueing (j : ℕ) (done : List ℕ) (queue : List (List IndexPair)) : Type 0 where
    pub each : (d : ℕ) (p : IndexPair) → c < d → Contains (list_of queue d) p → IsPairAt O d (j + 1) R p.first p.second
    pub before : (a b : ℕ) → a < b → b < j → IsQueuedPair O c R queue a b
    pub here : (i : ℕ) → Contains done i → IsQueuedPair O c R queue i j

  pub queueing_start : (j : ℕ) (queue : List (List IndexPair)) → IsQueued O c j R queue → IsQueueing j [] queue
  queueing_start j queue q = record {
    each = λ d p l h. let x = q.each d p l h in record { rising = x.rising; below = let b = x.below in omega arith; degree = x.degree };
    before = q.all;
    here = λ i h. absurd (contains_none i h);
  }

  queued_more : (i j a b : ℕ) (old new : List (List IndexPair)) → IsPairQueued O c R i j old new → IsQueuedPair O c R old a b → IsQueuedPair O c R new a b
  queued_more i j a b old new k q x y = ⊎_elim inl (λ h. inr (k.keeps (pair_degree O R a b) (pair a b) h)) (q x y)

  pub queueing_next : (j k i : ℕ) (list : List ℕ) (old new : List (List IndexPair)) → k < length list → i ≡ get_or list k i → i < j → IsPairQueued O c R i j old new → IsQueueing j (take k list) old → IsQueueing j (take (k + 1) list) new
  queueing_next j k i list old new l e below q g = record {
    each = λ d p m h. ⊎_elim (λ x. g.each d p m x)
        (λ x. subst (λ (z : IndexPair). IsPairAt O d (j + 1) R z.first z.second) (sym x.0) (record { rising = below; below = omega arith; degree = x.1 })) (q.only d p h);
    before = λ a b x y. queued_more i j a b old new q (g.before a b x y);
    here = λ n h. ⊎_elim (λ x. subst (λ z. IsQueuedPair O c R new z j) (e ∙ x) q.queued) (λ x. queued_more i j n j old new q (g.here n x))
        (take_next list k i l n (subst (λ z. Contains (take z list) n) (let o : k + 1 ≡ suc k = omega arith in o) h));
  }

  pub queueing_end : (j k : ℕ) (list : List ℕ) (queue : List (List IndexPair)) → j < length R → AreSharing R j list → length list ≤ k → IsQueueing j (take k list) queue → IsQueued O c (j + 1) R queue
  queueing_end j k list queue inside s l g = record {
    within = omega arith;
    each = g.each;
    all = λ a b x y. ⊎_elim
        (λ e. subst (IsQueuedPair O c R queue a) (sym e)
        (⊎_elim (λ co u v. inl (inl co)) (λ h. g.here a (take_whole list k l a h)) (s.all a (omega arith))))
        (λ ne. g.before a b x (omega (arith, ne))) (numbers_or_not b j);
  }

-- Critical pairs in a queue by their degrees.
use Rattle.std.proofs.Common.{◌≡◌, ℕ, ◌+◌, ◌<◌, ◌≤◌, sym, subst, List, [], ◌∷◌, ◌++◌, ⊎_elim, inl, inr, arith}
use Rattle.std.specs.Prelude.{Contains}
use Rattle.monomial_order.specs.Monomial.{Exponents}
use Rattle.monomial_order.specs.MonomialOrder.{MonomialOrder}
use Rattle.monomial_order.specs.laws.Lists.{contains_here, contains_none, contains_cases, contains_left, contains_right, contains_either}
use Rattle.monomial_order.specs.laws.Comparing.{numbers_or_not}
use Rattle.degree_queue.specs.DegreeQueue.{list_of, SameElsewhere}
use Rattle.quotient_gb.specs.declared.critical_pair.CriticalPair.{CriticalPair}
use Rattle.quotient_gb.specs.CriticalPairs.{pair_at, HasPairsAt, HasPairsAbove, IsFilled, Waits}

abbrev Queue : Type 0
Queue = List (List CriticalPair)

-- no pair, a pair that is left out, a pair that is put in, and one pair more
pub filled_nothing : (q : Queue) → IsFilled q [] q
filled_nothing q = record { kept = λ d w k. k; added = λ w k. absurd (contains_none w k); only = λ d w k. inl k }

pub filled_out : (q : Queue) (w : CriticalPair) → 30000 < w.degree → IsFilled q (w ∷ []) q
filled_out q w o = record {
  kept = λ d v k. k;
  added = λ v k l. absurd (⊎_elim (λ e. let l' = subst (λ z. z.degree ≤ 30000) (sym e) l in omega arith) (λ i. contains_none v i) (contains_cases w [] v k));
  only = λ d v k. inl k;
}

pub filled_in : (old new : Queue) (w : CriticalPair) → list_of new w.degree ≡ list_of old w.degree ++ w ∷ [] → SameElsewhere w.degree old new → IsFilled old (w ∷ []) new
filled_in old new w last others = record {
  kept = λ d v k. ⊎_elim
      (λ e. subst (λ n. Contains (list_of new n) v) (sym e) (subst (λ xs. Contains xs v) (sym last) (contains_left (list_of old w.degree) (w ∷ []) v (subst (λ n. Contains (list_of old n) v) e k))))
      (λ n. subst (λ xs. Contains xs v) (sym (others d n)) k) (numbers_or_not d w.degree);
  added = λ v k l. ⊎_elim
      (λ e. subst (λ z. Contains (list_of new z.degree) z) e (subst (λ xs. Contains xs w) (sym last) (contains_right (list_of old w.degree) (w ∷ []) w (contains_here w []))))
      (λ i. absurd (contains_none v i)) (contains_cases w [] v k);
  only = λ d v k. ⊎_elim
      (λ e. ⊎_elim (λ i. inl (subst (λ n. Contains (list_of old n) v) (sym e) i)) inr
      (contains_either (list_of old w.degree) (w ∷ []) v (subst (λ xs. Contains xs v) last (subst (λ n. Contains (list_of new n) v) e k))))
      (λ n. inl (subst (λ xs. Contains xs v) (others d n) k)) (numbers_or_not d w.degree);
}

pub filled_more : (old mid new : Queue) (xs : List CriticalPair) (w : CriticalPair) → IsFilled old xs mid → IsFilled mid (w ∷ []) new → IsFilled old (xs ++ w ∷ []) new
filled_more old mid new xs w h k = record {
  kept = λ d v i. k.kept d v (h.kept d v i);
  added = λ v i l. ⊎_elim (λ j. k.kept v.degree v (h.added v j l)) (λ j. k.added v j l) (contains_either xs (w ∷ []) v i);
  only = λ d v i. ⊎_elim (λ j. ⊎_elim inl (λ m. inr (contains_left xs (w ∷ []) v m)) (h.only d v j)) (λ j. inr (contains_right xs (w ∷ []) v j)) (k.only d v i);
}

pub waits_first : (c : ℕ) (pairs : List CriticalPair) (q : Queue) → IsFilled [] pairs q → Waits c pairs q
waits_first c pairs q h = record { all = λ w k a l. h.added w k l; only = λ d w a k. ⊎_elim (λ i. absurd (contains_none w i)) (λ i. i) (h.only d w k) }

-- the pairs of the next degree, and the queue after it
module _ (c d : ℕ) (next : d ≡ c + 1) (pairs : List CriticalPair) (q : Queue) (h : Waits c pairs q) where
  pub pairs_at : (O : MonomialOrder) (ms : List Exponents) → HasPairsAbove O ms c pairs → d ≤ 30000 → (now : List CriticalPair) → now ≡ list_of q d → HasPairsAt O ms d now
  pairs_at O ms hp small now e = record {
    each = λ w k. hp.each w (h.only d w (omega arith) (subst (λ xs. Contains xs w) e k));
    listed = λ i j lt l at. ⊎_elim inl
        (λ k. inr (subst (λ xs. Contains xs (pair_at O ms i j)) (sym e) (subst (λ n. Contains (list_of q n) (pair_at O ms i j)) at (h.all (pair_at O ms i j) k (omega arith) (omega arith)))))
        (hp.listed i j lt l (omega arith));
  }

  pub waits_next : (q' q'' : Queue) (vs : List CriticalPair) → SameElsewhere d q q' → IsFilled q' vs q'' → Waits d (pairs ++ vs) q''
  waits_next q' q'' vs others f = record {
    all = λ w k a l. ⊎_elim (λ i. f.kept w.degree w (subst (λ xs. Contains xs w) (sym (others w.degree (λ e. omega arith))) (h.all w i (omega arith) l))) (λ i. f.added w i l) (contains_either pairs vs w k);
    only = λ n w a k. ⊎_elim (λ i. contains_left pairs vs w (h.only n w (omega arith) (subst (λ xs. Contains xs w) (others n (λ e. omega arith)) i))) (λ i. contains_right pairs vs w i) (f.only n w k);
  }

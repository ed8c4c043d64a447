-- What each call does to the links.
use Rattle.std.proofs.Common.{◌≡◌, ◌≢◌, ℕ, zero, suc, ◌+◌, ◌-◌, ◌<◌, ◌≤◌, refl, sym, ap, ◌∙◌, subst, [], ◌∷◌, ◌++◌, arith}
use Rattle.linked_terms.specs.Links.{times_in, walk, past, IsPartition, IsLinked}
use Rattle.linked_terms.proofs.Walks.{times_in-here, times_in-append, times_in-more, differs, walk_more, past_more, walk_join, walk_same, walk_relinked, at_most_once, is_below, partition_advance, partition_insert, partition_remove, partition_rewind, partition_grow}

pub links_advance : (f : ℕ → ℕ) (n head left right free before after spare : ℕ) →
    IsLinked f n head left right free before (suc after) spare → IsLinked f n head right (f right) free (suc before) after spare
links_advance f n head left right free before after spare h =
    let longer : walk f (suc before) head ≡ walk f before head ++ right ∷ [] =
    walk_more f before head ∙ ap (λ x. walk f before head ++ x ∷ []) h.meets in
    record {
      partition = subst (λ p. IsPartition n p (walk f after (f right)) (walk f spare free)) (sym longer)
          (partition_advance n (walk f before head) right (walk f after (f right)) (walk f spare free) h.partition);
      counted = omega (arith, h.counted);
      meets = past_more f before head ∙ ap f h.meets;
      last = λ l. ap (λ k. past f k head) (let e : suc before - 1 ≡ before = omega arith in e) ∙ h.meets;
    }

-- the walk before the cursor, if it ends with the node `right`
pub walk_advance : (f : ℕ → ℕ) (n head left right free before after spare : ℕ) →
    IsLinked f n head left right free before after spare → walk f (suc before) head ≡ walk f before head ++ right ∷ []
walk_advance f n head left right free before after spare h =
    walk_more f before head ∙ ap (λ x. walk f before head ++ x ∷ []) h.meets

pub walk_rewind : (f : ℕ → ℕ) (n head left right free before after spare : ℕ) →
    IsLinked f n head left right free before after spare → walk f (after + before) head ≡ walk f before head ++ walk f after right
walk_rewind f n head left right free before after spare h =
    walk_join f before after head ∙ ap (λ x. walk f before head ++ walk f after x) h.meets

pub links_rewind : (f : ℕ → ℕ) (n head left right free before after spare : ℕ) →
    IsLinked f n head left right free before after spare → IsLinked f n head left head free 0 (after + before) spare
links_rewind f n head left right free before after spare h = record {
  partition = subst (λ q. IsPartition n [] q (walk f spare free)) (sym (walk_rewind f n head left right free before after spare h))
      (partition_rewind n (walk f before head) (walk f after right) (walk f spare free) h.partition);
  counted = omega (arith, h.counted);
  meets = refl;
  last = λ l. absurd (omega arith);
}

-- the new links after a node goes from the spare ones to the end of those before the cursor
pub record IsInserted (f h : ℕ → ℕ) (head' head left right free before : ℕ) : Type 0 where
  pub put : h free ≡ right
  pub first : before ≡ 0 → head' ≡ free
  pub linked : 0 < before → h left ≡ free
  pub head_same : 0 < before → head' ≡ head
  pub others : (i : ℕ) → i ≢ free → (0 < before → i ≢ left) → h i ≡ f i

-- what becomes of the three walks
pub record WalksInserted (f h : ℕ → ℕ) (n head' head right free before after spare : ℕ) : Type 0 where
  pub links : IsLinked h n head' free right (f free) (suc before) after spare
  pub walk_before : walk h (suc before) head' ≡ walk f before head ++ free ∷ []
  pub walk_after : walk h after right ≡ walk f after right
  pub walk_spare : walk h spare (f free) ≡ walk f spare (f free)

module _ (f h : ℕ → ℕ) (n head' head left right free : ℕ) where
  -- the last node before the cursor is in none of the other walks
  left_apart : (before after spare free' : ℕ) → IsLinked f n head left right free' (suc before) after spare →
      (past f before head ≡ left) × (1 ≤ times_in left (walk f (suc before) head)) × (times_in left (walk f before head) ≡ 0) × (times_in left (walk f after right) ≡ 0) × (times_in left (walk f spare free') ≡ 0)
  left_apart before after spare free' k =
      let last : past f before head ≡ left = ap (λ x. past f x head) (let e : before ≡ suc before - 1 = omega arith in e) ∙ k.last (omega arith) in
      let longer : walk f (suc before) head ≡ walk f before head ++ left ∷ [] = walk_more f before head ∙ ap (λ x. walk f before head ++ x ∷ []) last in
      let times : times_in left (walk f (suc before) head) ≡ times_in left (walk f before head) + (1 + 0) =
      ap (times_in left) longer ∙ (times_in-append left (walk f before head) (left ∷ []) ∙ ap (λ x. times_in left (walk f before head) + x) (times_in-here left [])) in
      let most = at_most_once n (walk f (suc before) head) (walk f after right) (walk f spare free') k.partition left in
      (last, omega arith, omega arith, omega arith, omega arith)

  all_inserted : (before after spare : ℕ) → IsLinked f n head left right free before after (suc spare) →
      walk h (suc before) head' ≡ walk f before head ++ free ∷ [] → walk h after right ≡ walk f after right → walk h spare (f free) ≡ walk f spare (f free) →
      past h (suc before) head' ≡ right → (0 < suc before → past h before head' ≡ free) → WalksInserted f h n head' head right free before after spare
  all_inserted before after spare k b a s meets last = record {
    links = record {
      partition = subst (λ p. IsPartition n p (walk h after right) (walk h spare (f free))) (sym b)
          (subst (λ q. IsPartition n (walk f before head ++ free ∷ []) q (walk h spare (f free))) (sym a)
          (subst (IsPartition n (walk f before head ++ free ∷ []) (walk f after right)) (sym s)
          (partition_insert n (walk f before head) (walk f after right) free (walk f spare (f free)) k.partition)));
      counted = omega (arith, k.counted);
      meets = meets;
      last = λ l. ap (λ x. past h x head') (let e : suc before - 1 ≡ before = omega arith in e) ∙ last l;
    };
    walk_before = b;
    walk_after = a;
    walk_spare = s;
  }

  pub links_insert : (before after spare : ℕ) → IsLinked f n head left right free before after (suc spare) →
      IsInserted f h head' head left right free before → WalksInserted f h n head' head right free before after spare
  links_insert before after spare k e =
      let here : times_in free (free ∷ walk f spare (f free)) ≡ 1 + times_in free (walk f spare (f free)) = times_in-here free (walk f spare (f free)) in
      let most = at_most_once n (walk f before head) (walk f after right) (free ∷ walk f spare (f free)) k.partition free in
      by_before before k e (omega arith) (omega arith) (omega arith)
    where
      by_before : (before : ℕ) → IsLinked f n head left right free before after (suc spare) → IsInserted f h head' head left right free before →
          times_in free (walk f before head) ≡ 0 → times_in free (walk f after right) ≡ 0 → times_in free (walk f spare (f free)) ≡ 0 →
          WalksInserted f h n head' head right free before after spare
      by_before zero k e fp fq fr =
          let same_after : walk h after right ≡ walk f after right =
          (walk_same f h after right (λ i l. e.others i (differs free i (walk f after right) fq l) (λ x. absurd (omega arith)))).0 in
          let same_spare : walk h spare (f free) ≡ walk f spare (f free) =
          (walk_same f h spare (f free) (λ i l. e.others i (differs free i (walk f spare (f free)) fr l) (λ x. absurd (omega arith)))).0 in
          let at : head' ≡ free = e.first refl in
          let one : walk h 1 head' ≡ free ∷ [] = ap (λ x. x ∷ []) at in
          all_inserted zero after spare k one same_after same_spare (ap h at ∙ e.put) (λ l. at)
      by_before (suc b) k e fp fq fr =
          let apart = left_apart b after (suc spare) free k in
          let lq = apart.3 in
          let lr : times_in left (walk f spare (f free)) ≡ 0 = let z = apart.4 in omega (arith, times_in-more left free (walk f spare (f free))) in
          let fb : times_in free (walk f b head) ≡ 0 = omega (arith, ap (times_in free) (walk_more f b head), times_in-append free (walk f b head) (past f b head ∷ [])) in
          let same_after : walk h after right ≡ walk f after right =
          (walk_same f h after right (λ i l. e.others i (differs free i (walk f after right) fq l) (λ x. differs left i (walk f after right) lq l))).0 in
          let same_spare : walk h spare (f free) ≡ walk f spare (f free) =
          (walk_same f h spare (f free) (λ i l. e.others i (differs free i (walk f spare (f free)) fr l) (λ x. differs left i (walk f spare (f free)) lr l))).0 in
          let same_before : (walk h (suc b) head ≡ walk f (suc b) head) × (past h (suc b) head ≡ h (past f b head)) =
          walk_relinked f h b head (λ i l. e.others i (differs free i (walk f b head) fb l) (λ x. differs left i (walk f b head) apart.2 l)) in
          let at : head' ≡ head = e.head_same (omega arith) in
          let next : past h (suc b) head ≡ free = same_before.1 ∙ (ap h apart.0 ∙ e.linked (omega arith)) in
          let more : walk h (suc (suc b)) head' ≡ walk f (suc b) head ++ free ∷ [] =
          ap (walk h (suc (suc b))) at ∙ (walk_more h (suc b) head ∙ (ap (λ p. p ++ past h (suc b) head ∷ []) same_before.0 ∙ ap (λ x. walk f (suc b) head ++ x ∷ []) next)) in
          all_inserted (suc b) after spare k more same_after same_spare
          (ap (past h (suc (suc b))) at ∙ (past_more h (suc b) head ∙ (ap h next ∙ e.put)))
          (λ l. ap (past h (suc b)) at ∙ next)

-- the new links after the node `right` becomes spare
pub record IsRemoved (f h : ℕ → ℕ) (head' head left right free before : ℕ) : Type 0 where
  pub put : h right ≡ free
  pub first : before ≡ 0 → head' ≡ f right
  pub linked : 0 < before → h left ≡ f right
  pub head_same : 0 < before → head' ≡ head
  pub others : (i : ℕ) → i ≢ right → (0 < before → i ≢ left) → h i ≡ f i

-- what becomes of the three walks
pub record WalksRemoved (f h : ℕ → ℕ) (n head' head left right free before after spare : ℕ) : Type 0 where
  pub links : IsLinked h n head' left (f right) right before after (suc spare)
  pub walk_before : walk h before head' ≡ walk f before head
  pub walk_after : walk h after (f right) ≡ walk f after (f right)
  pub walk_spare : walk h (suc spare) right ≡ right ∷ walk f spare free

module _ (f h : ℕ → ℕ) (n head' head left right free : ℕ) where
  all_removed : (before after spare : ℕ) → IsLinked f n head left right free before (suc after) spare → h right ≡ free →
      walk h before head' ≡ walk f before head → walk h after (f right) ≡ walk f after (f right) → walk h spare free ≡ walk f spare free →
      past h before head' ≡ f right → (0 < before → past h (before - 1) head' ≡ left) → WalksRemoved f h n head' head left right free before after spare
  all_removed before after spare k put b a s meets last =
      let s' : walk h (suc spare) right ≡ right ∷ walk f spare free = ap (λ x. right ∷ walk h spare x) put ∙ ap (λ p. right ∷ p) s in
      record {
        links = record {
          partition = subst (λ p. IsPartition n p (walk h after (f right)) (walk h (suc spare) right)) (sym b)
              (subst (λ q. IsPartition n (walk f before head) q (walk h (suc spare) right)) (sym a)
              (subst (IsPartition n (walk f before head) (walk f after (f right))) (sym s')
              (partition_remove n (walk f before head) right (walk f after (f right)) (walk f spare free) k.partition)));
          counted = omega (arith, k.counted);
          meets = meets;
          last = last;
        };
        walk_before = b;
        walk_after = a;
        walk_spare = s';
      }

  pub links_remove : (before after spare : ℕ) → IsLinked f n head left right free before (suc after) spare →
      IsRemoved f h head' head left right free before → WalksRemoved f h n head' head left right free before after spare
  links_remove before after spare k e =
      let here : times_in right (right ∷ walk f after (f right)) ≡ 1 + times_in right (walk f after (f right)) = times_in-here right (walk f after (f right)) in
      let most = at_most_once n (walk f before head) (right ∷ walk f after (f right)) (walk f spare free) k.partition right in
      by_before before k e (omega arith) (omega arith) (omega arith)
    where
      by_before : (before : ℕ) → IsLinked f n head left right free before (suc after) spare → IsRemoved f h head' head left right free before →
          times_in right (walk f before head) ≡ 0 → times_in right (walk f after (f right)) ≡ 0 → times_in right (walk f spare free) ≡ 0 →
          WalksRemoved f h n head' head left right free before after spare
      by_before zero k e rp rq rr =
          all_removed zero after spare k e.put refl
          (walk_same f h after (f right) (λ i l. e.others i (differs right i (walk f after (f right)) rq l) (λ x. absurd (omega arith)))).0
          (walk_same f h spare free (λ i l. e.others i (differs right i (walk f spare free) rr l) (λ x. absurd (omega arith)))).0
          (e.first refl) (λ l. absurd (omega arith))
      by_before (suc b) k e rp rq rr =
          let apart = left_apart f h n head' head left right free b (suc after) spare free k in
          let lq : times_in left (walk f after (f right)) ≡ 0 = let z = apart.3 in omega (arith, times_in-more left right (walk f after (f right))) in
          let lr = apart.4 in
          let rb : times_in right (walk f b head) ≡ 0 = omega (arith, ap (times_in right) (walk_more f b head), times_in-append right (walk f b head) (past f b head ∷ [])) in
          let same_before : (walk h (suc b) head ≡ walk f (suc b) head) × (past h (suc b) head ≡ h (past f b head)) =
          walk_relinked f h b head (λ i l. e.others i (differs right i (walk f b head) rb l) (λ x. differs left i (walk f b head) apart.2 l)) in
          let same_last : past h b head ≡ past f b head =
          (walk_same f h b head (λ i l. e.others i (differs right i (walk f b head) rb l) (λ x. differs left i (walk f b head) apart.2 l))).1 in
          let at : head' ≡ head = e.head_same (omega arith) in
          all_removed (suc b) after spare k e.put
          (ap (walk h (suc b)) at ∙ same_before.0)
          (walk_same f h after (f right) (λ i l. e.others i (differs right i (walk f after (f right)) rq l) (λ x. differs left i (walk f after (f right)) lq l))).0
          (walk_same f h spare free (λ i l. e.others i (differs right i (walk f spare free) rr l) (λ x. differs left i (walk f spare free) lr l))).0
          (ap (past h (suc b)) at ∙ (same_before.1 ∙ (ap h apart.0 ∙ e.linked (omega arith))))
          (λ l. ap (λ x. past h x head') (let e : suc b - 1 ≡ b = omega arith in e) ∙ (ap (past h b) at ∙ (same_last ∙ apart.0)))

-- one more node, which is spare
pub links_grow : (f h : ℕ → ℕ) (n head left right free before after spare : ℕ) → IsLinked f n head left right free before after spare →
    h n ≡ free → ((i : ℕ) → i < n → h i ≡ f i) →
    IsLinked h (n + 1) head left right n before after (suc spare) × (walk h before head ≡ walk f before head) × (walk h after right ≡ walk f after right) × (walk h (suc spare) n ≡ n ∷ walk f spare free)
links_grow f h n head left right free before after spare k put others =
    let P = walk f before head in
    let Q = walk f after right in
    let R = walk f spare free in
    let b : (walk h before head ≡ P) × (past h before head ≡ past f before head) =
    walk_same f h before head (λ i l. others i (is_below n P Q R k.partition i (omega arith))) in
    let a : (walk h after right ≡ Q) × (past h after right ≡ past f after right) =
    walk_same f h after right (λ i l. others i (is_below n P Q R k.partition i (omega arith))) in
    let s : (walk h spare free ≡ R) × (past h spare free ≡ past f spare free) =
    walk_same f h spare free (λ i l. others i (is_below n P Q R k.partition i (omega arith))) in
    let s' : walk h (suc spare) n ≡ n ∷ R = ap (λ x. n ∷ walk h spare x) put ∙ ap (λ p. n ∷ p) s.0 in (
      record {
        partition = subst (λ p. IsPartition (n + 1) p (walk h after right) (walk h (suc spare) n)) (sym b.0)
            (subst (λ q. IsPartition (n + 1) P q (walk h (suc spare) n)) (sym a.0)
            (subst (IsPartition (n + 1) P Q) (sym s') (partition_grow n P Q R k.partition)));
        counted = omega (arith, k.counted);
        meets = b.1 ∙ k.meets;
        last = λ l. last before k l;
      },
      b.0,
      a.0,
      s',
    )
  where
    last : (before : ℕ) → IsLinked f n head left right free before after spare → 0 < before → past h (before - 1) head ≡ left
    last zero k l = absurd (omega arith)
    last (suc b) k l =
        let e : suc b - 1 ≡ b = omega arith in
        let w : walk f (suc b) head ≡ walk f b head ++ past f b head ∷ [] = walk_more f b head in
        let same : (walk h b head ≡ walk f b head) × (past h b head ≡ past f b head) =
        walk_same f h b head (λ i m. others i (is_below n (walk f (suc b) head) (walk f after right) (walk f spare free) k.partition i
        (omega (arith, ap (times_in i) w, times_in-append i (walk f b head) (past f b head ∷ []))))) in
        ap (λ x. past h x head) e ∙ (same.1 ∙ (ap (λ x. past f x head) (sym e) ∙ k.last (omega arith)))

-- the last node before the cursor is among those before it
pub left_before : (f : ℕ → ℕ) (n head left right free before after spare : ℕ) → IsLinked f n head left right free before after spare →
    0 < before → 1 ≤ times_in left (walk f before head)
left_before f n head left right free zero after spare k l = absurd (omega arith)
left_before f n head left right free (suc b) after spare k l = (left_apart f f n head head left right free b after spare free k).1

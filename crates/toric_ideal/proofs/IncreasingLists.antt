-- Increasing lists.
use Rattle.std.proofs.Common.{◌≡◌, ◌≢◌, ℕ, zero, suc, ◌<◌, ◌≤◌, refl, sym, ◌∙◌, ap, subst, List, [], ◌∷◌, ◌++◌, length, length-append, take, drop, drop-cons, get_or, arith, true, false, ◌⊎◌, inl, inr, ⊎_elim}
use Rattle.std.specs.Prelude.{Contains, AllPairs}
use Rattle.std.proofs.Math.ListN.{drop_of_length-le}
use Rattle.std.proofs.lemmas.List.{get_or-take, length-take-le, take-append-drop}
use Rattle.std.specs.Ordering.{is_lt}
use Rattle.std.specs.declared.cmp.Ordering.{Ordering}
use Rattle.std.specs.declared.cmp.Ordering.TheVariants.{Less, Equal, Greater}
use Rattle.monomial_order.specs.MonomialOrder.{IsIncreasing, IsMonomialOrder, MonomialOrder}
use Rattle.monomial_order.specs.laws.Comparing.{degree_falls, le_or_not, increasing_below, increasing_cons, increasing_tail, three_ways, increasing_append}
use Rattle.monomial_order.specs.laws.Lists.{contains_at, contains_cases, contains_here, contains_left, contains_none, contains_right, contains_there}
use Rattle.toric_ideal.specs.Increasing.{IsInsertionIndex, IsInserted, IsSorted}
use Rattle.std.proofs.lemmas.List.Elements.{Contains-append_cases}
use Rattle.toric_ideal.proofs.Members.{contains_drop, contains_parts, contains_take, drop_none, take_at, take_index, take_more, take_next, take_whole}

pub lt_less : (o : Ordering) → is_lt o ≡ true → o ≡ Less
lt_less Less h = refl
lt_less Equal h = cc
lt_less Greater h = cc

pub not_lt : (o : Ordering) → is_lt o ≡ false → o ≢ Less
not_lt Less h e = cc
not_lt Equal h e = cc
not_lt Greater h e = cc

-- the members from the index on aren't less than m
pub record IsIndexFrom (O : MonomialOrder) (ms : List (List ℕ)) (m : List ℕ) (i : ℕ) : Type 0 where
  pub within : i ≤ length ms
  pub after : (k : List ℕ) → Contains (drop i ms) k → O.compare k m ≢ Less

module _ (O : MonomialOrder) (W : IsMonomialOrder O) where
  index_start : (ms : List (List ℕ)) (m : List ℕ) → IsIndexFrom O ms m (length ms)
  index_start ms m = record { within = omega arith; after = λ k h. absurd (drop_none ms k h) }

  -- a member before an index is the one just before it, or less than that
  pub increasing_before : (ms : List (List ℕ)) (j : ℕ) → IsIncreasing O ms → j < length ms → (k : List ℕ) → Contains (take (suc j) ms) k → (k ≡ get_or ms j []) ⊎ (O.compare k (get_or ms j []) ≡ Less)
  increasing_before [] j r l k c = absurd (omega arith)
  increasing_before (m ∷ ms) zero r l k c = ⊎_elim (λ e. inl (sym e)) (λ n. absurd (contains_none k n)) (contains_cases m [] k c)
  increasing_before (m ∷ ms) (suc j) r l k c =
      ⊎_elim (λ e. inr (subst (λ x. O.compare x (get_or ms j []) ≡ Less) e (increasing_below O W m ms r (get_or ms j []) (contains_at ms j [] (omega arith)))))
      (λ d. increasing_before ms j (increasing_tail O m ms r) (omega arith) k d) (contains_cases m (take (suc j) ms) k c)

  increasing_drop : (i : ℕ) (ms : List (List ℕ)) → IsIncreasing O ms → IsIncreasing O (drop i ms)
  increasing_drop zero ms r = r
  increasing_drop (suc i) [] r = tt
  increasing_drop (suc i) (m ∷ ms) r = increasing_drop i ms (increasing_tail O m ms r)

  -- the members before an index have at most the degree of the last of them
  pub before_degree : (ms : List (List ℕ)) (j i : ℕ) → IsIncreasing O ms → j < length ms → i ≤ j → O.degree (get_or ms i []) ≤ O.degree (get_or ms j [])
  before_degree ms j i r l b =
      ⊎_elim (λ e. let q = ap O.degree e in omega arith) (λ c. degree_falls O W (get_or ms i []) (get_or ms j []) c)
      (increasing_before ms j r l (get_or ms i [])
      (subst (Contains (take (suc j) ms)) (get_or-take (suc j) ms i [] (omega arith)) (contains_at (take (suc j) ms) i [] (let n = length-take-le (suc j) ms (omega arith) in omega arith))))

  -- the members before low are less than m, and those from high on aren't
  pub record IsSearched (ms : List (List ℕ)) (m : List ℕ) (low high : ℕ) : Type 0 where
    pub rising : low ≤ high
    pub before : (k : List ℕ) → Contains (take low ms) k → O.compare k m ≡ Less
    pub from : IsIndexFrom O ms m high

  pub search_start : (ms : List (List ℕ)) (m : List ℕ) → IsSearched ms m 0 (length ms)
  search_start ms m = record { rising = omega arith; before = λ k c. absurd (contains_none k c); from = index_start ms m }

  pub search_up : (ms : List (List ℕ)) (m : List ℕ) (low high j : ℕ) → IsIncreasing O ms → j < high → O.compare (get_or ms j []) m ≡ Less →
      IsSearched ms m low high → IsSearched ms m (suc j) high
  search_up ms m low high j r l less h =
      let w = h.from.within in
      record {
        rising = omega arith;
        before = λ k c. ⊎_elim (λ q. subst (λ x. O.compare x m ≡ Less) (sym q) less) (λ b. W.total.trans k (get_or ms j []) m b less)
            (increasing_before ms j r (omega arith) k c);
        from = h.from;
      }

  pub search_down : (ms : List (List ℕ)) (m : List ℕ) (low high j : ℕ) → IsIncreasing O ms → low ≤ j → j < high → O.compare (get_or ms j []) m ≢ Less →
      IsSearched ms m low high → IsSearched ms m low j
  search_down ms m low high j r l u n h =
      let w = h.from.within in
      let e : drop j ms ≡ get_or ms j [] ∷ drop (suc j) ms = drop-cons ms j [] (omega arith) in
      let s : IsIncreasing O (get_or ms j [] ∷ drop (suc j) ms) = subst (IsIncreasing O) e (increasing_drop j ms r) in
      record {
        rising = l;
        before = h.before;
        from = record {
          within = omega arith;
          after = λ k c x. ⊎_elim (λ q. n (subst (λ y. O.compare y m ≡ Less) (sym q) x))
              (λ d. n (W.total.trans (get_or ms j []) k m (increasing_below O W (get_or ms j []) (drop (suc j) ms) s k d) x))
              (contains_cases (get_or ms j []) (drop (suc j) ms) k (subst (λ ys. Contains ys k) e c));
        };
      }

  pub search_end : (ms : List (List ℕ)) (m : List ℕ) (low high : ℕ) → high ≤ low → IsSearched ms m low high → IsInsertionIndex O ms m low
  search_end ms m low high l h =
      let w = h.from.within in
      let g = h.rising in
      record {
        within = omega arith;
        before = h.before;
        after = λ k c. h.from.after k (subst (λ i. Contains (drop i ms) k) (let e : low ≡ high = omega arith in e) c);
      }

  increasing_take : (i : ℕ) (ms : List (List ℕ)) → IsIncreasing O ms → IsIncreasing O (take i ms)
  increasing_take zero ms r = tt
  increasing_take (suc i) [] r = tt
  increasing_take (suc i) (m ∷ ms) r = increasing_cons O m (take i ms) (λ n c. increasing_below O W m ms r n (contains_take ms i n c)) (increasing_take i ms (increasing_tail O m ms r))

  above_all : (ms : List (List ℕ)) (m : List ℕ) (i : ℕ) → IsIncreasing O ms → IsInsertionIndex O ms m i → (i < length ms → get_or ms i [] ≢ m) → (k : List ℕ) → Contains (drop i ms) k → O.compare m k ≡ Less
  above_all ms m i r p n k c = ⊎_elim (λ l. later l) (λ g. absurd (none g)) (le_or_not (suc i) (length ms))
    where
      none : (suc i ≤ length ms → ⊥) → ⊥
      none g = contains_none k (subst (λ ys. Contains ys k) (drop_of_length-le ms (let f = g in omega arith)) c)

      later : suc i ≤ length ms → O.compare m k ≡ Less
      later l =
          let h = get_or ms i [] in
          let d = drop (suc i) ms in
          let e : drop i ms ≡ h ∷ d = drop-cons ms i [] (omega arith) in
          let a : O.compare m h ≡ Less =
          ⊎_elim (λ x. absurd (p.after h (subst (λ ys. Contains ys h) (sym e) (contains_here h d)) x)) (λ x. ⊎_elim (λ q. absurd (n (omega arith) q)) (λ y. y) x) (three_ways O W h m) in
          ⊎_elim (λ q. subst (λ x. O.compare m x ≡ Less) q a) (λ b. W.total.trans m h k a (increasing_below O W h d (subst (IsIncreasing O) e (increasing_drop i ms r)) k b))
          (contains_cases h d k (subst (λ ys. Contains ys k) e c))

  pub insert_new : (ms : List (List ℕ)) (m : List ℕ) (i : ℕ) → IsIncreasing O ms → IsInsertionIndex O ms m i → (i < length ms → get_or ms i [] ≢ m) → IsInserted O ms (take i ms ++ m ∷ drop i ms) m
  insert_new ms m i r p n =
      let above = above_all ms m i r p n in
      record {
        increasing = increasing_append O (take i ms) (m ∷ drop i ms) (increasing_take i ms r) (increasing_cons O m (drop i ms) above (increasing_drop i ms r))
            (λ k x c d. ⊎_elim (λ e. subst (λ y. O.compare k y ≡ Less) e (p.before k c)) (λ later. W.total.trans k m x (p.before k c) (above x later)) (contains_cases m (drop i ms) x d));
        here = contains_right (take i ms) (m ∷ drop i ms) m (contains_here m (drop i ms));
        keeps = λ k c. ⊎_elim (λ a. contains_left (take i ms) (m ∷ drop i ms) k a) (λ b. contains_right (take i ms) (m ∷ drop i ms) k (contains_there m (drop i ms) k b)) (contains_parts ms i k c);
        only = λ k c. ⊎_elim (λ a. inr (contains_take ms i k a))
            (λ b. ⊎_elim (λ e. inl e) (λ d. inr (contains_drop ms i k d)) (contains_cases m (drop i ms) k b)) (Contains-append_cases (take i ms) (m ∷ drop i ms) k c);
        longer = λ _.
            let a = length-append (take i ms) (m ∷ drop i ms) in
            let b = length-append (take i ms) (drop i ms) in
            let e : length (take i ms ++ drop i ms) ≡ length ms = ap length (take-append-drop i ms) in
            omega arith;
      }

-- the increasing list of the first i members
pub record IsSortedSoFar (O : MonomialOrder) (list : List (List ℕ)) (i : ℕ) (sorted : List (List ℕ)) : Type 0 where
  pub increasing : IsIncreasing O sorted
  pub has : (m : List ℕ) → Contains (take i list) m → Contains sorted m
  pub only : (m : List ℕ) → Contains sorted m → Contains (take i list) m
  pub number : AllPairs (λ m n. m ≢ n) list → length sorted ≡ i

pub sorted_start : (O : MonomialOrder) (list : List (List ℕ)) → IsSortedSoFar O list 0 []
sorted_start O list = record { increasing = tt; has = λ m c. c; only = λ m c. c; number = λ _. refl }

pub sorted_next : (O : MonomialOrder) (list : List (List ℕ)) (i : ℕ) (sorted new : List (List ℕ)) (m : List ℕ) → i < length list → get_or list i m ≡ m →
    IsSortedSoFar O list i sorted → IsInserted O sorted new m → IsSortedSoFar O list (suc i) new
sorted_next O list i sorted new m l e S p = record {
  increasing = p.increasing;
  has = λ k c. ⊎_elim (λ q. subst (Contains new) (sym e ∙ q) p.here) (λ d. p.keeps k (S.has k d)) (take_next list i m l k c);
  only = λ k c. ⊎_elim (λ q. subst (Contains (take (suc i) list)) (e ∙ q) (take_at list i m l)) (λ d. take_more list i m l k (S.only k d)) (p.only k c);
  number = λ distinct.
      let n = S.number distinct in
      let fresh : ¬ Contains sorted m = λ c. new_at distinct (S.only m c) in
      let q = p.longer fresh in omega arith;
}
  where
    new_at : AllPairs (λ m n. m ≢ n) list → Contains (take i list) m → ⊥
    new_at d c = let j = take_index list i m (omega arith) c in let a = j.1 in d j.0 i m a l (j.2 ∙ sym e)

pub sorted_end : (O : MonomialOrder) (list : List (List ℕ)) (i : ℕ) (sorted : List (List ℕ)) → length list ≤ i → i ≤ length list → IsSortedSoFar O list i sorted → IsSorted O list sorted
sorted_end O list i sorted l k S = record {
  increasing = S.increasing;
  members = λ m. (λ c. S.has m (take_whole list i l m c), λ c. contains_take list i m (S.only m c));
  number = λ d. let n = S.number d in omega arith;
}

-- Induction along an order of monomials, among the monomials of a bounded degree.
use Rattle.std.proofs.Common.{◌≡◌, ℕ, zero, suc, ◌+◌, ◌-◌, ◌<◌, ◌≤◌, Bool, true, false, refl, sym, ◌∙◌, ap, subst, List, [], ◌∷◌, ◌++◌, length, cond, arith, ◌⊎◌, ⊎_elim}
use Rattle.std.specs.Prelude.{Contains, map}
use Rattle.std.specs.Ordering.{is_lt}
use Rattle.std.specs.declared.cmp.Ordering.{Ordering}
use Rattle.std.specs.declared.cmp.Ordering.TheVariants.{Less, Equal, Greater}
use Rattle.monomial_order.specs.Monomial.{exponent, IsMonomial}
pub use Rattle.monomial_order.specs.Ranks.{begun, lists, smaller_count, rank}
use Rattle.monomial_order.specs.MonomialOrder.{MonomialOrder, IsMonomialOrder}
use Rattle.monomial_order.specs.laws.Comparing.{compare_self, degree_falls}
use Rattle.monomial_order.specs.laws.Lists.{contains_cases, contains_here, contains_there, contains_none, contains_map, contains_left, contains_right}

begun_has : (d e : ℕ) (l : List ℕ) (ls : List (List ℕ)) → e ≤ d → Contains ls l → Contains (begun d ls) (e ∷ l)
begun_has zero zero l ls h k = contains_map (λ x. 0 ∷ x) ls l k
begun_has zero (suc e) l ls h k = absurd (omega arith)
begun_has (suc d) e l ls h k =
    ⊎_elim
    (λ same. contains_left (map (λ x. suc d ∷ x) ls) (begun d ls) (e ∷ l) (subst (λ x. Contains (map (λ y. suc d ∷ y) ls) (x ∷ l)) (sym same) (contains_map (λ x. suc d ∷ x) ls l k)))
    (λ less. contains_right (map (λ x. suc d ∷ x) ls) (begun d ls) (e ∷ l) (begun_has d e l ls less k))
    (split e d h)
  where
    split : (e d : ℕ) → e ≤ suc d → (e ≡ suc d) ⊎ (e ≤ d)
    split e d h = grind arith

pub lists_has : (n d : ℕ) (m : List ℕ) → length m ≤ n → ((i : ℕ) → i < n → exponent m i ≤ d) → Contains (lists n d) m
lists_has zero d [] h k = contains_here [] []
lists_has zero d (e ∷ m) h k = absurd (omega arith)
lists_has (suc n) d [] h k = contains_here [] (begun d (lists n d))
lists_has (suc n) d (e ∷ m) h k =
    contains_there [] (begun d (lists n d)) (e ∷ m) (begun_has d e m (lists n d) (k 0 (omega arith)) (lists_has n d m (omega arith) (λ i l. k (suc i) (omega arith))))

count_step : (o p : Ordering) (x y : ℕ) → (o ≡ Less → p ≡ Less) → x ≤ y → cond (is_lt o) (suc x) x ≤ cond (is_lt p) (suc y) y
count_step Less Less x y h l = omega arith
count_step Less Equal x y h l = absurd (let e : Equal ≡ Less = h refl in cc)
count_step Less Greater x y h l = absurd (let e : Greater ≡ Less = h refl in cc)
count_step Equal Less x y h l = omega arith
count_step Equal Equal x y h l = l
count_step Equal Greater x y h l = l
count_step Greater Less x y h l = omega arith
count_step Greater Equal x y h l = l
count_step Greater Greater x y h l = l

count_strict : (o p : Ordering) (x y : ℕ) → o ≡ Equal → p ≡ Less → x ≤ y → cond (is_lt o) (suc x) x < cond (is_lt p) (suc y) y
count_strict Equal Less x y h k l = omega arith
count_strict Less p x y h k l = absurd cc
count_strict Greater p x y h k l = absurd cc
count_strict Equal Equal x y h k l = absurd cc
count_strict Equal Greater x y h k l = absurd cc

count_more : (o p : Ordering) (x y : ℕ) → (o ≡ Less → p ≡ Less) → x < y → cond (is_lt o) (suc x) x < cond (is_lt p) (suc y) y
count_more Less Less x y h l = omega arith
count_more Less Equal x y h l = absurd (let e : Equal ≡ Less = h refl in cc)
count_more Less Greater x y h l = absurd (let e : Greater ≡ Less = h refl in cc)
count_more Equal Less x y h l = omega arith
count_more Equal Equal x y h l = l
count_more Equal Greater x y h l = l
count_more Greater Less x y h l = omega arith
count_more Greater Equal x y h l = l
count_more Greater Greater x y h l = l

-- a longer list has no fewer that pass
module _ (p : List ℕ → Bool) where
  abbrev passing : List (List ℕ) → ℕ
  passing [] = 0
  passing (k ∷ ks) = cond (p k) (suc (passing ks)) (passing ks)

  passing-append : (ks ls : List (List ℕ)) → passing (ks ++ ls) ≡ passing ks + passing ls
  passing-append [] ls = omega arith
  passing-append (k ∷ ks) ls = by_test (p k) (passing-append ks ls)
    where
      by_test : (b : Bool) → passing (ks ++ ls) ≡ passing ks + passing ls → cond b (suc (passing (ks ++ ls))) (passing (ks ++ ls)) ≡ cond b (suc (passing ks)) (passing ks) + passing ls
      by_test true e = omega arith
      by_test false e = e

passing-map : (p : List ℕ → Bool) (e : ℕ) (ks : List (List ℕ)) → passing p (map (λ l. e ∷ l) ks) ≡ passing (λ l. p (e ∷ l)) ks
passing-map p e [] = refl
passing-map p e (k ∷ ks) = ap (λ n. cond (p (e ∷ k)) (suc n) n) (passing-map p e ks)

begun_grows : (p : List ℕ → Bool) (d : ℕ) (ks ls : List (List ℕ)) → ((q : List ℕ → Bool) → passing q ks ≤ passing q ls) → passing p (begun d ks) ≤ passing p (begun d ls)
begun_grows p zero ks ls h = let a = passing-map p 0 ks in let b = passing-map p 0 ls in let c = h (λ l. p (0 ∷ l)) in omega arith
begun_grows p (suc d) ks ls h =
    let a = passing-map p (suc d) ks in
    let b = passing-map p (suc d) ls in
    let c = h (λ l. p (suc d ∷ l)) in
    let r = begun_grows p d ks ls h in
    let x = passing-append p (map (λ l. suc d ∷ l) ks) (begun d ks) in
    let y = passing-append p (map (λ l. suc d ∷ l) ls) (begun d ls) in
    omega arith

begun_longer : (p : List ℕ → Bool) (d more : ℕ) (ls : List (List ℕ)) → passing p (begun d ls) ≤ passing p (begun (more + d) ls)
begun_longer p d zero ls = subst (λ n. passing p (begun d ls) ≤ passing p (begun n ls)) (none d) (omega arith)
  where
    none : (d : ℕ) → d ≡ 0 + d
    none d = omega arith
begun_longer p d (suc more) ls =
    subst (λ n. passing p (begun d ls) ≤ passing p (begun n ls)) (next more d)
    (let r = begun_longer p d more ls in let x = passing-append p (map (λ l. suc (more + d) ∷ l) ls) (begun (more + d) ls) in omega arith)
  where
    next : (more d : ℕ) → suc (more + d) ≡ suc more + d
    next more d = omega arith

lists_grow : (p : List ℕ → Bool) (n d more : ℕ) → passing p (lists n d) ≤ passing p (lists n (more + d))
lists_grow p zero d more = omega arith
lists_grow p (suc n) d more = by_test (p []) (rest (λ q. lists_grow q n d more))
  where
    rest : ((q : List ℕ → Bool) → passing q (lists n d) ≤ passing q (lists n (more + d))) → passing p (begun d (lists n d)) ≤ passing p (begun (more + d) (lists n (more + d)))
    rest h =
        let a = begun_longer p d more (lists n d) in
        let b = begun_grows p (more + d) (lists n d) (lists n (more + d)) h in
        omega arith

    by_test : (b : Bool) → passing p (begun d (lists n d)) ≤ passing p (begun (more + d) (lists n (more + d))) →
        cond b (suc (passing p (begun d (lists n d)))) (passing p (begun d (lists n d))) ≤ cond b (suc (passing p (begun (more + d) (lists n (more + d))))) (passing p (begun (more + d) (lists n (more + d))))
    by_test true h = omega arith
    by_test false h = h

smaller_count-passing : (O : MonomialOrder) (ks : List (List ℕ)) (m : List ℕ) → smaller_count O ks m ≡ passing (λ k. is_lt (O.compare k m)) ks
smaller_count-passing O [] m = refl
smaller_count-passing O (k ∷ ks) m = ap (λ n. cond (is_lt (O.compare k m)) (suc n) n) (smaller_count-passing O ks m)

module _ (O : MonomialOrder) (L : IsMonomialOrder O) where
  count_le : (ks : List (List ℕ)) (a b : List ℕ) → O.compare a b ≡ Less → smaller_count O ks a ≤ smaller_count O ks b
  count_le [] a b h = omega arith
  count_le (k ∷ ks) a b h = count_step (O.compare k a) (O.compare k b) (smaller_count O ks a) (smaller_count O ks b) (λ e. L.total.trans k a b e h) (count_le ks a b h)

  pub count_lt : (ks : List (List ℕ)) (a b : List ℕ) → O.compare a b ≡ Less → Contains ks a → smaller_count O ks a < smaller_count O ks b
  count_lt [] a b h c = absurd (contains_none a c)
  count_lt (k ∷ ks) a b h c =
      ⊎_elim
      (λ e. count_strict (O.compare k a) (O.compare k b) (smaller_count O ks a) (smaller_count O ks b)
      (ap (λ x. O.compare x a) e ∙ compare_self O L a) (ap (λ x. O.compare x b) e ∙ h) (count_le ks a b h))
      (λ r. count_more (O.compare k a) (O.compare k b) (smaller_count O ks a) (smaller_count O ks b) (λ e. L.total.trans k a b e h) (count_lt ks a b h r))
      (contains_cases k ks a c)

  -- the monomials of a degree at most D
  pub record IsWithin (D : ℕ) (m : List ℕ) : Type 0 where
    pub monomial : IsMonomial O.places m
    pub degree : O.degree m ≤ D

  pub within_listed : (D : ℕ) (m : List ℕ) → IsWithin D m → Contains (lists O.places D) m
  within_listed D m h = lists_has O.places D m h.monomial.within (λ i l. let e = L.exponent_at_most m i l in let d = h.degree in omega arith)

  -- a smaller monomial has a smaller rank
  pub rank_falls : (k m : List ℕ) → IsMonomial O.places k → O.compare k m ≡ Less → rank O k < rank O m
  rank_falls k m hk h =
      let d = degree_falls O L k m h in
      let more = O.degree m - O.degree k in
      let grown = lists_grow (λ x. is_lt (O.compare x k)) O.places (O.degree k) more in
      let same : more + O.degree k ≡ O.degree m = omega arith in
      let box = ap (λ n. passing (λ x. is_lt (O.compare x k)) (lists O.places n)) same in
      let a = smaller_count-passing O (lists O.places (O.degree k)) k in
      let b = smaller_count-passing O (lists O.places (O.degree m)) k in
      let c = count_lt (lists O.places (O.degree m)) k m h (within_listed (O.degree m) k (record { monomial = hk; degree = d })) in
      omega arith

  -- what holds of a monomial if it holds of all smaller ones holds of all
  pub below_induction : (D : ℕ) (P : List ℕ → Type 0) → ((m : List ℕ) → IsWithin D m → ((k : List ℕ) → IsWithin D k → O.compare k m ≡ Less → P k) → P m) →
      (m : List ℕ) → IsWithin D m → P m
  below_induction D P step m h = go (rank O m) m h (omega arith)
    where
      go : (n : ℕ) (m : List ℕ) → IsWithin D m → rank O m ≤ n → P m
      go zero m h l = step m h (λ k w lt. absurd (let r = rank_falls k m w.monomial lt in omega arith))
      go (suc n) m h l = step m h (λ k w lt. go n k w (let r = rank_falls k m w.monomial lt in omega arith))

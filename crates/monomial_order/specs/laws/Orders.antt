-- The orders by weights and of words meet the laws.
use Rattle.std.proofs.Common.{◌≡◌, ◌≢◌, ℕ, zero, suc, ◌+◌, ◌*◌, ◌<◌, ◌≤◌, refl, sym, ◌∙◌, ap, List, [], ◌∷◌, ◌++◌, length, take, drop, arith, Bool, true, false, ◌⊎◌, inl, inr, ⊎_elim}
use Rattle.std.specs.Prelude.{sum, nat_le, nat_eq, ◌&&◌, All}
use Rattle.std.proofs.lemmas.List.Elements.{All-tail}
use Rattle.std.proofs.lemmas.Bool.{eqb-true}
use Rattle.std.proofs.lemmas.List.Sums.{sum_by-cons}
use Rattle.std.proofs.lemmas.Bool.Decides.{nat_tests}
use Rattle.std.specs.Cmp.{IsTotalOrder, tied_itself}
use Rattle.std.proofs.lemmas.Cmp.{nat_cmp_total, on_total, then_total, nat_list_cmp_total}
use Rattle.std.specs.Ordering.{nat_cmp, ordering_then, ordering_reverse, on, then_cmp}
use Rattle.std.specs.declared.cmp.Ordering.{Ordering}
use Rattle.std.specs.declared.cmp.Ordering.TheVariants.{Less, Equal, Greater}
use Rattle.monomial_order.specs.Monomial.{exponent, IsTrimmed, product, variable, weighted_degree}
use Rattle.monomial_order.specs.MonomialOrder.{IsMonomialOrder, HasSmallDegrees}
use Rattle.monomial_order.specs.Orders.{lex, reverse_lex, by_rows, weight_order, word_order}
use Rattle.monomial_order.specs.Ranges.{all_between, are_rows}
use Rattle.monomial_order.specs.laws.Monomial.{trimmed_tail, weighted_nil}

-- a part of an order: a total order that products keep
pub record IsPart (R : List ℕ → List ℕ → Ordering) : Type 0 where
  pub total : IsTotalOrder R
  pub kept : (k m n : List ℕ) → IsTrimmed k → IsTrimmed m → IsTrimmed n → R (product k m) (product k n) ≡ R m n

pub then_part : (R S : List ℕ → List ℕ → Ordering) → IsPart R → IsPart S → IsPart (then_cmp R S)
then_part R S r s = record {
  total = then_total r.total s.total;
  kept = λ k m n hk hm hn. ap (λ o. ordering_then o (S (product k m) (product k n))) (r.kept k m n hk hm hn) ∙ ap (ordering_then (R m n)) (s.kept k m n hk hm hn);
}

nat_cmp_add : (k a b : ℕ) → nat_cmp (k + a) (k + b) ≡ nat_cmp a b
nat_cmp_add k a b = grind (arith, nat_tests)

-- a number that is additive in the monomial
pub additive_part : (f : List ℕ → ℕ) → ((m n : List ℕ) → f (product m n) ≡ f m + f n) → IsPart (on f nat_cmp)
additive_part f h = record {
  total = on_total f nat_cmp_total;
  kept = λ k m n hk hm hn. ap (λ x. nat_cmp x (f (product k n))) (h k m) ∙ (ap (nat_cmp (f k + f m)) (h k n) ∙ nat_cmp_add (f k) (f m) (f n));
}

pub weighted_degree-product : (ws m n : List ℕ) → weighted_degree ws (product m n) ≡ weighted_degree ws m + weighted_degree ws n
weighted_degree-product [] m n = refl
weighted_degree-product (w ∷ ws) [] n = omega arith
weighted_degree-product (w ∷ ws) (a ∷ m) [] = omega arith
weighted_degree-product (w ∷ ws) (a ∷ m) (b ∷ n) = omega (arith, weighted_degree-product ws m n)

pub take-product : (i : ℕ) (m n : List ℕ) → take i (product m n) ≡ product (take i m) (take i n)
take-product zero m n = refl
take-product (suc i) [] n = refl
take-product (suc i) (a ∷ m) [] = refl
take-product (suc i) (a ∷ m) (b ∷ n) = ap (λ x. (a + b) ∷ x) (take-product i m n)

pub drop-product : (i : ℕ) (m n : List ℕ) → drop i (product m n) ≡ product (drop i m) (drop i n)
drop-product zero m n = refl
drop-product (suc i) [] n = refl
drop-product (suc i) (a ∷ m) [] = sym (unit (drop i m))
  where
    unit : (m : List ℕ) → product m [] ≡ m
    unit [] = refl
    unit (a ∷ m) = refl
drop-product (suc i) (a ∷ m) (b ∷ n) = drop-product i m n

pub sum-product : (m n : List ℕ) → sum (product m n) ≡ sum m + sum n
sum-product [] n = omega arith
sum-product (a ∷ m) [] = omega arith
sum-product (a ∷ m) (b ∷ n) = omega (arith, sum-product m n, cons (a + b) (product m n), cons a m, cons b n)
  where
    cons : (x : ℕ) (xs : List ℕ) → sum (x ∷ xs) ≡ x + sum xs
    cons x xs = sum_by-cons (λ y. y) x xs

pub IsTrimmed-drop : (i : ℕ) (m : List ℕ) → IsTrimmed m → IsTrimmed (drop i m)
IsTrimmed-drop zero m h = h
IsTrimmed-drop (suc i) [] h = tt
IsTrimmed-drop (suc i) (a ∷ m) h = IsTrimmed-drop i m (trimmed_tail a m h)

-- a product is above its factor
lex_above : (k n : List ℕ) → IsTrimmed n → n ≢ [] → lex k (product k n) ≡ Less
lex_above k [] h ne = absurd (ne refl)
lex_above [] (b ∷ n) h ne = refl
lex_above (a ∷ k) (zero ∷ []) h ne = absurd (h refl)
lex_above (a ∷ k) (zero ∷ (c ∷ n)) h ne =
    ap (λ o. ordering_then o (lex k (product k (c ∷ n)))) (let e : nat_cmp a (a + 0) ≡ Equal = same a (a + 0) (omega arith) in e) ∙ lex_above k (c ∷ n) h (λ e. cc)
  where
    same : (x y : ℕ) → x ≡ y → nat_cmp x y ≡ Equal
    same x y h = grind (arith, nat_tests)
lex_above (a ∷ k) (suc b ∷ n) h ne = ap (λ o. ordering_then o (lex k (product k n))) (below a (a + suc b) (omega arith))
  where
    below : (x y : ℕ) → x < y → nat_cmp x y ≡ Less
    below x y h = grind (arith, nat_tests)

product-unit : (m : List ℕ) → product m [] ≡ m
product-unit [] = refl
product-unit (a ∷ m) = refl

lex_kept : (k m n : List ℕ) → IsTrimmed m → IsTrimmed n → lex (product k m) (product k n) ≡ lex m n
lex_kept [] m n hm hn = refl
lex_kept (a ∷ k) [] [] hm hn = tied_itself nat_list_cmp_total (a ∷ k)
lex_kept (a ∷ k) [] (b ∷ n) hm hn = lex_above (a ∷ k) (b ∷ n) hn (λ e. cc)
lex_kept (a ∷ k) (c ∷ m) [] hm hn =
    nat_list_cmp_total.antisymm (product (a ∷ k) (c ∷ m)) (a ∷ k) ∙ ap ordering_reverse (lex_above (a ∷ k) (c ∷ m) hm (λ e. cc))
lex_kept (a ∷ k) (c ∷ m) (b ∷ n) hm hn =
    ap (λ o. ordering_then o (lex (product k m) (product k n))) (nat_cmp_add a c b) ∙ ap (ordering_then (nat_cmp c b)) (lex_kept k m n (trimmed_tail c m hm) (trimmed_tail b n hn))

pub lex_part : IsPart lex
lex_part = record { total = nat_list_cmp_total; kept = λ k m n hk hm hn. lex_kept k m n hm hn }

pub drop_part : (i : ℕ) → IsPart (on (drop i) lex)
drop_part i = record {
  total = on_total (drop i) nat_list_cmp_total;
  kept = λ k m n hk hm hn.
      ap (λ x. lex x (drop i (product k n))) (drop-product i k m) ∙ (ap (lex (product (drop i k) (drop i m))) (drop-product i k n) ∙
      lex_kept (drop i k) (drop i m) (drop i n) (IsTrimmed-drop i m hm) (IsTrimmed-drop i n hn));
}

pub rows_part : (rows : List (List ℕ)) (tie : List ℕ → List ℕ → Ordering) → IsPart tie → IsPart (by_rows rows tie)
rows_part [] tie h = h
rows_part (row ∷ rows) tie h = then_part (on (weighted_degree row) nat_cmp) (by_rows rows tie) (additive_part (weighted_degree row) (weighted_degree-product row)) (rows_part rows tie h)

-- no weight is 0
abbrev pub ArePositive : List ℕ → Type 0
ArePositive [] = Unit {0}
ArePositive (w ∷ ws) = (1 ≤ w) × ArePositive ws

exponent_weighted : (ws m : List ℕ) (i : ℕ) → ArePositive ws → i < length ws → exponent m i ≤ weighted_degree ws m
exponent_weighted [] m i h l = absurd (omega arith)
exponent_weighted (w ∷ ws) [] i h l = omega arith
exponent_weighted (w ∷ ws) (e ∷ m) zero h l = let k : 1 * e ≤ w * e = Rattle.std.proofs.Math.Nat.mul-le-mul_right e h.0 in omega arith
exponent_weighted (w ∷ ws) (e ∷ m) (suc i) h l = omega (arith, exponent_weighted ws m i h.1 (omega arith))

weighted-variable : (ws : List ℕ) (i : ℕ) → ArePositive ws → i < length ws → 1 ≤ weighted_degree ws (variable i)
weighted-variable [] i h l = absurd (omega arith)
weighted-variable (w ∷ ws) zero h l = let z = weighted_nil ws in let a = h.0 in omega arith
weighted-variable (w ∷ ws) (suc i) h l = let r = weighted-variable ws i h.1 (omega arith) in omega arith

by_first : (f : List ℕ → ℕ) (R : List ℕ → List ℕ → Ordering) (m n : List ℕ) → f m < f n → then_cmp (on f nat_cmp) R m n ≡ Less
by_first f R m n h = ap (λ o. ordering_then o (R m n)) (below (f m) (f n) h)
  where
    below : (x y : ℕ) → x < y → nat_cmp x y ≡ Less
    below x y h = grind (arith, nat_tests)

then_parts : (o p : Ordering) → ordering_then o p ≡ Equal → (o ≡ Equal) × (p ≡ Equal)
then_parts Less p h = absurd cc
then_parts Equal p h = (refl, h)
then_parts Greater p h = absurd cc

numbers_equal : (x y : ℕ) → nat_cmp x y ≡ Equal → x ≡ y
numbers_equal x y h = grind (arith, nat_tests)

pub lex_equal : (m n : List ℕ) → lex m n ≡ Equal → m ≡ n
lex_equal [] [] h = refl
lex_equal [] (b ∷ n) h = cc
lex_equal (a ∷ m) [] h = cc
lex_equal (a ∷ m) (b ∷ n) h =
    let r = then_parts (nat_cmp a b) (lex m n) h in
    ap (λ x. x ∷ m) (numbers_equal a b r.0) ∙ ap (λ x. b ∷ x) (lex_equal m n r.1)

then_second : (o p : Ordering) → ordering_then o p ≡ Equal → p ≡ Equal
then_second Less p h = absurd cc
then_second Equal p h = h
then_second Greater p h = absurd cc

rows_equal : (rows : List (List ℕ)) (tie : List ℕ → List ℕ → Ordering) (m n : List ℕ) → by_rows rows tie m n ≡ Equal → tie m n ≡ Equal
rows_equal [] tie m n h = h
rows_equal (row ∷ rows) tie m n h = rows_equal rows tie m n (then_second (nat_cmp (weighted_degree row m) (weighted_degree row n)) (by_rows rows tie m n) h)

pub weight_order_laws : (ws : List ℕ) (rows : List (List ℕ)) (tie : List ℕ → List ℕ → Ordering) → ArePositive ws → IsPart tie →
    ((m n : List ℕ) → tie m n ≡ Equal → m ≡ n) → IsMonomialOrder (weight_order ws rows tie)
weight_order_laws ws rows tie h part same = record {
  total = (rows_part (ws ∷ rows) tie part).total;
  equal = λ m n e. same m n (rows_equal (ws ∷ rows) tie m n e);
  kept = (rows_part (ws ∷ rows) tie part).kept;
  degree_first = λ m n l. by_first (weighted_degree ws) (by_rows rows tie) m n l;
  degree_product = weighted_degree-product ws;
  exponent_at_most = λ m i l. exponent_weighted ws m i h l;
  degree_positive = λ i l. weighted-variable ws i h l;
}

pub word_order_laws : (xs ss : List ℕ) → ArePositive (xs ++ ss) → IsMonomialOrder (word_order xs ss)
word_order_laws xs ss h = record {
  total = whole.total;
  equal = λ u v e. lex_equal u v (then_second (lex (drop (length xs) u) (drop (length xs) v)) (lex u v)
      (then_second (nat_cmp (sum (take (length xs) u)) (sum (take (length xs) v))) _ (then_second (nat_cmp (weighted_degree (xs ++ ss) u) (weighted_degree (xs ++ ss) v)) _ e)));
  kept = whole.kept;
  degree_first = λ u v l. by_first (weighted_degree (xs ++ ss)) (then_cmp (on (λ w. sum (take (length xs) w)) nat_cmp) (then_cmp (on (drop (length xs)) lex) lex)) u v l;
  degree_product = weighted_degree-product (xs ++ ss);
  exponent_at_most = λ u i l. exponent_weighted (xs ++ ss) u i h l;
  degree_positive = λ i l. weighted-variable (xs ++ ss) i h l;
}
  where
    whole : IsPart (word_order xs ss).compare
    whole = then_part (on (weighted_degree (xs ++ ss)) nat_cmp) _ (additive_part (weighted_degree (xs ++ ss)) (weighted_degree-product (xs ++ ss)))
        (then_part (on (λ w. sum (take (length xs) w)) nat_cmp) _
        (additive_part (λ w. sum (take (length xs) w)) (λ u v. ap sum (take-product (length xs) u v) ∙ sum-product (take (length xs) u) (take (length xs) v)))
        (then_part (on (drop (length xs)) lex) lex (drop_part (length xs)) lex_part))

-- reverse lex
reverse_then : (o p : Ordering) → ordering_reverse (ordering_then o p) ≡ ordering_then (ordering_reverse o) (ordering_reverse p)
reverse_then Less p = refl
reverse_then Equal p = refl
reverse_then Greater p = refl

pub reverse_lex_equal : (m n : List ℕ) → reverse_lex m n ≡ Equal → m ≡ n
reverse_lex_equal [] [] h = refl
reverse_lex_equal [] (b ∷ n) h = cc
reverse_lex_equal (a ∷ m) [] h = cc
reverse_lex_equal (a ∷ m) (b ∷ n) h =
    let r = then_parts (reverse_lex m n) (nat_cmp b a) h in
    ap (λ x. x ∷ m) (sym (numbers_equal b a r.1)) ∙ ap (λ x. b ∷ x) (reverse_lex_equal m n r.0)

reverse_lex_antisymm : (m n : List ℕ) → reverse_lex m n ≡ ordering_reverse (reverse_lex n m)
reverse_lex_antisymm [] [] = refl
reverse_lex_antisymm [] (b ∷ n) = refl
reverse_lex_antisymm (a ∷ m) [] = refl
reverse_lex_antisymm (a ∷ m) (b ∷ n) =
    ap (λ o. ordering_then o (nat_cmp b a)) (reverse_lex_antisymm m n) ∙
    (ap (ordering_then (ordering_reverse (reverse_lex n m))) (nat_cmp_total.antisymm b a) ∙ sym (reverse_then (reverse_lex n m) (nat_cmp a b)))

reverse_lex_self : (m : List ℕ) → reverse_lex m m ≡ Equal
reverse_lex_self [] = refl
reverse_lex_self (a ∷ m) = ap (λ o. ordering_then o (nat_cmp a a)) (reverse_lex_self m) ∙ same a
  where
    same : (x : ℕ) → nat_cmp x x ≡ Equal
    same x = grind (arith, nat_tests)

then_less : (o p : Ordering) → ordering_then o p ≡ Less → (o ≡ Less) ⊎ ((o ≡ Equal) × (p ≡ Less))
then_less Less p h = inl refl
then_less Equal p h = inr (refl, h)
then_less Greater p h = absurd cc

reverse_lex_trans : (x y z : List ℕ) → reverse_lex x y ≡ Less → reverse_lex y z ≡ Less → reverse_lex x z ≡ Less
reverse_lex_trans [] [] z h k = absurd cc
reverse_lex_trans [] (b ∷ n) z h k = absurd cc
reverse_lex_trans (a ∷ m) [] [] h k = refl
reverse_lex_trans (a ∷ m) [] (c ∷ l) h k = absurd cc
reverse_lex_trans (a ∷ m) (b ∷ n) [] h k = refl
reverse_lex_trans (a ∷ m) (b ∷ n) (c ∷ l) h k =
    ⊎_elim
    (λ hl. ⊎_elim
    (λ kl. ap (λ o. ordering_then o (nat_cmp c a)) (reverse_lex_trans m n l hl kl))
    (λ ke. ap (λ o. ordering_then o (nat_cmp c a)) (ap (reverse_lex m) (sym (reverse_lex_equal n l ke.0)) ∙ hl))
    (then_less (reverse_lex n l) (nat_cmp c b) k))
    (λ he. ⊎_elim
    (λ kl. ap (λ o. ordering_then o (nat_cmp c a)) (ap (λ w. reverse_lex w l) (reverse_lex_equal m n he.0) ∙ kl))
    (λ ke. ap (λ o. ordering_then o (nat_cmp c a)) (ap (λ w. reverse_lex w l) (reverse_lex_equal m n he.0) ∙ ke.0) ∙ nat_cmp_total.trans c b a ke.1 he.1)
    (then_less (reverse_lex n l) (nat_cmp c b) k))
    (then_less (reverse_lex m n) (nat_cmp b a) h)

reverse_lex_above : (k n : List ℕ) → IsTrimmed n → n ≢ [] → reverse_lex k (product k n) ≡ Greater
reverse_lex_above k [] h ne = absurd (ne refl)
reverse_lex_above [] (b ∷ n) h ne = refl
reverse_lex_above (a ∷ k) (b ∷ []) h ne =
    ap (λ o. ordering_then o (nat_cmp (a + b) a)) (ap (reverse_lex k) (product-unit k) ∙ reverse_lex_self k) ∙ above a b h
  where
    above : (x y : ℕ) → y ≢ 0 → nat_cmp (x + y) x ≡ Greater
    above x y h = grind (arith, nat_tests)
reverse_lex_above (a ∷ k) (b ∷ (c ∷ n)) h ne = ap (λ o. ordering_then o (nat_cmp (a + b) a)) (reverse_lex_above k (c ∷ n) h (λ e. cc))

reverse_lex_kept : (k m n : List ℕ) → IsTrimmed m → IsTrimmed n → reverse_lex (product k m) (product k n) ≡ reverse_lex m n
reverse_lex_kept [] m n hm hn = refl
reverse_lex_kept (a ∷ k) [] [] hm hn = reverse_lex_self (a ∷ k)
reverse_lex_kept (a ∷ k) [] (b ∷ n) hm hn = reverse_lex_above (a ∷ k) (b ∷ n) hn (λ e. cc)
reverse_lex_kept (a ∷ k) (c ∷ m) [] hm hn =
    reverse_lex_antisymm (product (a ∷ k) (c ∷ m)) (a ∷ k) ∙ ap ordering_reverse (reverse_lex_above (a ∷ k) (c ∷ m) hm (λ e. cc))
reverse_lex_kept (a ∷ k) (c ∷ m) (b ∷ n) hm hn =
    ap (λ o. ordering_then o (nat_cmp (a + b) (a + c))) (reverse_lex_kept k m n (trimmed_tail c m hm) (trimmed_tail b n hn)) ∙
    ap (ordering_then (reverse_lex m n)) (nat_cmp_add a b c)

pub reverse_lex_part : IsPart reverse_lex
reverse_lex_part = record {
  total = record { antisymm = reverse_lex_antisymm; trans = reverse_lex_trans; congr = λ x y z h. ap (λ w. reverse_lex w z) (reverse_lex_equal x y h) };
  kept = λ k m n hk hm hn. reverse_lex_kept k m n hm hn;
}

-- what the tests of the weights show
both_true : (x y : Bool) → x && y ≡ true → (x ≡ true) × (y ≡ true)
both_true true true h = (refl, refl)
both_true true false h = absurd cc
both_true false y h = absurd cc

pub between_first : (lo hi w : ℕ) (ws : List ℕ) → all_between lo hi (w ∷ ws) ≡ true → (lo ≤ w) × (w ≤ hi)
between_first lo hi w ws h =
    let p = both_true (nat_le lo w && nat_le w hi) (all_between lo hi ws) h in
    let q = both_true (nat_le lo w) (nat_le w hi) p.0 in
    (le_from_test lo w q.0, le_from_test w hi q.1)
  where
    le_from_test : (x y : ℕ) → nat_le x y ≡ true → x ≤ y
    le_from_test x y h = grind (arith, nat_tests)

pub between_rest : (lo hi w : ℕ) (ws : List ℕ) → all_between lo hi (w ∷ ws) ≡ true → all_between lo hi ws ≡ true
between_rest lo hi w ws h = (both_true (nat_le lo w && nat_le w hi) (all_between lo hi ws) h).1

pub all_between-append : (lo hi : ℕ) (xs ys : List ℕ) → all_between lo hi xs ≡ true → all_between lo hi ys ≡ true → all_between lo hi (xs ++ ys) ≡ true
all_between-append lo hi [] ys h k = k
all_between-append lo hi (x ∷ xs) ys h k = joined (nat_le lo x && nat_le x hi) (all_between lo hi xs) (all_between lo hi (xs ++ ys)) h (λ r. all_between-append lo hi xs ys r k)
  where
    joined : (x y z : Bool) → x && y ≡ true → (y ≡ true → z ≡ true) → x && z ≡ true
    joined true y z h f = f h
    joined false y z h f = h

pub positive_weights : (lo hi : ℕ) (ws : List ℕ) → 1 ≤ lo → all_between lo hi ws ≡ true → ArePositive ws
positive_weights lo hi [] l h = tt
positive_weights lo hi (w ∷ ws) l h =
    let a = between_first lo hi w ws h in
    (omega arith, positive_weights lo hi ws l (between_rest lo hi w ws h))

pub small_weights : (lo hi : ℕ) (ws : List ℕ) (i : ℕ) → all_between lo hi ws ≡ true → i < length ws → weighted_degree ws (variable i) ≤ hi
small_weights lo hi [] i h l = absurd (omega arith)
small_weights lo hi (w ∷ ws) zero h l =
    let a = between_first lo hi w ws h in
    let z = weighted_nil ws in omega arith
small_weights lo hi (w ∷ ws) (suc i) h l =
    let r = small_weights lo hi ws i (between_rest lo hi w ws h) (omega arith) in omega arith

pub weight_small : (ws : List ℕ) (rows : List (List ℕ)) (tie : List ℕ → List ℕ → Ordering) → all_between 1 64 ws ≡ true → HasSmallDegrees (weight_order ws rows tie)
weight_small ws rows tie h i l = let s = small_weights 1 64 ws i h l in omega arith

pub word_laws : (xs ss : List ℕ) → all_between 1 30000 xs ≡ true → all_between 1 30000 ss ≡ true → IsMonomialOrder (word_order xs ss)
word_laws xs ss h k = word_order_laws xs ss (positive_weights 1 30000 (xs ++ ss) (omega arith) (all_between-append 1 30000 xs ss h k))

pub word_small : (xs ss : List ℕ) → all_between 1 30000 xs ≡ true → all_between 1 30000 ss ≡ true → HasSmallDegrees (word_order xs ss)
word_small xs ss h k i l = small_weights 1 30000 (xs ++ ss) i (all_between-append 1 30000 xs ss h k) l

pub all_between-push : (lo hi : ℕ) (xs : List ℕ) (y : ℕ) → all_between lo hi xs ≡ true → lo ≤ y → y ≤ hi → all_between lo hi (xs ++ y ∷ []) ≡ true
all_between-push lo hi xs y h a b = all_between-append lo hi xs (y ∷ []) h (alone lo hi y a b)
  where
    alone : (lo hi y : ℕ) → lo ≤ y → y ≤ hi → all_between lo hi (y ∷ []) ≡ true
    alone lo hi y a b = grind (arith, nat_tests)

pub rows_first : (n : ℕ) (row : List ℕ) (rows : List (List ℕ)) → are_rows n (row ∷ rows) ≡ true → (length row ≡ n) × (all_between 0 1000 row ≡ true)
rows_first n row rows h =
    let p = both_true (nat_eq (length row) n && all_between 0 1000 row) (are_rows n rows) h in
    let q = both_true (nat_eq (length row) n) (all_between 0 1000 row) p.0 in
    (eqb-true (length row) n q.0, q.1)

pub rows_rest : (n : ℕ) (row : List ℕ) (rows : List (List ℕ)) → are_rows n (row ∷ rows) ≡ true → are_rows n rows ≡ true
rows_rest n row rows h = (both_true (nat_eq (length row) n && all_between 0 1000 row) (are_rows n rows) h).1

le_tests : (x y : ℕ) → x ≤ y → nat_le x y ≡ true
le_tests x y h = grind (arith, nat_tests)

pub all_three : (a b c : Bool) → a ≡ true → b ≡ true → c ≡ true → (a && b) && c ≡ true
all_three a b c h k l = ap (λ x. (x && b) && c) h ∙ (ap (λ x. x && c) k ∙ l)

-- the test passes if each weight is in the range
pub between_from_all : (lo hi : ℕ) (ws : List ℕ) → All (λ w. lo ≤ w) ws → All (λ w. w ≤ hi) ws → all_between lo hi ws ≡ true
between_from_all lo hi [] h k = refl
between_from_all lo hi (w ∷ ws) h k =
    all_three (nat_le lo w) (nat_le w hi) (all_between lo hi ws) (le_tests lo w (h 0 w (omega arith))) (le_tests w hi (k 0 w (omega arith)))
    (between_from_all lo hi ws (All-tail (λ w. lo ≤ w) w ws h) (All-tail (λ w. w ≤ hi) w ws k))

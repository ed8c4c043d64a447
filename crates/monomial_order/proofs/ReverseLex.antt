-- Reverse lex, from the last place on.
use Rattle.std.proofs.Common.{◌≡◌, ◌≢◌, ℕ, ◌+◌, ◌<◌, refl, sym, ◌∙◌, ap, List, [], ◌∷◌, ◌++◌, length, take, get_or, arith, ◌⊎◌, ⊎_elim}
use Rattle.std.proofs.Math.ListN.{length-take}
use Rattle.std.specs.Prelude.{min}
use Rattle.std.proofs.lemmas.Bool.Decides.{nat_tests}
use Rattle.std.proofs.lemmas.List.{take_more}
use Rattle.std.specs.Ordering.{nat_cmp, ordering_then}
use Rattle.std.specs.declared.cmp.Ordering.{Ordering}
use Rattle.std.specs.declared.cmp.Ordering.TheVariants.{Less, Equal, Greater}
use Rattle.monomial_order.specs.Orders.{reverse_lex}
use Rattle.monomial_order.specs.laws.Comparing.{cmp_greater}

then_assoc : (o p q : Ordering) → ordering_then (ordering_then o p) q ≡ ordering_then o (ordering_then p q)
then_assoc Less p q = refl
then_assoc Equal p q = refl
then_assoc Greater p q = refl

then_equal : (o : Ordering) → ordering_then o Equal ≡ o
then_equal Less = refl
then_equal Equal = refl
then_equal Greater = refl

-- the longer list is the smaller one
longer : (m n : List ℕ) → length n < length m → reverse_lex m n ≡ Less
longer [] n h = absurd (omega arith)
longer (a ∷ m) [] h = refl
longer (a ∷ m) (b ∷ n) h = ap (λ o. ordering_then o (nat_cmp b a)) (longer m n (omega arith))

shorter : (m n : List ℕ) → length m < length n → reverse_lex m n ≡ Greater
shorter m [] h = absurd (omega arith)
shorter [] (b ∷ n) h = refl
shorter (a ∷ m) (b ∷ n) h = ap (λ o. ordering_then o (nat_cmp b a)) (shorter m n (omega arith))

cmp_less : (x y : ℕ) → x < y → nat_cmp x y ≡ Less
cmp_less x y h = grind (arith, nat_tests)

apart : (x y : ℕ) → x ≢ y → (x < y) ⊎ (y < x)
apart x y h = grind arith

pub by_length : (m n : List ℕ) → length m ≢ length n → nat_cmp (length n) (length m) ≡ reverse_lex m n
by_length m n h =
    ⊎_elim (λ l. cmp_less (length n) (length m) l ∙ sym (longer m n l))
    (λ l. cmp_greater (length n) (length m) l ∙ sym (shorter m n l))
    (apart (length n) (length m) (λ e. h (sym e)))

-- the last place decides first
last_place : (m n : List ℕ) (a b : ℕ) → length m ≡ length n → reverse_lex (m ++ a ∷ []) (n ++ b ∷ []) ≡ ordering_then (nat_cmp b a) (reverse_lex m n)
last_place [] [] a b h = sym (then_equal (nat_cmp b a))
last_place [] (d ∷ n) a b h = absurd (omega arith)
last_place (c ∷ m) [] a b h = absurd (omega arith)
last_place (c ∷ m) (d ∷ n) a b h =
    ap (λ o. ordering_then o (nat_cmp d c)) (last_place m n a b (omega arith)) ∙ then_assoc (nat_cmp b a) (reverse_lex m n) (nat_cmp d c)

step : (m n : List ℕ) (i : ℕ) → length m ≡ length n → i < length m →
    reverse_lex (take (i + 1) m) (take (i + 1) n) ≡ ordering_then (nat_cmp (get_or n i 0) (get_or m i 0)) (reverse_lex (take i m) (take i n))
step m n i e h =
    ap (λ x. reverse_lex x (take (i + 1) n)) (take_more m i 0 h) ∙
    (ap (λ y. reverse_lex (take i m ++ get_or m i 0 ∷ []) y) (take_more n i 0 (omega arith)) ∙
    last_place (take i m) (take i n) (get_or m i 0) (get_or n i 0) (same (length-take i m) (length-take i n)))
  where
    same : length (take i m) ≡ min i (length m) → length (take i n) ≡ min i (length n) → length (take i m) ≡ length (take i n)
    same p q = omega arith

-- a place that differs decides
pub decided_here : (m n : List ℕ) (i j : ℕ) → j ≡ i + 1 → length m ≡ length n → i < length m → get_or m i 0 ≢ get_or n i 0 →
    reverse_lex (take j m) (take j n) ≡ nat_cmp (get_or n i 0) (get_or m i 0)
decided_here m n i j s e h ne =
    ap (λ k. reverse_lex (take k m) (take k n)) s ∙ (step m n i e h ∙ first (get_or n i 0) (get_or m i 0) (reverse_lex (take i m) (take i n)) (λ q. ne (sym q)))
  where
    first : (x y : ℕ) (o : Ordering) → x ≢ y → ordering_then (nat_cmp x y) o ≡ nat_cmp x y
    first x y o ne =
        ⊎_elim (λ l. ap (λ p. ordering_then p o) (cmp_less x y l) ∙ sym (cmp_less x y l)) (λ l. ap (λ p. ordering_then p o) (cmp_greater x y l) ∙ sym (cmp_greater x y l)) (apart x y ne)

-- a place that agrees decides nothing
pub equal_here : (m n : List ℕ) (i j : ℕ) → j ≡ i + 1 → length m ≡ length n → i < length m → get_or m i 0 ≡ get_or n i 0 →
    reverse_lex (take j m) (take j n) ≡ reverse_lex (take i m) (take i n)
equal_here m n i j s e h q =
    ap (λ k. reverse_lex (take k m) (take k n)) s ∙ (step m n i e h ∙ ap (λ p. ordering_then p (reverse_lex (take i m) (take i n))) (same (get_or n i 0) (get_or m i 0) (sym q)))
  where
    same : (x y : ℕ) → x ≡ y → nat_cmp x y ≡ Equal
    same x y h = grind (arith, nat_tests)

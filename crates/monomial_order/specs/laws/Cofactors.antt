-- Where a monomial divides another there is a cofactor.
use Rattle.std.proofs.Common.{◌≡◌, ℕ, zero, suc, ◌-◌, ◌≤◌, refl, sym, ◌∙◌, ap, List, [], ◌∷◌, length, arith, Bool, true, false, cond, ◌⊎◌, inl, inr}
use Rattle.std.specs.Prelude.{nat_eq, nat_le}
use Rattle.std.proofs.lemmas.Bool.{eqb-true, eq-eqb, true≢false}
use Rattle.std.proofs.lemmas.Bool.Decides.{nat_tests}
use Rattle.monomial_order.specs.Monomial.{exponent, product, least_common_multiple, IsTrimmed, Divides, Exponents, AreCoprime}
use Rattle.monomial_order.specs.laws.Monomial.{exponent-product, IsTrimmed-product, exponent-least_common_multiple, trimmed_tail, product_comm, IsTrimmed-least_common_multiple}

-- a trimmed list with exponents 0 alone is empty
zero_exponents : (m : List ℕ) → IsTrimmed m → ((i : ℕ) → exponent m i ≡ 0) → m ≡ []
zero_exponents [] h k = refl
zero_exponents (a ∷ []) h k = absurd (h (k 0))
zero_exponents (a ∷ (b ∷ m)) h k = absurd (let e : b ∷ m ≡ [] = zero_exponents (b ∷ m) h (λ i. k (suc i)) in cc)

-- trimmed lists with the same exponents are equal
pub same_exponents : (m n : List ℕ) → IsTrimmed m → IsTrimmed n → ((i : ℕ) → exponent m i ≡ exponent n i) → m ≡ n
same_exponents [] n hm hn h = sym (zero_exponents n hn (λ i. sym (h i)))
same_exponents (a ∷ m) [] hm hn h = zero_exponents (a ∷ m) hm h
same_exponents (a ∷ m) (b ∷ n) hm hn h =
    ap (λ x. x ∷ m) (h 0) ∙ ap (λ x. b ∷ x) (same_exponents m n (trimmed_tail a m hm) (trimmed_tail b n hn) (λ i. h (suc i)))

-- a in front of a trimmed list
put : ℕ → List ℕ → List ℕ
put zero [] = []
put zero (b ∷ m) = zero ∷ (b ∷ m)
put (suc a) m = suc a ∷ m

put_trimmed : (a : ℕ) (m : List ℕ) → IsTrimmed m → IsTrimmed (put a m)
unfolding put
put_trimmed zero [] h = tt
put_trimmed zero (b ∷ m) h = h
put_trimmed (suc a) [] h = λ e. cc
put_trimmed (suc a) (b ∷ m) h = h

put_first : (a : ℕ) (m : List ℕ) → exponent (put a m) 0 ≡ a
unfolding put
put_first zero [] = refl
put_first zero (b ∷ m) = refl
put_first (suc a) m = refl

put_next : (a : ℕ) (m : List ℕ) (i : ℕ) → exponent (put a m) (suc i) ≡ exponent m i
unfolding put
put_next zero [] i = refl
put_next zero (b ∷ m) i = refl
put_next (suc a) m i = refl

-- the differences of the exponents, with no zero at the end
rest : List ℕ → List ℕ → List ℕ
rest [] n = []
rest (a ∷ m) [] = put a (rest m [])
rest (a ∷ m) (b ∷ n) = put (a - b) (rest m n)

rest_trimmed : (m n : List ℕ) → IsTrimmed (rest m n)
unfolding rest
rest_trimmed [] n = tt
rest_trimmed (a ∷ m) [] = put_trimmed a (rest m []) (rest_trimmed m [])
rest_trimmed (a ∷ m) (b ∷ n) = put_trimmed (a - b) (rest m n) (rest_trimmed m n)

exponent-rest : (m n : List ℕ) (i : ℕ) → exponent (rest m n) i ≡ exponent m i - exponent n i
unfolding rest
exponent-rest [] n i = omega arith
exponent-rest (a ∷ m) [] zero = put_first a (rest m []) ∙ omega arith
exponent-rest (a ∷ m) [] (suc i) = put_next a (rest m []) i ∙ exponent-rest m [] i
exponent-rest (a ∷ m) (b ∷ n) zero = put_first (a - b) (rest m n)
exponent-rest (a ∷ m) (b ∷ n) (suc i) = put_next (a - b) (rest m n) i ∙ exponent-rest m n i

-- the cofactor
pub cofactor : (m n : List ℕ) → IsTrimmed m → IsTrimmed n → Divides m n → (k : List ℕ) × IsTrimmed k × (product m k ≡ n)
cofactor m n hm hn d = (
  rest n m,
  rest_trimmed n m,
  same_exponents (product m (rest n m)) n (IsTrimmed-product m (rest n m) hm (rest_trimmed n m)) hn
      (λ i. let e = exponent-product m (rest n m) i in let r = exponent-rest n m i in let l = d i in omega arith),
)

pub length-product_right : (m k : List ℕ) → length k ≤ length (product m k)
length-product_right [] k = omega arith
length-product_right (a ∷ m) [] = omega arith
length-product_right (a ∷ m) (b ∷ k) = omega (arith, length-product_right m k)

-- whether a monomial divides another is decided
abbrev divides_test : List ℕ → List ℕ → Bool
divides_test [] n = true
divides_test (a ∷ m) [] = cond (nat_eq a 0) (divides_test m []) false
divides_test (a ∷ m) (b ∷ n) = cond (nat_le a b) (divides_test m n) false

test_divides : (m n : List ℕ) → divides_test m n ≡ true → Divides m n
test_divides [] n h i = omega arith
test_divides (a ∷ m) [] h zero = by_test (nat_eq a 0) refl h
  where
    by_test : (b : Bool) → nat_eq a 0 ≡ b → cond b (divides_test m []) false ≡ true → a ≤ 0
    by_test true e k = let z : a ≡ 0 = eqb-true a 0 e in omega arith
    by_test false e k = absurd (true≢false (sym k))
test_divides (a ∷ m) [] h (suc i) = test_divides m [] (second (nat_eq a 0) h) i
  where
    second : (b : Bool) → cond b (divides_test m []) false ≡ true → divides_test m [] ≡ true
    second true k = k
    second false k = absurd (true≢false (sym k))
test_divides (a ∷ m) (b ∷ n) h zero = first (nat_le a b) refl h
  where
    first : (v : Bool) → nat_le a b ≡ v → cond v (divides_test m n) false ≡ true → a ≤ b
    first true e k = le a b e
      where
        le : (x y : ℕ) → nat_le x y ≡ true → x ≤ y
        le x y h = grind (arith, nat_tests)
    first false e k = absurd (true≢false (sym k))
test_divides (a ∷ m) (b ∷ n) h (suc i) = test_divides m n (second (nat_le a b) h) i
  where
    second : (v : Bool) → cond v (divides_test m n) false ≡ true → divides_test m n ≡ true
    second true k = k
    second false k = absurd (true≢false (sym k))

le_tests : (x y : ℕ) → x ≤ y → nat_le x y ≡ true
le_tests x y h = grind (arith, nat_tests)

divides_tests : (m n : List ℕ) → Divides m n → divides_test m n ≡ true
divides_tests [] n d = refl
divides_tests (a ∷ m) [] d =
    ap (λ b. cond b (divides_test m []) false) (eq-eqb a 0 (let l = d 0 in omega arith)) ∙ divides_tests m [] (λ i. d (suc i))
divides_tests (a ∷ m) (b ∷ n) d =
    ap (λ v. cond v (divides_test m n) false) (le_tests a b (d 0)) ∙ divides_tests m n (λ i. d (suc i))

pub divides_or_not : (m n : List ℕ) → Divides m n ⊎ (Divides m n → ⊥)
divides_or_not m n =
    elim (divides_test m n) as (λ b. divides_test m n ≡ b → Divides m n ⊎ (Divides m n → ⊥)) [
      | true ↦ λ e. inl (test_divides m n e)
      | false ↦ λ e. inr (λ d. true≢false (sym (divides_tests m n d) ∙ e))
    ] refl

pub trimmed_or_not : (m : List ℕ) → IsTrimmed m ⊎ (IsTrimmed m → ⊥)
trimmed_or_not [] = inl tt
trimmed_or_not (zero ∷ []) = inr (λ h. h refl)
trimmed_or_not (suc a ∷ []) = inl (λ e. cc)
trimmed_or_not (a ∷ (b ∷ m)) = trimmed_or_not (b ∷ m)

-- a factor on both sides cancels
pub product_cancel : (k m n : List ℕ) → IsTrimmed m → IsTrimmed n → product k m ≡ product k n → m ≡ n
product_cancel k m n hm hn h =
    same_exponents m n hm hn (λ i. let a = exponent-product k m i in let b = exponent-product k n i in let c = ap (λ x. exponent x i) h in omega arith)

pub Divides-refl : (m : List ℕ) → Divides m m
Divides-refl m i = omega arith

pub Divides-trans : (k m n : List ℕ) → Divides k m → Divides m n → Divides k n
Divides-trans k m n h d i = let a = h i in let b = d i in omega arith

pub Divides-antisymm : (m n : List ℕ) → IsTrimmed m → IsTrimmed n → Divides m n → Divides n m → m ≡ n
Divides-antisymm m n hm hn h d = same_exponents m n hm hn (λ i. let a = h i in let b = d i in omega arith)

pub Divides-product : (m k : List ℕ) → Divides m (product m k)
Divides-product m k i = let e = exponent-product m k i in omega arith

pub Divides-least_common_multiple : (m n : List ℕ) → Divides m (least_common_multiple m n)
Divides-least_common_multiple m n i = let e = exponent-least_common_multiple m n i in omega arith

pub Divides-least_common_multiple_right : (m n : List ℕ) → Divides n (least_common_multiple m n)
Divides-least_common_multiple_right m n i = let e = exponent-least_common_multiple m n i in omega arith

-- each common multiple is a multiple of the least one
pub least_common_multiple_least : (m n k : List ℕ) → Divides m k → Divides n k → Divides (least_common_multiple m n) k
least_common_multiple_least m n k h d i = let e = exponent-least_common_multiple m n i in let a = h i in let b = d i in omega arith

pub Divides-product_right : (k m : Exponents) → Divides m (product k m)
Divides-product_right k m i = let e = exponent-product k m i in omega arith

pub product_cancel_right : (k l m : Exponents) → IsTrimmed k → IsTrimmed l → product k m ≡ product l m → k ≡ l
product_cancel_right k l m hk hl h = product_cancel m k l hk hl (product_comm m k ∙ (h ∙ product_comm l m))

-- coprime monomials have their product as least common multiple
pub least_common_multiple_coprime : (m n : Exponents) → IsTrimmed m → IsTrimmed n → AreCoprime m n → least_common_multiple m n ≡ product m n
least_common_multiple_coprime m n hm hn h =
    same_exponents (least_common_multiple m n) (product m n) (IsTrimmed-least_common_multiple m n hm hn) (IsTrimmed-product m n hm hn)
    (λ i. let a = exponent-least_common_multiple m n i in let b = exponent-product m n i in let c = h i in omega arith)

-- Lists of exponents, place by place.
use Rattle.std.proofs.Common.{◌≡◌, ◌≢◌, ℕ, zero, suc, ◌+◌, ◌-◌, ◌<◌, ◌≤◌, refl, sym, ◌∙◌, ap, subst, List, [], ◌∷◌, length, take, get_or, arith, ◌⊎◌, ⊎_elim}
use Rattle.std.specs.Prelude.{max}
use Rattle.std.specs.List.{refill}
use Rattle.std.proofs.lemmas.Grind.{same_number_lists, common_steps}
use Rattle.monomial_order.specs.Monomial.{exponent, product, least_common_multiple, Divides, IsTrimmed}
use Rattle.monomial_order.specs.laws.Monomial.{last_exponent, length-product, exponent-product, exponent_past, length-least_common_multiple, exponent-least_common_multiple, IsTrimmed-product}
use Rattle.monomial_order.specs.laws.Cofactors.{same_exponents}

below_or_not : (a b : ℕ) → (a < b) ⊎ (b ≤ a)
below_or_not a b = grind arith

pub product_is : (sums initial m : List ℕ) → length sums ≡ length initial → length m ≤ length initial →
    ((k : ℕ) → k < length m → get_or sums k 0 ≡ get_or initial k 0 + get_or m k 0) → ((k : ℕ) → length m ≤ k → get_or sums k 0 ≡ get_or initial k 0) → sums ≡ product initial m
product_is sums initial m e s done left =
    same_number_lists sums (product initial m) (omega (arith, length-product initial m))
    (λ k l. ⊎_elim (λ b. done k b ∙ sym (exponent-product initial m k)) (λ p. left k p ∙ rest k p) (below_or_not k (length m)))
  where
    rest : (k : ℕ) → length m ≤ k → get_or initial k 0 ≡ exponent (product initial m) k
    rest k p = let x = exponent-product initial m k in let z = exponent_past m k p in omega arith

pub multiple_is : (maxima initial m : List ℕ) → length maxima ≡ length initial → length m ≤ length initial →
    ((k : ℕ) → k < length m → get_or maxima k 0 ≡ max (get_or initial k 0) (get_or m k 0)) → ((k : ℕ) → length m ≤ k → get_or maxima k 0 ≡ get_or initial k 0) →
    maxima ≡ least_common_multiple initial m
multiple_is maxima initial m e s done left =
    same_number_lists maxima (least_common_multiple initial m) (omega (arith, length-least_common_multiple initial m))
    (λ k l. ⊎_elim (λ b. done k b ∙ sym (exponent-least_common_multiple initial m k)) (λ p. left k p ∙ rest k p) (below_or_not k (length m)))
  where
    rest : (k : ℕ) → length m ≤ k → get_or initial k 0 ≡ exponent (least_common_multiple initial m) k
    rest k p = let x = exponent-least_common_multiple initial m k in let z = exponent_past m k p in omega arith

pub longer_does_not_divide : (m n : List ℕ) → IsTrimmed m → length n < length m → Divides m n → ⊥
longer_does_not_divide m n h l d =
    let last = last_exponent m (length m - 1) h (omega arith) in
    let z = exponent_past n (length m - 1) (omega arith) in
    let e = d (length m - 1) in
    absurd (omega arith)

-- a list that ends before its zeros is trimmed
pub trimmed_by_last : (m : List ℕ) → ((k : ℕ) → length m ≡ suc k → exponent m k ≢ 0) → IsTrimmed m
trimmed_by_last [] h = tt
trimmed_by_last (a ∷ []) h = h 0 (omega arith)
trimmed_by_last (a ∷ (b ∷ m)) h = trimmed_by_last (b ∷ m) (λ k e. h (suc k) (omega arith))

exponent-take : (n : ℕ) (m : List ℕ) (i : ℕ) → i < n → exponent (take n m) i ≡ exponent m i
exponent-take zero m i l = absurd (omega arith)
exponent-take (suc n) [] i l = refl
exponent-take (suc n) (a ∷ m) zero l = refl
exponent-take (suc n) (a ∷ m) (suc i) l = exponent-take n m i (omega arith)

pub take_trimmed : (n : ℕ) (m : List ℕ) → n ≤ length m → exponent m (n - 1) ≢ 0 → IsTrimmed (take n m)
take_trimmed zero m l ne = tt
take_trimmed (suc n) m l ne =
    trimmed_by_last (take (suc n) m) (λ k e z. ne (ap (exponent m) (index k e) ∙ (sym (exponent-take (suc n) m k (omega (arith, index k e))) ∙ z)))
  where
    index : (k : ℕ) → length (take (suc n) m) ≡ suc k → suc n - 1 ≡ k
    index k e = let t = Rattle.std.proofs.Math.ListN.length-take (suc n) m in omega arith

-- the front of a list has the same exponents if only zeros are left out
pub exponent-take_used : (n : ℕ) (m : List ℕ) → ((i : ℕ) → n ≤ i → exponent m i ≡ 0) → (i : ℕ) → exponent (take n m) i ≡ exponent m i
exponent-take_used n m zeros i = ⊎_elim (λ b. exponent-take n m i b) (λ p. past i p) (below_or_not i n)
  where
    past : (i : ℕ) → n ≤ i → exponent (take n m) i ≡ exponent m i
    past i p =
        let z = zeros i p in
        let t = Rattle.std.proofs.Math.ListN.length-take n m in
        let y = exponent_past (take n m) i (omega arith) in
        omega arith

pub least_used : (used : ℕ) (m : List ℕ) → exponent m (used - 1) ≢ 0 → (n : ℕ) → ((i : ℕ) → n ≤ i → exponent m i ≡ 0) → used ≤ n
least_used used m ne n zeros = ⊎_elim (λ l. absurd (ne (zeros (used - 1) (omega arith)))) (λ l. l) (below_or_not n used)

pub refill_is : (xs ws : List ℕ) → length ws ≡ length xs → refill (length xs) xs ws ≡ ws
refill_is xs ws e = grind (arith, common_steps)

pub divisor_is_shorter : (m n : List ℕ) → IsTrimmed m → Divides m n → length m ≤ length n
divisor_is_shorter m n h d = ⊎_elim (λ l. absurd (longer_does_not_divide m n h l d)) (λ l. l) (below_or_not (length n) (length m))

-- the differences, up to the last that is not 0, are the cofactor
pub quotient_is : (n m differences : List ℕ) (used : ℕ) → IsTrimmed n → IsTrimmed m → Divides m n → ((i : ℕ) → exponent differences i ≡ exponent n i - exponent m i) →
    IsTrimmed (take used differences) → ((i : ℕ) → used ≤ i → exponent differences i ≡ 0) → product m (take used differences) ≡ n
quotient_is n m differences used hn hm d minus trimmed zeros =
    same_exponents (product m (take used differences)) n (IsTrimmed-product m (take used differences) hm trimmed) hn (λ i.
    let p = exponent-product m (take used differences) i in
    let t = exponent-take_used used differences zeros i in
    let e = minus i in
    let l = d i in
    omega arith)

-- a list that a trimmed list of its length is put into is trimmed
pub trimmed_refill : (items new whole : List ℕ) → new ≡ whole → length whole ≡ length items → IsTrimmed whole → IsTrimmed (refill (length items) items new)
trimmed_refill items new whole is same h = subst IsTrimmed (sym (refill_is items new (ap length is ∙ same) ∙ is)) h

-- Laws of products of monomials.
use Rattle.std.proofs.Common.{◌≡◌, ◌≢◌, ℕ, zero, suc, ◌+◌, ◌≤◌, ◌<◌, refl, sym, ◌∙◌, ap, List, [], ◌∷◌, length, add_comm, add_assoc, arith}
use Rattle.std.specs.Prelude.{max, take, ◌++◌, nat_lt, true, false}
use Rattle.std.proofs.lemmas.Bool.{ltb-true, ltb-false}
use Rattle.monomial_order.specs.MonomialOrder.{MonomialOrder, IsMonomialOrder}
use Rattle.std.proofs.lemmas.List.{take_more}
use Rattle.monomial_order.specs.Monomial.{exponent, product, least_common_multiple, IsTrimmed, IsMonomial, weighted_degree, variable, Divides}

pub product_comm : (m n : List ℕ) → product m n ≡ product n m
product_comm [] [] = refl
product_comm [] (b ∷ n) = refl
product_comm (a ∷ m) [] = refl
product_comm (a ∷ m) (b ∷ n) = ap (λ x. x ∷ product m n) (add_comm a b) ∙ ap (λ k. (b + a) ∷ k) (product_comm m n)

pub product_assoc : (k m n : List ℕ) → product (product k m) n ≡ product k (product m n)
product_assoc [] m n = refl
product_assoc (a ∷ k) [] n = refl
product_assoc (a ∷ k) (b ∷ m) [] = refl
product_assoc (a ∷ k) (b ∷ m) (c ∷ n) = ap (λ x. x ∷ product (product k m) n) (add_assoc a b c) ∙ ap (λ l. (a + (b + c)) ∷ l) (product_assoc k m n)

pub product-one : (m : List ℕ) → product m [] ≡ m
product-one [] = refl
product-one (a ∷ m) = refl

pub length-product : (m n : List ℕ) → length (product m n) ≡ max (length m) (length n)
length-product [] n = omega arith
length-product (a ∷ m) [] = omega arith
length-product (a ∷ m) (b ∷ n) = omega (arith, length-product m n)

-- the last exponent of a trimmed list is not zero
pub last_exponent : (m : List ℕ) (n : ℕ) → IsTrimmed m → length m ≡ suc n → 1 ≤ exponent m n
last_exponent [] n h e = absurd (omega arith)
last_exponent (a ∷ []) zero h e = omega (arith, h)
last_exponent (a ∷ []) (suc n) h e = absurd (omega arith)
last_exponent (a ∷ (b ∷ m)) zero h e = absurd (omega arith)
last_exponent (a ∷ (b ∷ m)) (suc n) h e = last_exponent (b ∷ m) n h (omega arith)

-- and it has one, if it is not empty
pub last_place : (m : List ℕ) → IsTrimmed m → m ≢ [] → (n : ℕ) × (suc n ≡ length m) × (1 ≤ exponent m n)
last_place [] h n = absurd (n refl)
last_place (a ∷ m) h n = (length m, refl, last_exponent (a ∷ m) (length m) h refl)

pub IsTrimmed-product : (m n : List ℕ) → IsTrimmed m → IsTrimmed n → IsTrimmed (product m n)
IsTrimmed-product [] n h k = k
IsTrimmed-product (a ∷ m) [] h k = h
IsTrimmed-product (a ∷ []) (b ∷ []) h k = λ e. h (omega arith)
IsTrimmed-product (a ∷ []) (b ∷ (c ∷ n)) h k = k
IsTrimmed-product (a ∷ (d ∷ m)) (b ∷ []) h k = h
IsTrimmed-product (a ∷ (d ∷ m)) (b ∷ (c ∷ n)) h k = IsTrimmed-product (d ∷ m) (c ∷ n) h k

pub IsMonomial-product : (N : ℕ) (m n : List ℕ) → IsMonomial N m → IsMonomial N n → IsMonomial N (product m n)
IsMonomial-product N m n h k = record {
  trimmed = IsTrimmed-product m n h.trimmed k.trimmed;
  within = omega (arith, length-product m n, h.within, k.within);
}

pub exponent-product : (m n : List ℕ) (i : ℕ) → exponent (product m n) i ≡ exponent m i + exponent n i
exponent-product [] n i = omega arith
exponent-product (a ∷ m) [] i = omega arith
exponent-product (a ∷ m) (b ∷ n) zero = refl
exponent-product (a ∷ m) (b ∷ n) (suc i) = exponent-product m n i

pub take_product : (m n : List ℕ) (i : ℕ) → i < max (length m) (length n) →
    take i (product m n) ++ ((exponent m i + exponent n i) ∷ []) ≡ take (i + 1) (product m n)
take_product m n i h =
    ap (λ e. take i (product m n) ++ (e ∷ [])) (sym (exponent-product m n i)) ∙ sym (take_more (product m n) i 0 (let e = length-product m n in omega arith))

pub exponent_past : (m : List ℕ) (i : ℕ) → length m ≤ i → exponent m i ≡ 0
exponent_past [] i h = refl
exponent_past (a ∷ m) zero h = absurd (omega arith)
exponent_past (a ∷ m) (suc i) h = exponent_past m i (omega arith)

-- the exponents of a product of small degree are small
pub product_fits : (O : MonomialOrder) (L : IsMonomialOrder O) (m n : List ℕ) → IsMonomial O.places m → IsMonomial O.places n →
    O.degree (product m n) ≤ 65535 → (i : ℕ) → exponent m i + exponent n i ≤ 65535
product_fits O L m n hm hn h i =
    elim (nat_lt i O.places) as (λ b. nat_lt i O.places ≡ b → exponent m i + exponent n i ≤ 65535) [
      | true ↦ λ lt. let e = exponent-product m n i in let le = L.exponent_at_most (product m n) i (ltb-true i O.places lt) in omega arith
      | false ↦ λ ge. let e = exponent_past m i (past m hm ge) in let k = exponent_past n i (past n hn ge) in omega arith
    ] refl
  where
    past : (m : List ℕ) → IsMonomial O.places m → nat_lt i O.places ≡ false → length m ≤ i
    past m h ge = let w = h.within in let g : O.places ≤ i = ltb-false i O.places ge in omega arith

pub least_common_multiple_comm : (m n : List ℕ) → least_common_multiple m n ≡ least_common_multiple n m
least_common_multiple_comm [] [] = refl
least_common_multiple_comm [] (b ∷ n) = refl
least_common_multiple_comm (a ∷ m) [] = refl
least_common_multiple_comm (a ∷ m) (b ∷ n) = ap (λ x. x ∷ least_common_multiple m n) (same a b) ∙ ap (λ k. max b a ∷ k) (least_common_multiple_comm m n)
  where
    same : (a b : ℕ) → max a b ≡ max b a
    same a b = omega arith

pub length-least_common_multiple : (m n : List ℕ) → length (least_common_multiple m n) ≡ max (length m) (length n)
length-least_common_multiple [] n = omega arith
length-least_common_multiple (a ∷ m) [] = omega arith
length-least_common_multiple (a ∷ m) (b ∷ n) = omega (arith, length-least_common_multiple m n)

pub exponent-least_common_multiple : (m n : List ℕ) (i : ℕ) → exponent (least_common_multiple m n) i ≡ max (exponent m i) (exponent n i)
exponent-least_common_multiple [] n i = omega arith
exponent-least_common_multiple (a ∷ m) [] i = omega arith
exponent-least_common_multiple (a ∷ m) (b ∷ n) zero = refl
exponent-least_common_multiple (a ∷ m) (b ∷ n) (suc i) = exponent-least_common_multiple m n i

pub IsTrimmed-least_common_multiple : (m n : List ℕ) → IsTrimmed m → IsTrimmed n → IsTrimmed (least_common_multiple m n)
IsTrimmed-least_common_multiple [] n h k = k
IsTrimmed-least_common_multiple (a ∷ m) [] h k = h
IsTrimmed-least_common_multiple (a ∷ []) (b ∷ []) h k = λ e. h (omega arith)
IsTrimmed-least_common_multiple (a ∷ []) (b ∷ (c ∷ n)) h k = k
IsTrimmed-least_common_multiple (a ∷ (d ∷ m)) (b ∷ []) h k = h
IsTrimmed-least_common_multiple (a ∷ (d ∷ m)) (b ∷ (c ∷ n)) h k = IsTrimmed-least_common_multiple (d ∷ m) (c ∷ n) h k

pub IsMonomial-least_common_multiple : (N : ℕ) (m n : List ℕ) → IsMonomial N m → IsMonomial N n → IsMonomial N (least_common_multiple m n)
IsMonomial-least_common_multiple N m n h k = record {
  trimmed = IsTrimmed-least_common_multiple m n h.trimmed k.trimmed;
  within = omega (arith, length-least_common_multiple m n, h.within, k.within);
}

-- the tail of a trimmed list is trimmed
pub trimmed_tail : (a : ℕ) (m : List ℕ) → IsTrimmed (a ∷ m) → IsTrimmed m
trimmed_tail a [] h = tt
trimmed_tail a (b ∷ m) h = h

pub weighted_nil : (ws : List ℕ) → weighted_degree ws [] ≡ 0
weighted_nil [] = refl
weighted_nil (w ∷ ws) = refl

-- a variable divides what has an exponent at its place
pub variable_divides : (i : ℕ) (u : List ℕ) → 1 ≤ exponent u i → Divides (variable i) u
variable_divides zero [] h j = absurd (omega arith)
variable_divides zero (e ∷ u) h zero = h
variable_divides zero (e ∷ u) h (suc j) = omega arith
variable_divides (suc i) [] h j = absurd (omega arith)
variable_divides (suc i) (e ∷ u) h zero = omega arith
variable_divides (suc i) (e ∷ u) h (suc j) = variable_divides i u h j

-- it has the exponent 1 there
pub variable_at : (i : ℕ) → exponent (variable i) i ≡ 1
variable_at zero = refl
variable_at (suc i) = variable_at i

-- and no exponent at another place
pub variable_off : (i j : ℕ) → i ≢ j → exponent (variable i) j ≡ 0
variable_off zero zero h = absurd (h refl)
variable_off zero (suc j) h = refl
variable_off (suc i) zero h = refl
variable_off (suc i) (suc j) h = variable_off i j (λ e. h (ap suc e))

-- a variable is a monomial in more than its place
pub variable_trimmed : (i : ℕ) → IsTrimmed (variable i)
variable_trimmed zero = λ e. cc
variable_trimmed (suc i) = front i (variable_trimmed i)
  where
    front : (i : ℕ) → IsTrimmed (variable i) → IsTrimmed (0 ∷ variable i)
    front zero h = h
    front (suc i) h = h

pub variable_length : (i : ℕ) → length (variable i) ≡ suc i
variable_length zero = refl
variable_length (suc i) = ap suc (variable_length i)

pub variable_monomial : (n i : ℕ) → i < n → IsMonomial n (variable i)
variable_monomial n i l = record { trimmed = variable_trimmed i; within = let e = variable_length i in omega arith }

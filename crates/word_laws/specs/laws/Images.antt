-- Images of words: products, exponents, degrees.
use Rattle.std.proofs.Common.{◌≡◌, ℕ, zero, suc, ◌+◌, ◌*◌, ◌<◌, ◌≤◌, refl, sym, ◌∙◌, ap, List, [], ◌∷◌, ◌++◌, length, arith}
use Rattle.std.specs.Prelude.{map}
use Rattle.monomial_order.specs.Monomial.{Exponents, exponent, IsMonomial, product, variable, weighted_degree}
use Rattle.word_laws.specs.Words.{monomial_power, image, variables}
use Rattle.monomial_order.specs.laws.Monomial.{product_assoc, product_comm, product-one, IsMonomial-product, exponent-product, weighted_nil, variable_at, variable_off, variable_monomial}
use Rattle.monomial_order.specs.laws.Cofactors.{same_exponents}
use Rattle.monomial_order.specs.MonomialOrder.{MonomialOrder, IsMonomialOrder}
use Rattle.monomial_order.specs.laws.Comparing.{degree_one}

pub product_swap : (a b c d : Exponents) → product (product a b) (product c d) ≡ product (product a c) (product b d)
product_swap a b c d =
    product_assoc a b (product c d) ∙ (ap (product a) (sym (product_assoc b c d) ∙ (ap (λ x. product x d) (product_comm b c) ∙ product_assoc c b d)) ∙ sym (product_assoc a c (product b d)))

monomial_power-plus : (m : Exponents) (a b : ℕ) → monomial_power m (a + b) ≡ product (monomial_power m a) (monomial_power m b)
monomial_power-plus m zero b = ap (monomial_power m) (let e : zero + b ≡ b = omega arith in e)
monomial_power-plus m (suc a) b =
    ap (monomial_power m) (let e : suc a + b ≡ suc (a + b) = omega arith in e) ∙ (ap (product m) (monomial_power-plus m a b) ∙ sym (product_assoc m (monomial_power m a) (monomial_power m b)))

-- the image of a product is the product of the images
pub image_product : (u v : Exponents) (ms : List Exponents) → image (product u v) ms ≡ product (image u ms) (image v ms)
image_product [] v ms = refl
image_product (a ∷ u) [] ms = sym (product-one (image (a ∷ u) ms))
image_product (a ∷ u) (b ∷ v) [] = refl
image_product (a ∷ u) (b ∷ v) (m ∷ ms) =
    ap (λ x. product x (image (product u v) ms)) (monomial_power-plus m a b) ∙
    (ap (product (product (monomial_power m a) (monomial_power m b))) (image_product u v ms) ∙
    product_swap (monomial_power m a) (monomial_power m b) (image u ms) (image v ms))

-- each of the list is a monomial in n places
abbrev pub AreMonomials : ℕ → List (List ℕ) → Type 0
AreMonomials n [] = Unit {0}
AreMonomials n (m ∷ ms) = IsMonomial n m × AreMonomials n ms

pub AreMonomials-append : (n : ℕ) (ms ns : List Exponents) → AreMonomials n ms → AreMonomials n ns → AreMonomials n (ms ++ ns)
AreMonomials-append n [] ns h k = k
AreMonomials-append n (m ∷ ms) ns h k = (h.0, AreMonomials-append n ms ns h.1 k)

pub AreMonomials-more : (n k : ℕ) (ms : List Exponents) → n ≤ k → AreMonomials n ms → AreMonomials k ms
AreMonomials-more n k [] l h = tt
AreMonomials-more n k (m ∷ ms) l h = (record { trimmed = h.0.trimmed; within = let w = h.0.within in omega arith }, AreMonomials-more n k ms l h.1)

pub monomial_one : (n : ℕ) → IsMonomial n []
monomial_one n = record { trimmed = tt; within = omega arith }

pub power_monomial : (n : ℕ) (m : Exponents) (e : ℕ) → IsMonomial n m → IsMonomial n (monomial_power m e)
power_monomial n m zero h = monomial_one n
power_monomial n m (suc e) h = IsMonomial-product n m (monomial_power m e) h (power_monomial n m e h)

pub image_monomial : (n : ℕ) (w : Exponents) (ms : List Exponents) → AreMonomials n ms → IsMonomial n (image w ms)
image_monomial n [] ms h = monomial_one n
image_monomial n (e ∷ w) [] h = monomial_one n
image_monomial n (e ∷ w) (m ∷ ms) h = IsMonomial-product n (monomial_power m e) (image w ms) (power_monomial n m e h.0) (image_monomial n w ms h.1)

-- a number that is additive in the monomial
module _ (f : List ℕ → ℕ) (one : f [] ≡ 0) (add : (m n : Exponents) → f (product m n) ≡ f m + f n) where
  pub power_sum : (m : Exponents) (e : ℕ) → f (monomial_power m e) ≡ f m * e
  power_sum m zero = let z = one in omega arith
  power_sum m (suc e) = let p = add m (monomial_power m e) in let r = power_sum m e in omega arith

  pub image_sum : (w : Exponents) (ms : List Exponents) → f (image w ms) ≡ weighted_degree (map f ms) w
  image_sum [] [] = one
  image_sum [] (m ∷ ms) = one
  image_sum (e ∷ w) [] = one
  image_sum (e ∷ w) (m ∷ ms) =
      let p = add (monomial_power m e) (image w ms) in let q = power_sum m e in let r = image_sum w ms in omega arith

-- the variables
pub variables-suc : {A : Type 0} (f : List ℕ → A) (i k : ℕ) → map f (variables (suc i) k) ≡ map (λ m. f (0 ∷ m)) (variables i k)
variables-suc f i zero = refl
variables-suc f i (suc k) = ap (λ xs. f (variable (suc i)) ∷ xs) (variables-suc f (suc i) k)

pub length-variables : (i k : ℕ) → length (variables i k) ≡ k
length-variables i zero = refl
length-variables i (suc k) = ap suc (length-variables (suc i) k)

pub variables-split : (i k j : ℕ) → variables i (k + j) ≡ variables i k ++ variables (i + k) j
variables-split i zero j = ap (λ x. variables i x) (let e : zero + j ≡ j = omega arith in e) ∙ ap (λ x. variables x j) (let e : i ≡ i + 0 = omega arith in e)
variables-split i (suc k) j =
    ap (variables i) (let e : suc k + j ≡ suc (k + j) = omega arith in e) ∙
    (ap (λ xs. variable i ∷ xs) (variables-split (suc i) k j) ∙ ap (λ x. variable i ∷ (variables (suc i) k ++ variables x j)) (let e : suc i + k ≡ i + suc k = omega arith in e))

pub variables_monomials : (n i k : ℕ) → i + k ≤ n → AreMonomials n (variables i k)
variables_monomials n i zero l = tt
variables_monomials n i (suc k) l = (variable_monomial n i (omega arith), variables_monomials n (suc i) k (omega arith))

map_same : {A : Type 0} (f g : List ℕ → A) → ((m : Exponents) → f m ≡ g m) → (ms : List Exponents) → map f ms ≡ map g ms
map_same f g h [] = refl
map_same f g h (m ∷ ms) = ap (λ x. x ∷ map f ms) (h m) ∙ ap (λ xs. g m ∷ xs) (map_same f g h ms)

-- the weights are the degrees of the first variables
pub variables_degrees : (ws vs : List ℕ) → map (weighted_degree (ws ++ vs)) (variables 0 (length ws)) ≡ ws
variables_degrees [] vs = refl
variables_degrees (w ∷ ws) vs =
    ap (λ x. x ∷ map (weighted_degree (w ∷ (ws ++ vs))) (variables 1 (length ws))) (let z = weighted_nil (ws ++ vs) in let e : w * 1 + weighted_degree (ws ++ vs) [] ≡ w = omega arith in e) ∙
    ap (λ xs. w ∷ xs)
    (variables-suc (weighted_degree (w ∷ (ws ++ vs))) 0 (length ws) ∙
    (map_same (λ m. weighted_degree (w ∷ (ws ++ vs)) (0 ∷ m)) (weighted_degree (ws ++ vs)) (λ m. let e : w * 0 + weighted_degree (ws ++ vs) m ≡ weighted_degree (ws ++ vs) m = omega arith in e) (variables 0 (length ws)) ∙
    variables_degrees ws vs))

-- weights past the places of the monomial don't count
pub weighted_front : (ws vs m : List ℕ) → length m ≤ length ws → weighted_degree (ws ++ vs) m ≡ weighted_degree ws m
weighted_front [] vs [] l = weighted_nil vs
weighted_front [] vs (e ∷ m) l = absurd (omega arith)
weighted_front (w ∷ ws) vs [] l = refl
weighted_front (w ∷ ws) vs (e ∷ m) l = ap (λ x. w * e + x) (weighted_front ws vs m (omega arith))

-- letters past the places of the word don't count
pub image_front : (w : Exponents) (ms ns : List Exponents) → length w ≤ length ms → image w (ms ++ ns) ≡ image w ms
image_front [] ms ns l = refl
image_front (e ∷ w) [] ns l = absurd (omega arith)
image_front (e ∷ w) (m ∷ ms) ns l = ap (product (monomial_power m e)) (image_front w ms ns (omega arith))

-- the exponents of the image of a word over the variables
exponent_power : (j : ℕ) (m : Exponents) (e : ℕ) → exponent (monomial_power m e) j ≡ exponent m j * e
exponent_power j m e = power_sum (λ x. exponent x j) refl (λ x y. exponent-product x y j) m e

image_before : (w : Exponents) (i k j : ℕ) → j < i → exponent (image w (variables i k)) j ≡ 0
image_before [] i k j l = refl
image_before (e ∷ w) i zero j l = refl
image_before (e ∷ w) i (suc k) j l =
    let p = exponent-product (monomial_power (variable i) e) (image w (variables (suc i) k)) j in
    let q = exponent_power j (variable i) e in
    let z = variable_off i j (λ s. let s2 = s in absurd (omega arith)) in
    let y : exponent (variable i) j * e ≡ 0 * e = ap (λ x. x * e) z in
    let r = image_before w (suc i) k j (omega arith) in
    omega arith

image_exponent : (w : Exponents) (i k j : ℕ) → length w ≤ k → exponent (image w (variables i k)) (i + j) ≡ exponent w j
image_exponent [] i k j l = refl
image_exponent (e ∷ w) i zero j l = absurd (omega arith)
image_exponent (e ∷ w) i (suc k) zero l =
    let p = exponent-product (monomial_power (variable i) e) (image w (variables (suc i) k)) i in
    let q = exponent_power i (variable i) e in
    let y : exponent (variable i) i * e ≡ 1 * e = ap (λ x. x * e) (variable_at i) in
    let r = image_before w (suc i) k i (omega arith) in
    ap (exponent (image (e ∷ w) (variables i (suc k)))) (let s : i + 0 ≡ i = omega arith in s) ∙ omega arith
image_exponent (e ∷ w) i (suc k) (suc j) l =
    let p = exponent-product (monomial_power (variable i) e) (image w (variables (suc i) k)) (suc i + j) in
    let q = exponent_power (suc i + j) (variable i) e in
    let y : exponent (variable i) (suc i + j) * e ≡ 0 * e = ap (λ x. x * e) (variable_off i (suc i + j) (λ s. let s2 = s in absurd (omega arith))) in
    let r = image_exponent w (suc i) k j (omega arith) in
    ap (exponent (image (e ∷ w) (variables i (suc k)))) (let s : i + suc j ≡ suc i + j = omega arith in s) ∙ omega arith

-- a word is its own image over the variables
pub image_variables : (n : ℕ) (w : Exponents) → IsMonomial n w → image w (variables 0 n) ≡ w
image_variables n w h =
    same_exponents (image w (variables 0 n)) w (image_monomial n w (variables 0 n) (variables_monomials n 0 n (omega arith))).trimmed h.trimmed
    (λ j. ap (exponent (image w (variables 0 n))) (let s : j ≡ 0 + j = omega arith in s) ∙ image_exponent w 0 n j h.within)

-- the degrees of the variables give that of each monomial
pub degree_weighted : (O : MonomialOrder) → IsMonomialOrder O → (m : Exponents) → IsMonomial O.places m → weighted_degree (map O.degree (variables 0 O.places)) m ≡ O.degree m
degree_weighted O L m h = sym (image_sum O.degree (degree_one O L) L.degree_product m (variables 0 O.places)) ∙ ap O.degree (image_variables O.places m h)

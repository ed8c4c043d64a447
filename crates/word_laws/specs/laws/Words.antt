-- Words: their order, images and degrees.
use Rattle.std.proofs.Common.{◌≡◌, ℕ, zero, suc, ◌+◌, ◌≤◌, refl, sym, ◌∙◌, ap, List, [], ◌∷◌, ◌++◌, length, take, length-append, arith, ⊎_elim}
use Rattle.std.specs.Prelude.{map, sum, Contains}
use Rattle.std.proofs.lemmas.List.{map-append}
use Rattle.std.proofs.lemmas.List.Sums.{sum_by-cons}
use Rattle.std.proofs.lemmas.Bool.Decides.{nat_tests}
use Rattle.std.specs.Ordering.{nat_cmp, ordering_then}
use Rattle.std.specs.declared.cmp.Ordering.{Ordering}
use Rattle.std.specs.declared.cmp.Ordering.TheVariants.{Less, Equal, Greater}
use Rattle.monomial_order.specs.Monomial.{Exponents, product, variable, IsMonomial, Divides, weighted_degree}
use Rattle.monomial_order.specs.MonomialOrder.{IsMonomialOrder}
use Rattle.monomial_order.specs.laws.Orders.{ArePositive, word_order_laws, take-product, sum-product}
use Rattle.word_laws.specs.Words.{Letters, AreLetters, lead_degrees, word_order_of, image_of, IsWord, IsSWord, IsSmaller, variables}
use Rattle.monomial_order.specs.laws.Cofactors.{cofactor}
use Rattle.monomial_order.specs.laws.Comparing.{cmp_greater, le_or_not, degree_one, some_exponent}
use Rattle.monomial_order.specs.laws.Lists.{contains_here, contains_there}
use Rattle.word_laws.specs.laws.Images.{AreMonomials, AreMonomials-append, variables_monomials, image_monomial, image_sum, image_product, variables_degrees, weighted_front, image_front, image_variables, length-variables}

-- the letter of an s has no x
pub no_x_variable : (n j : ℕ) → sum (take n (variable (n + j))) ≡ 0
no_x_variable zero j = refl
no_x_variable (suc n) j =
    ap (λ k. sum (take (suc n) (variable k))) (let e : suc n + j ≡ suc (n + j) = omega arith in e) ∙
    (sum_by-cons (λ (y : ℕ). y) 0 (take n (variable (n + j))) ∙ (let r = no_x_variable n j in omega arith))

ArePositive-append : (xs ys : List ℕ) → ArePositive xs → ArePositive ys → ArePositive (xs ++ ys)
ArePositive-append [] ys h k = k
ArePositive-append (x ∷ xs) ys h k = (h.0, ArePositive-append xs ys h.1 k)

leads_front : (ws vs : List ℕ) (ms : List Exponents) → AreMonomials (length ws) ms → map (weighted_degree (ws ++ vs)) ms ≡ map (weighted_degree ws) ms
leads_front ws vs [] h = refl
leads_front ws vs (m ∷ ms) h = ap (λ x. x ∷ map (weighted_degree (ws ++ vs)) ms) (weighted_front ws vs m h.0.within) ∙ ap (λ xs. weighted_degree ws m ∷ xs) (leads_front ws vs ms h.1)

-- a smaller word of the same degree has no greater sum of x
-- of words of one degree with one image, the smaller has no more of x
pub x_falls : (a b x y : ℕ) (o : Ordering) → a ≡ b → ordering_then (nat_cmp a b) (ordering_then (nat_cmp x y) o) ≡ Less → x ≤ y
x_falls a b x y o h k =
    ⊎_elim (λ l. l) (λ l. absurd (clash (sym k ∙ (ap (λ p. ordering_then p (ordering_then (nat_cmp x y) o)) (same a b h) ∙ ap (λ p. ordering_then p o) (cmp_greater x y (omega (arith, l))))))) (le_or_not x y)
  where
    clash : Less ≡ Greater → ⊥
    clash e = cc

    same : (a b : ℕ) → a ≡ b → nat_cmp a b ≡ Equal
    same a b h = grind (arith, nat_tests)

monomials : (n : ℕ) (ms : List Exponents) → ((m : Exponents) → Contains ms m → IsMonomial n m) → AreMonomials n ms
monomials n [] h = tt
monomials n (m ∷ ms) h = (h m (contains_here m ms), monomials n ms (λ x k. h x (contains_there m ms x k)))

positive_numbers : (ds : List ℕ) → ((d : ℕ) → Contains ds d → 1 ≤ d) → ArePositive ds
positive_numbers [] h = tt
positive_numbers (d ∷ ds) h = (h d (contains_here d ds), positive_numbers ds (λ x k. h x (contains_there d ds x k)))

positive_degrees : (f : List ℕ → ℕ) (ms : List Exponents) → ((m : Exponents) → Contains ms m → 1 ≤ f m) → ArePositive (map f ms)
positive_degrees f [] h = tt
positive_degrees f (m ∷ ms) h = (h m (contains_here m ms), positive_degrees f ms (λ x k. h x (contains_there m ms x k)))

module _ (L : Letters) (H : AreLetters L) where
  degrees_positive : ArePositive L.degrees
  degrees_positive = positive_numbers L.degrees H.positive

  lead_positive : (m : Exponents) → Contains L.leads m → 1 ≤ weighted_degree L.degrees m
  lead_positive m h =
      let w = H.leads m h in
      let l = w.within in
      let x = some_exponent m w.trimmed (H.not_one m h) in
      let xl = x.1 in
      let x2 = x.2 in
      let e = (word_order_laws L.degrees [] (ArePositive-append L.degrees [] degrees_positive tt)).exponent_at_most m x.0 (let a = length-append L.degrees [] in omega arith) in
      let f = weighted_front L.degrees [] m l in
      omega arith

  pub leads_monomials : AreMonomials (length L.degrees) L.leads
  leads_monomials = monomials (length L.degrees) L.leads H.leads

  pub word_laws : IsMonomialOrder (word_order_of L)
  word_laws = word_order_laws L.degrees (lead_degrees L) (ArePositive-append L.degrees (lead_degrees L) degrees_positive (positive_degrees (weighted_degree L.degrees) L.leads lead_positive))

  pub images_monomials : AreMonomials (length L.degrees) (variables 0 (length L.degrees) ++ L.leads)
  images_monomials = AreMonomials-append (length L.degrees) (variables 0 (length L.degrees)) L.leads (variables_monomials (length L.degrees) 0 (length L.degrees) (omega arith)) leads_monomials

  -- the image is a monomial in the x
  pub image_x : (w : Exponents) → IsMonomial (length L.degrees) (image_of L w)
  image_x w = image_monomial (length L.degrees) w (variables 0 (length L.degrees) ++ L.leads) images_monomials

  pub images_degrees : map (word_order_of L).degree (variables 0 (length L.degrees) ++ L.leads) ≡ L.degrees ++ (lead_degrees L)
  images_degrees =
      map-append (word_order_of L).degree (variables 0 (length L.degrees)) L.leads ∙
      (ap (λ xs. xs ++ map (word_order_of L).degree L.leads) (variables_degrees L.degrees (lead_degrees L)) ∙
      ap (λ xs. L.degrees ++ xs) (leads_front L.degrees (lead_degrees L) L.leads leads_monomials))

  -- a word has the degree of its image
  pub degree_image : (w : Exponents) → (word_order_of L).degree (image_of L w) ≡ (word_order_of L).degree w
  degree_image w =
      image_sum (word_order_of L).degree (degree_one (word_order_of L) word_laws) word_laws.degree_product w (variables 0 (length L.degrees) ++ L.leads) ∙
      ap (λ ds. weighted_degree ds w) images_degrees

  pub degree_same : (v w : Exponents) → image_of L v ≡ image_of L w → (word_order_of L).degree v ≡ (word_order_of L).degree w
  degree_same v w e = sym (degree_image v) ∙ (ap (word_order_of L).degree e ∙ degree_image w)

  pub degree_x : (m : Exponents) → IsMonomial (length L.degrees) m → (word_order_of L).degree m ≡ weighted_degree L.degrees m
  degree_x m h = weighted_front L.degrees (lead_degrees L) m h.within

  -- a monomial in the x is a word, and its own image
  pub x_word : (m : Exponents) → IsMonomial (length L.degrees) m → IsWord L m
  x_word m h = record { trimmed = h.trimmed; within = let e = length-append L.degrees (lead_degrees L) in let l = h.within in omega arith }

  pub image_same : (m : Exponents) → IsMonomial (length L.degrees) m → image_of L m ≡ m
  image_same m h =
      image_front m (variables 0 (length L.degrees)) L.leads (let e = length-variables 0 (length L.degrees) in let l = h.within in omega arith) ∙
      image_variables (length L.degrees) m h

  pub image_times : (u v : Exponents) → image_of L (product u v) ≡ product (image_of L u) (image_of L v)
  image_times u v = image_product u v (variables 0 (length L.degrees) ++ L.leads)

  -- a divisor of an s-word is one
  pub s_divisor : (v w : Exponents) → IsWord L v → IsSWord L w → Divides v w → IsSWord L v
  s_divisor v w hv hw d =
      let k = cofactor v w hv.trimmed hw.0.trimmed d in
      let t : sum (take (length L.degrees) (product v k.0)) ≡ sum (take (length L.degrees) w) = ap (λ x. sum (take (length L.degrees) x)) k.2 in
      let p : sum (take (length L.degrees) (product v k.0)) ≡ sum (product (take (length L.degrees) v) (take (length L.degrees) k.0)) = ap sum (take-product (length L.degrees) v k.0) in
      let q = sum-product (take (length L.degrees) v) (take (length L.degrees) k.0) in
      let z = hw.1 in
      (hv, omega arith)

  -- a smaller word with the image of an s-word is one
  pub s_smaller : (v w : Exponents) → IsSWord L w → IsSmaller L w v → IsSWord L v
  s_smaller v w h k =
      let f : sum (take (length L.degrees) v) ≤ sum (take (length L.degrees) w) =
      x_falls ((word_order_of L).degree v) ((word_order_of L).degree w) (sum (take (length L.degrees) v)) (sum (take (length L.degrees) w)) _ (degree_same v w k.image) k.less in
      let z = h.1 in
      (k.word, omega arith)

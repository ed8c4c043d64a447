-- Letters of words over a list of elements.
use Rattle.std.proofs.Common.{◌≡◌, ◌≢◌, ℕ, zero, suc, ◌+◌, ◌*◌, ◌<◌, ◌≤◌, refl, sym, ◌∙◌, ap, List, [], ◌∷◌, ◌++◌, length, length-append, take, get_or, ⊎_elim, arith}
use Rattle.std.specs.Prelude.{map, sum}
use Rattle.std.proofs.lemmas.List.{length-map, get_or-append-add, get_or-map}
use Rattle.std.proofs.lemmas.List.Elements.{Contains-get_or}
use Rattle.monomial_order.specs.Monomial.{exponent, product, variable, IsMonomial, IsTrimmed, weighted_degree}
use Rattle.monomial_order.specs.laws.Cofactors.{length-product_right}
use Rattle.monomial_order.specs.laws.Comparing.{le_or_not}
use Rattle.monomial_order.specs.laws.Monomial.{weighted_nil, exponent_past, variable_at}
use Rattle.monomial_order.specs.laws.Orders.{weighted_degree-product, take-product, sum-product}
use Rattle.word_laws.specs.Words.{lead_degrees, IsSWord}
use Rattle.word_laws.specs.laws.Images.{degree_weighted}
use Rattle.polynomials.specs.Polynomial.{Polynomial, coefficient, lead_monomial}
use Rattle.polynomials.specs.Subalgebra.{Presented, IsPresentation}
use Rattle.polynomials.specs.laws.Coefficients.{found_monomial, decreasing_leads}
use Rattle.polynomials.specs.laws.Decreasing.{IsDecreasing_IsPoly}
use Rattle.subalgebra_laws.specs.Words.{letters}
use Rattle.subalgebra_laws.specs.laws.Letters.{none_before, letter_degrees, places_x, places_letters}
use Rattle.word_values.specs.Values.{IsHomogeneousElement, AreHomogeneousElements, word_degree}

-- the weight of a letter alone
weighted_variable : (ws : List ℕ) (j : ℕ) → j < length ws → weighted_degree ws (variable j) ≡ get_or ws j 0
weighted_variable [] j l = absurd (omega arith)
weighted_variable (w ∷ ws) zero l = let z = weighted_nil ws in let e : w * 1 + weighted_degree ws [] ≡ w = omega arith in e
weighted_variable (w ∷ ws) (suc j) l =
    let r = weighted_variable ws j (omega arith) in let e : w * 0 + weighted_degree ws (variable j) ≡ get_or ws j 0 = omega arith in e

-- a letter alone has the exponent 1
pub exponent_here : (i : ℕ) → exponent (variable i) i ≡ 1
exponent_here = variable_at

module _ {E : Type 0} (P : Presented E) (S : List (Polynomial E)) where
  -- where a letter of an s-word stands
  pub letter_range : (w : List ℕ) (i : ℕ) → IsSWord (letters P S) w → exponent w i ≢ 0 → (P.order.places ≤ i) × (i < P.order.places + length S)
  letter_range w i h n = (
    ⊎_elim (λ l. l) (λ m. absurd (n (none_before (length (letter_degrees P S)) w h.1 i (let x = places_x P S in omega (arith, m))))) (le_or_not P.order.places i),
    ⊎_elim (λ l. absurd (n (exponent_past w i (let a = h.0.within in let p = places_letters P S in let x = places_x P S in omega arith)))) (λ m. omega (arith, m)) (le_or_not (P.order.places + length S) i),
  )

  -- an s-word without a letter is one
  pub rest_word : (i : ℕ) (v w : List ℕ) → IsTrimmed v → product (variable i) v ≡ w → IsSWord (letters P S) w → IsSWord (letters P S) v
  rest_word i v w t e h =
      let n = length (letter_degrees P S) in
      let s : sum (take n (product (variable i) v)) ≡ sum (take n w) = ap (λ u. sum (take n u)) e in
      let p : sum (take n (product (variable i) v)) ≡ sum (product (take n (variable i)) (take n v)) = ap sum (take-product n (variable i) v) in
      let q = sum-product (take n (variable i)) (take n v) in
      let z = h.1 in
      let a = length-product_right (variable i) v in
      let b : length (product (variable i) v) ≡ length w = ap length e in
      let c = h.0.within in
      (record { trimmed = t; within = omega arith }, omega arith)

  pub product_degree : (u v : List ℕ) → word_degree P S (product u v) ≡ word_degree P S u + word_degree P S v
  product_degree u v = weighted_degree-product (letter_degrees P S ++ lead_degrees (letters P S)) u v

  -- the lead of an element is a monomial
  pub lead_places : (H : IsPresentation P) (s : Polynomial E) → IsHomogeneousElement P s → IsMonomial P.order.places (lead_monomial s)
  lead_places H s h =
      found_monomial P.field H.field P.order H.order s (IsDecreasing_IsPoly P.field P.order s h.canonical.decreasing) (lead_monomial s)
      (decreasing_leads P.field H.field P.order H.order s h.canonical.decreasing (λ e. h.homogeneous.some.1 (ap (λ p. coefficient P.field p h.homogeneous.some.0) e ∙ sym (Rattle.polynomials.specs.laws.Coefficients.nothing_at P.field h.homogeneous.some.0)))).nonzero

  pub letter_degree : (H : IsPresentation P) → AreHomogeneousElements P S → (j : ℕ) → j < length S → word_degree P S (variable (P.order.places + j)) ≡ P.order.degree (lead_monomial (get_or S j []))
  letter_degree H hs j l =
      let xs = letter_degrees P S in
      let ss = lead_degrees (letters P S) in
      let a : length ss ≡ length S = length-map (map lead_monomial S) (weighted_degree xs) ∙ length-map S lead_monomial in
      ap (λ n. weighted_degree (xs ++ ss) (variable (n + j))) (sym (places_x P S)) ∙
      (weighted_variable (xs ++ ss) (length xs + j) (let b = length-append xs ss in omega arith) ∙
      (get_or-append-add xs ss j 0 ∙
      (get_or-map (weighted_degree xs) (map lead_monomial S) j [] 0 (let b : length (map lead_monomial S) ≡ length S = length-map S lead_monomial in omega arith) ∙
      (ap (weighted_degree xs) (get_or-map lead_monomial S j [] [] l) ∙
      degree_weighted P.order H.order (lead_monomial (get_or S j [])) (lead_places H (get_or S j []) (hs (get_or S j []) (Contains-get_or S j [] l)))))))

  -- the place of a letter that is an s-word
  pub single_range : (w : List ℕ) (i : ℕ) → IsSWord (letters P S) w → w ≡ variable i → (P.order.places ≤ i) × (i < P.order.places + length S)
  single_range w i h e = letter_range w i h (λ z. let a : exponent w i ≡ exponent (variable i) i = ap (λ u. exponent u i) e in let b = exponent_here i in omega arith)

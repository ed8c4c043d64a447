-- The letters over a list of polynomials: how many there are, which words they make, and what stays as the list grows.
use Rattle.std.proofs.Common.{◌≡◌, ℕ, zero, suc, ◌+◌, ◌<◌, ◌≤◌, refl, sym, ◌∙◌, ap, subst, ⊎_elim, List, [], ◌∷◌, ◌++◌, length, length-append, take, get_or, arith}
use Rattle.std.specs.Prelude.{map, sum, Contains}
use Rattle.std.proofs.lemmas.List.{length-map, map-append, get_or-append-add}
use Rattle.std.proofs.lemmas.List.Sums.{sum_by-cons}
use Rattle.std.proofs.Math.Seq.{take-nil}
use Rattle.word_field.specs.Field.{IsField}
use Rattle.monomial_order.specs.Monomial.{exponent, product, variable, weighted_degree, IsMonomial}
use Rattle.monomial_order.specs.laws.Comparing.{degree_one}
use Rattle.monomial_order.specs.laws.Lists.{contains_cases, contains_none}
use Rattle.monomial_order.specs.laws.Monomial.{IsMonomial-product, variable_monomial}
use Rattle.monomial_order.specs.laws.Orders.{take-product, sum-product}
use Rattle.monomial_order.specs.Orders.{word_order}
use Rattle.word_laws.specs.Words.{word_order_of, variables, lead_degrees, AreLetters, IsWord, IsSWord}
use Rattle.word_laws.specs.laws.Images.{length-variables}
use Rattle.word_laws.specs.laws.Words.{no_x_variable}
use Rattle.word_laws.specs.laws.Longer.{longer_compare, longer_degree}
use Rattle.polynomials.specs.Polynomial.{Polynomial, coefficient, Same, term_of, lead_monomial}
use Rattle.polynomials.specs.Subalgebra.{Presented, IsPresentation}
use Rattle.polynomials.specs.laws.Coefficients.{value_variable}
use Rattle.subalgebra_laws.specs.Words.{letters, letter_values, word_value}

-- in a word without x each x has the exponent 0
pub none_before : (n : ℕ) (w : List ℕ) → sum (take n w) ≡ 0 → (i : ℕ) → i < n → exponent w i ≡ 0
none_before n [] h i l = refl
none_before zero (e ∷ w) h i l = absurd (omega arith)
none_before (suc n) (e ∷ w) h zero l = let c = sum_by-cons (λ (y : ℕ). y) e (take n w) in omega arith
none_before (suc n) (e ∷ w) h (suc i) l = none_before n w (let c = sum_by-cons (λ (y : ℕ). y) e (take n w) in omega arith) i (omega arith)

module _ {E : Type 0} (P : Presented E) (S : List (Polynomial E)) where
  abbrev pub letter_degrees : List ℕ
  letter_degrees = map P.order.degree (variables 0 P.order.places)

  -- how many x there are, and how many letters
  pub places_x : length letter_degrees ≡ P.order.places
  places_x = length-map (variables 0 P.order.places) P.order.degree ∙ length-variables 0 P.order.places

  pub places_letters : (word_order_of (letters P S)).places ≡ length letter_degrees + length S
  places_letters =
      length-append letter_degrees (lead_degrees (letters P S)) ∙
      ap (λ n. length letter_degrees + n) (length-map (map lead_monomial S) (weighted_degree letter_degrees) ∙ length-map S lead_monomial)

  -- 1 and products of s-words are s-words
  pub s_one : IsSWord (letters P S) []
  s_one = (record { trimmed = tt; within = omega arith }, ap sum (take-nil (length letter_degrees)))

  pub s_product : (u v : List ℕ) → IsSWord (letters P S) u → IsSWord (letters P S) v → IsSWord (letters P S) (product u v)
  s_product u v h k = (
    IsMonomial-product (word_order_of (letters P S)).places u v h.0 k.0,
    ap sum (take-product (length letter_degrees) u v) ∙ (sum-product (take (length letter_degrees) u) (take (length letter_degrees) v) ∙ (let a = h.1 in let b = k.1 in omega arith)),
  )

  -- the letter of the j-th element
  abbrev pub letter : ℕ → List ℕ
  letter j = variable (length letter_degrees + j)

  pub letter_at : (j : ℕ) → letter j ≡ variable (P.order.places + j)
  letter_at j = ap (λ n. variable (n + j)) places_x

  module _ (j : ℕ) (l : j < length S) where
    pub letter_word : IsSWord (letters P S) (letter j)
    letter_word = (variable_monomial (word_order_of (letters P S)).places (length letter_degrees + j) (let p = places_letters in omega arith), no_x_variable (length letter_degrees) j)

    pub letter_value : IsField P.field → Same P.field (word_value P S (letter j)) (get_or S j [])
    letter_value F m =
        let xs = map (λ k. term_of k P.field.one ∷ []) (variables 0 P.order.places) in
        let e : length xs ≡ length (variables 0 P.order.places) = length-map (variables 0 P.order.places) (λ k. term_of k P.field.one ∷ []) in
        ap (λ n. coefficient P.field (word_value P S (variable (n + j))) m) (places_x ∙ sym (e ∙ length-variables 0 P.order.places)) ∙
        (value_variable P.field F (letter_values P S) (length xs + j) (let a = length-append xs S in omega arith) m ∙
        ap (λ p. coefficient P.field p m) (get_or-append-add xs S j []))

-- elements come to the end of the list
module _ {E : Type 0} (P : Presented E) (S T : List (Polynomial E)) where
  -- a word over S is one over S and T
  pub word_grows : (w : List ℕ) → IsWord (letters P S) w → IsWord (letters P (S ++ T)) w
  word_grows w h = record { trimmed = h.trimmed; within = let l = h.within in let a = places_letters P S in let b = places_letters P (S ++ T) in let c = length-append S T in omega arith }

  leads_split : lead_degrees (letters P (S ++ T)) ≡ lead_degrees (letters P S) ++ map (weighted_degree (letter_degrees P S)) (map lead_monomial T)
  leads_split =
      ap (map (weighted_degree (letter_degrees P S))) (map-append lead_monomial S T) ∙ map-append (weighted_degree (letter_degrees P S)) (map lead_monomial S) (map lead_monomial T)

  pub degree_stays : (w : List ℕ) → length w ≤ (word_order_of (letters P S)).places → (word_order_of (letters P (S ++ T))).degree w ≡ (word_order_of (letters P S)).degree w
  degree_stays w h =
      ap (λ ds. (word_order (letter_degrees P S) ds).degree w) leads_split ∙
      longer_degree (letter_degrees P S) (lead_degrees (letters P S)) (map (weighted_degree (letter_degrees P S)) (map lead_monomial T)) w h

  pub compare_stays : (v w : List ℕ) → length v ≤ (word_order_of (letters P S)).places → length w ≤ (word_order_of (letters P S)).places →
      (word_order_of (letters P (S ++ T))).compare v w ≡ (word_order_of (letters P S)).compare v w
  compare_stays v w hv hw =
      ap (λ ds. (word_order (letter_degrees P S) ds).compare v w) leads_split ∙
      longer_compare (letter_degrees P S) (lead_degrees (letters P S)) (map (weighted_degree (letter_degrees P S)) (map lead_monomial T)) v w hv hw

module _ {E : Type 0} (P : Presented E) (H : IsPresentation P) where
  variable_degrees : (i k : ℕ) → i + k ≤ P.order.places → (d : ℕ) → Contains (map P.order.degree (variables i k)) d → 1 ≤ d
  variable_degrees i zero le d h = absurd (contains_none d h)
  variable_degrees i (suc k) le d h =
      ⊎_elim (λ e. subst (λ x. 1 ≤ x) e (H.order.degree_positive i (omega arith))) (λ r. variable_degrees (suc i) k (omega arith) d r)
      (contains_cases (P.order.degree (variable i)) (map P.order.degree (variables (suc i) k)) d h)

  -- leads that are monomials of positive degree are letters
  pub lead_letters : (S : List (Polynomial E)) → ((m : List ℕ) → Contains (map lead_monomial S) m → IsMonomial P.order.places m × (1 ≤ P.order.degree m)) → AreLetters (letters P S)
  lead_letters S h = record {
    positive = variable_degrees 0 P.order.places (omega arith);
    leads = λ m k. subst (λ n. IsMonomial n m) (sym (places_x P S)) (h m k).0;
    not_one = λ m k e. let d = (h m k).1 in let z : P.order.degree m ≡ P.order.degree [] = ap P.order.degree e in let o = degree_one P.order H.order in absurd (omega arith);
  }

-- What a table keeps, as elements come to the end of a list or are exchanged there.
use Rattle.std.proofs.Common.{◌≡◌, ◌≢◌, ℕ, ◌+◌, ◌-◌, ◌<◌, ◌≤◌, sym, ◌∙◌, ap, subst, List, [], ◌++◌, length, length-append, get_or, ⊎_elim, arith, Some}
use Rattle.std.specs.Prelude.{Contains}
use Rattle.std.proofs.lemmas.List.{get_or-append-add}
use Rattle.std.proofs.lemmas.List.Elements.{Contains-get_or}
use Rattle.monomial_order.specs.Monomial.{exponent, product, variable}
use Rattle.monomial_order.specs.laws.Cofactors.{cofactor}
use Rattle.monomial_order.specs.laws.Comparing.{le_or_not}
use Rattle.monomial_order.specs.laws.Monomial.{last_place, variable_divides, variable_trimmed, product-one}
use Rattle.word_laws.specs.Words.{IsSWord}
use Rattle.polynomials.specs.Polynomial.{Polynomial, lead_monomial}
use Rattle.polynomials.specs.Subalgebra.{Presented, IsPresentation, IsNormalForm}
use Rattle.subalgebra_laws.specs.Words.{letters}
use Rattle.subalgebra_laws.specs.laws.Letters.{places_x, places_letters, word_grows, degree_stays}
use Rattle.subalgebra_laws.specs.Statements.{ValuesStay}
use Rattle.word_values.specs.Values.{Table, AreHomogeneousElements, AreValues, AreWordsTo, word_degree, value_in}
use Rattle.word_values.specs.laws.Letters.{rest_word, letter_range, product_degree, letter_degree}

module _ {E : Type 0} (P : Presented E) (S T : List (Polynomial E)) where
  word_back : (w : List ℕ) → length w ≤ P.order.places + length S → IsSWord (letters P (S ++ T)) w → IsSWord (letters P S) w
  word_back w l h = (record { trimmed = h.0.trimmed; within = let a = places_letters P S in let x = places_x P S in omega arith }, h.1)

  module _ (stay : ValuesStay P S T) where
    pub values_grow : (kept : Table E) → AreValues P S kept → AreValues P (S ++ T) kept
    values_grow kept h w v e =
        let k = h w v e in
        record {
          word = (word_grows P S T w k.word.0, k.word.1);
          long = k.long;
          value = record {
            canonical = k.value.canonical;
            normal = subst (λ a. IsNormalForm P a v) (sym (stay w k.word.0)) k.value.normal;
            graded = λ m n. k.value.graded m n ∙ sym (degree_stays P S T w k.word.0.within);
          };
        }

    -- the other way round for words without a new letter
    pub values_back : (kept : Table E) → ((w : List ℕ) (v : Polynomial E) → value_in kept w ≡ Some v → length w ≤ P.order.places + length S) → AreValues P (S ++ T) kept → AreValues P S kept
    values_back kept short h w v e =
        let k = h w v e in
        let word = word_back w (short w v e) k.word in
        record {
          word = word;
          long = k.long;
          value = record {
            canonical = k.value.canonical;
            normal = subst (λ a. IsNormalForm P a v) (stay w word.0) k.value.normal;
            graded = λ m n. k.value.graded m n ∙ degree_stays P S T w word.0.within;
          };
        }

  pub degrees_grow : (kept : Table E) (d : ℕ) → AreValues P S kept → AreWordsTo P S d kept → AreWordsTo P (S ++ T) d kept
  degrees_grow kept d h le w v e = let a = degree_stays P S T w (h w v e).word.0.within in let b = le w v e in omega arith

  pub degrees_back : (kept : Table E) (d : ℕ) → ((w : List ℕ) (v : Polynomial E) → value_in kept w ≡ Some v → length w ≤ P.order.places + length S) →
      AreValues P (S ++ T) kept → AreWordsTo P (S ++ T) d kept → AreWordsTo P S d kept
  degrees_back kept d short h le w v e = let a = degree_stays P S T w (word_back w (short w v e) (h w v e).word).0.within in let b = le w v e in omega arith

module _ {E : Type 0} (P : Presented E) (H : IsPresentation P) (S : List (Polynomial E)) (hs : AreHomogeneousElements P S) where
  -- a letter of an s-word, and the word without it
  record HasLetter (w : List ℕ) (i : ℕ) : Type 0 where
    rest : List ℕ
    word : IsSWord (letters P S) rest
    whole_is : product (variable i) rest ≡ w
    first : P.order.places ≤ i
    last : i < P.order.places + length S

  letter_of : (w : List ℕ) (i : ℕ) → IsSWord (letters P S) w → 1 ≤ exponent w i → HasLetter w i
  letter_of w i h n =
      let k = cofactor (variable i) w (variable_trimmed i) h.0.trimmed (variable_divides i w n) in
      let r = letter_range P S w i h (λ z. omega arith) in
      record { rest = k.0; word = rest_word P S i k.0 w k.1 k.2 h; whole_is = k.2; first = r.0; last = r.1 }

  degree_of_letter : (i : ℕ) → P.order.places ≤ i → i < P.order.places + length S → word_degree P S (variable i) ≡ P.order.degree (lead_monomial (get_or S (i - P.order.places) []))
  degree_of_letter i f l =
      ap (λ k. word_degree P S (variable k)) (let e : i ≡ P.order.places + (i - P.order.places) = omega arith in e) ∙ letter_degree P S H hs (i - P.order.places) (omega arith)

  -- an s-word other than 1 has a positive degree
  degree_positive : (w : List ℕ) → IsSWord (letters P S) w → w ≢ [] → 1 ≤ word_degree P S w
  degree_positive w h n =
      let e = last_place w h.0.trimmed n in
      let x = letter_of w e.0 h e.2 in
      let d = product_degree P S (variable e.0) x.rest in
      let whole : word_degree P S (product (variable e.0) x.rest) ≡ word_degree P S w = ap (word_degree P S) x.whole_is in
      let one = degree_of_letter e.0 x.first x.last in
      let p = (hs (get_or S (e.0 - P.order.places) []) (Contains-get_or S (e.0 - P.order.places) [] (let f = x.first in let l = x.last in omega arith))).positive in
      omega arith

module _ {E : Type 0} (P : Presented E) (H : IsPresentation P) (S U : List (Polynomial E)) (hs : AreHomogeneousElements P (S ++ U)) (d : ℕ)
    (degree : (u : Polynomial E) → Contains U u → P.order.degree (lead_monomial u) ≡ d) where
  -- the degree of a letter of U
  late_degree : (i : ℕ) → P.order.places + length S ≤ i → i < P.order.places + length (S ++ U) → word_degree P (S ++ U) (variable i) ≡ d
  late_degree i f l =
      let j = i - (P.order.places + length S) in
      let k : j < length U = let a = length-append S U in omega arith in
      degree_of_letter P H (S ++ U) hs i (omega arith) l ∙
      (ap (λ n. P.order.degree (lead_monomial (get_or (S ++ U) n []))) (let e : i - P.order.places ≡ length S + j = omega arith in e) ∙
      (ap (λ s. P.order.degree (lead_monomial s)) (get_or-append-add S U j []) ∙ degree (get_or U j []) (Contains-get_or U j [] k)))

  -- a word of degree at most d with a letter of U is that letter alone
  alone : (w : List ℕ) (i : ℕ) → IsSWord (letters P (S ++ U)) w → word_degree P (S ++ U) w ≤ d → 1 ≤ exponent w i → P.order.places + length S ≤ i → w ≡ variable i
  alone w i h le n f =
      let x = letter_of P H (S ++ U) hs w i h n in
      let a = late_degree i f x.last in
      let b = product_degree P (S ++ U) (variable i) x.rest in
      let whole : word_degree P (S ++ U) (product (variable i) x.rest) ≡ word_degree P (S ++ U) w = ap (word_degree P (S ++ U)) x.whole_is in
      let empty : x.rest ≡ [] = ⊎_elim (λ e. e) (λ k. absurd (let p = degree_positive P H (S ++ U) hs x.rest x.word k in omega arith)) (Rattle.monomial_order.specs.laws.Comparing.equal_or_not x.rest []) in
      sym x.whole_is ∙ (ap (product (variable i)) empty ∙ product-one (variable i))

  pub kept_short : (kept : Table E) → AreValues P (S ++ U) kept → AreWordsTo P (S ++ U) d kept → (w : List ℕ) (v : Polynomial E) → value_in kept w ≡ Some v → length w ≤ P.order.places + length S
  kept_short kept h le w v e =
      let k = h w v e in
      ⊎_elim (λ l. l)
      (λ n.
      let some : w ≢ [] = λ z. n (let y : length w ≡ 0 = ap length z in omega arith) in
      let x = last_place w k.word.0.trimmed some in
      absurd (k.long (x.0, alone w x.0 k.word (le w v e) x.2 (let s = x.1 in omega (arith, n)))))
      (le_or_not (length w) (P.order.places + length S))

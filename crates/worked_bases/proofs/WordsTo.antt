-- Words over elements that tests make letter by letter.
use Rattle.std.proofs.Common.{◌≡◌, ℕ, zero, suc, ◌+◌, ◌<◌, ◌≤◌, subst, List, [], ◌++◌, length, get_or, arith}
use Rattle.std.proofs.lemmas.List.Elements.{Contains-get_or}
use Rattle.monomial_order.specs.Monomial.{exponent, product, variable}
use Rattle.monomial_order.specs.laws.Monomial.{weighted_nil, exponent-product}
use Rattle.polynomials.specs.Polynomial.{Polynomial, lead_monomial}
use Rattle.polynomials.specs.Subalgebra.{Presented, IsPresentation}
use Rattle.word_laws.specs.Words.{lead_degrees, IsSWord}
use Rattle.subalgebra_laws.specs.Words.{letters}
use Rattle.subalgebra_laws.specs.laws.Letters.{letter_degrees, letter, letter_at, letter_word, s_one, s_product}
use Rattle.word_values.specs.Values.{AreHomogeneousElements}
use Rattle.word_values.specs.laws.Letters.{product_degree, letter_degree}
use Rattle.worked_bases.specs.WordsTo.{IsWordTo}

variable_most : (i j : ℕ) → exponent (variable i) j ≤ 1
variable_most zero zero = omega arith
variable_most zero (suc j) = omega arith
variable_most (suc i) zero = omega arith
variable_most (suc i) (suc j) = variable_most i j

module _ {E : Type 0} (P : Presented E) (S : List (Polynomial E)) where
  pub one_to : IsWordTo P S 0 []
  one_to = record {
    word = s_one P S;
    degree = let z = weighted_nil (letter_degrees P S ++ lead_degrees (letters P S)) in omega arith;
    exponents = λ i. omega arith;
  }

  module _ (d : ℕ) (w : List ℕ) (h : IsWordTo P S d w) where
    pub longer_fits : (k : ℕ) → d ≤ 60000 → (i : ℕ) → exponent (variable k) i + exponent w i ≤ 65535
    longer_fits k l i = let a = variable_most k i in let b = h.exponents i in omega arith

    pub longer_to : IsPresentation P → AreHomogeneousElements P S → (n j : ℕ) → j < length S → n ≡ P.order.degree (lead_monomial (get_or S j [])) → IsWordTo P S (d + n) (product (variable (P.order.places + j)) w)
    longer_to H hs n j l e = record {
      word = subst (λ x. IsSWord (letters P S) (product x w)) (letter_at P S j) (s_product P S (letter P S j) w (letter_word P S j l) h.word);
      degree = let a = product_degree P S (variable (P.order.places + j)) w in let b = letter_degree P S H hs j l in let c = h.degree in omega arith;
      exponents = λ i.
          let a = variable_most (P.order.places + j) i in
          let b = h.exponents i in
          let c = exponent-product (variable (P.order.places + j)) w i in
          let p = (hs (get_or S j []) (Contains-get_or S j [] l)).positive in
          omega arith;
    }

-- to a greater degree
pub to_more : {E : Type 0} (P : Presented E) (S : List (Polynomial E)) (c d : ℕ) (w : List ℕ) → c ≤ d → IsWordTo P S c w → IsWordTo P S d w
to_more P S c d w l h = record { word = h.word; degree = let a = h.degree in omega arith; exponents = λ i. let a = h.exponents i in omega arith }

-- The letters over a list of monic elements: what they stand for, their order and their images.
use Rattle.std.proofs.Common.{◌≡◌, ℕ, zero, suc, ◌+◌, ◌<◌, ◌≤◌, sym, ◌∙◌, ap, subst, List, [], ◌∷◌, ◌++◌, length, length-append, get_or, arith, cond}
use Rattle.std.specs.Prelude.{map, Contains}
use Rattle.std.proofs.lemmas.List.{length-map, get_or-append-add, get_or-map}
use Rattle.monomial_order.specs.Monomial.{product, variable, IsMonomial}
use Rattle.monomial_order.specs.MonomialOrder.{MonomialOrder, IsMonomialOrder}
use Rattle.monomial_order.specs.laws.Lists.{contains_here, contains_there, map_contains}
use Rattle.monomial_order.specs.laws.Monomial.{product-one, variable_monomial}
use Rattle.word_laws.specs.Words.{AreLetters, word_order_of, image_of, image, variables}
use Rattle.word_laws.specs.laws.Images.{length-variables, degree_weighted}
use Rattle.word_laws.specs.laws.Words.{word_laws, degree_image, degree_x, image_x}
use Rattle.polynomials.specs.Polynomial.{Polynomial, coefficient, term_of, lead_monomial}
use Rattle.polynomials.specs.Subalgebra.{Presented, IsPresentation}
use Rattle.polynomials.specs.laws.Same.{same_refl}
use Rattle.polynomials.specs.laws.Decreasing.{IsDecreasing_IsPoly, IsLead_first}
use Rattle.subalgebra_laws.specs.Words.{letters, letter_values, word_value}
use Rattle.subalgebra_laws.specs.laws.Letters.{lead_letters, letter, places_x}
use Rattle.subalgebra_laws.specs.Bases.{IsMonicElement, AreMonicElements}
use Rattle.polynomials.specs.laws.Coefficients.{single_term}
use Rattle.subalgebra_laws.proofs.MonicProducts.{IsMonic, AreMonic, monic_value}

-- a variable stands for the member of the list at its index
image_variable : (ms : List (List ℕ)) (j : ℕ) → j < length ms → image (variable j) ms ≡ get_or ms j []
image_variable [] j l = absurd (omega arith)
image_variable (m ∷ ms) zero l = product-one (product m []) ∙ product-one m
image_variable (m ∷ ms) (suc j) l = image_variable ms j (omega arith)

module _ {E : Type 0} (P : Presented E) (S : List (Polynomial E)) where
  abbrev pub letter_images : List (List ℕ)
  letter_images = variables 0 P.order.places ++ map lead_monomial S

  abbrev pub order_over : MonomialOrder
  order_over = word_order_of (letters P S)

  pub image_is : (w : List ℕ) → image_of (letters P S) w ≡ image w letter_images
  image_is w = ap (λ k. image w (variables 0 k ++ map lead_monomial S)) (places_x P S)

  pub letter_image : (j : ℕ) → j < length S → image_of (letters P S) (letter P S j) ≡ lead_monomial (get_or S j [])
  letter_image j l =
      image_is (letter P S j) ∙ (ap (λ n. image (variable (n + j)) letter_images) (places_x P S ∙ sym (length-variables 0 P.order.places)) ∙
      (image_variable letter_images (length (variables 0 P.order.places) + j)
      (let a = length-append (variables 0 P.order.places) (map lead_monomial S) in let b : length (map lead_monomial S) ≡ length S = length-map S lead_monomial in omega arith) ∙
      (get_or-append-add (variables 0 P.order.places) (map lead_monomial S) j [] ∙ get_or-map lead_monomial S j [] [] l)))

module _ {E : Type 0} (P : Presented E) (H : IsPresentation P) where
  single_monic : (m : List ℕ) → IsMonomial P.order.places m → IsMonic P.field P.order (term_of m P.field.one ∷ []) m
  unfolding coefficient
  single_monic m h = record {
    poly = (record { monomial = h; value = H.field.one_value }, tt);
    monomial = h;
    one = ap (λ b. P.field.plus (cond b P.field.one P.field.zero) P.field.zero) (same_refl m) ∙ (H.field.plus_zero P.field.one ∙ H.field.one_value);
    greatest = λ n k ne. absurd (ne (sym (single_term P.field H.field m P.field.one n k)));
  }

  variables_monic : (i k : ℕ) → i + k ≤ P.order.places → (fs : List (Polynomial E)) (ms : List (List ℕ)) → AreMonic P.field H.field P.order H.order fs ms →
      AreMonic P.field H.field P.order H.order (map (λ m. term_of m P.field.one ∷ []) (variables i k) ++ fs) (variables i k ++ ms)
  variables_monic i zero le fs ms h = h
  variables_monic i (suc k) le fs ms h = (single_monic (variable i) (variable_monomial P.order.places i (omega arith)), variables_monic (suc i) k (omega arith) fs ms h)

  pub element_monic : (s : Polynomial E) → IsMonicElement P s → IsMonic P.field P.order s (lead_monomial s)
  unfolding coefficient
  element_monic [] h = absurd (H.field.one_not_zero (sym h.monic))
  element_monic (t ∷ p) h = record {
    poly = IsDecreasing_IsPoly P.field P.order (t ∷ p) h.decreasing;
    monomial = h.decreasing.0.term.monomial;
    one = h.monic;
    greatest = (IsLead_first P.field H.field P.order H.order t p h.decreasing).greatest;
  }

  elements_monic : (T : List (Polynomial E)) → AreMonicElements P T → AreMonic P.field H.field P.order H.order T (map lead_monomial T)
  elements_monic [] h = tt
  elements_monic (s ∷ T) h = (element_monic s (h s (contains_here s T)), elements_monic T (λ x k. h x (contains_there s T x k)))

  module _ (S : List (Polynomial E)) (HS : AreMonicElements P S) where
    pub values_monic : AreMonic P.field H.field P.order H.order (letter_values P S) (letter_images P S)
    values_monic = variables_monic 0 P.order.places (omega arith) S (map lead_monomial S) (elements_monic S HS)

    -- the value of a word is monic, and its lead is the image
    pub word_monic : (w : List ℕ) → IsMonic P.field P.order (word_value P S w) (image_of (letters P S) w)
    word_monic w =
        subst (IsMonic P.field P.order (word_value P S w)) (sym (image_is P S w)) (monic_value P.field H.field P.order H.order w (letter_values P S) (letter_images P S) values_monic)

    lead_of_element : (m : List ℕ) → Contains (map lead_monomial S) m → IsMonomial P.order.places m × (1 ≤ P.order.degree m)
    lead_of_element m h =
        let r = map_contains lead_monomial S m h in
        subst (λ k. IsMonomial P.order.places k × (1 ≤ P.order.degree k)) r.2 ((element_monic r.0 (HS r.0 r.1)).monomial, (HS r.0 r.1).positive)

    pub are_letters : AreLetters (letters P S)
    are_letters = lead_letters P H S lead_of_element

    pub letter_laws : IsMonomialOrder (word_order_of (letters P S))
    letter_laws = word_laws (letters P S) are_letters

    -- a word has the degree of its image
    pub word_degree : (w : List ℕ) → (word_order_of (letters P S)).degree w ≡ P.order.degree (image_of (letters P S) w)
    word_degree w =
        sym (degree_image (letters P S) are_letters w) ∙ (degree_x (letters P S) are_letters (image_of (letters P S) w) (image_x (letters P S) are_letters w) ∙
        degree_weighted P.order H.order (image_of (letters P S) w) (word_monic w).monomial)

-- The values of words over homogeneous elements are homogeneous of the degrees of the words, or zero.
use Rattle.std.proofs.Common.{◌≡◌, ◌≢◌, ℕ, zero, suc, ◌+◌, ◌≤◌, refl, sym, ◌∙◌, subst, List, [], ◌∷◌, ◌++◌, length, length-append, arith}
use Rattle.std.specs.Prelude.{map}
use Rattle.std.proofs.lemmas.List.{length-map}
use Rattle.monomial_order.specs.Monomial.{Exponents, variable, weighted_degree}
use Rattle.monomial_order.specs.laws.Lists.{contains_here, contains_there}
use Rattle.monomial_order.specs.laws.Monomial.{variable_monomial}
use Rattle.word_laws.specs.Words.{lead_degrees, variables}
use Rattle.word_laws.specs.laws.Images.{degree_weighted}
use Rattle.polynomials.specs.Polynomial.{Polynomial, coefficient, lead_monomial, term_of, IsPoly}
use Rattle.polynomials.specs.Subalgebra.{Presented, IsPresentation}
use Rattle.polynomials.specs.laws.Coefficients.{single_term}
use Rattle.polynomials.specs.laws.Decreasing.{IsDecreasing_IsPoly}
use Rattle.polynomials.specs.laws.Degrees.{graded_value, polys_graded, AreGraded}
use Rattle.polynomials.specs.laws.Membership.{IsPoly-monomial_value}
use Rattle.subalgebra_laws.specs.Words.{letters, letter_values, word_value}
use Rattle.word_values.specs.Values.{word_degree, AreHomogeneousElements}
use Rattle.word_values.specs.laws.Letters.{lead_places}

module _ {E : Type 0} (P : Presented E) (H : IsPresentation P) (S : List (Polynomial E)) (elements : AreHomogeneousElements P S) where
  open P use {field as K, order as O}
  open H use {field as F, order as L}

  abbrev degrees : List ℕ
  degrees = map O.degree (variables 0 O.places)

  abbrev variable_values : ℕ → ℕ → List (Polynomial E)
  variable_values i k = map (λ m. term_of m K.one ∷ []) (variables i k)

  elements_graded : (T : List (Polynomial E)) → AreHomogeneousElements P T → AreGraded K F O L (map (weighted_degree degrees) (map lead_monomial T)) T
  elements_graded [] h = tt
  elements_graded (s ∷ T) h =
      let e = h s (contains_here s T) in (
        IsDecreasing_IsPoly K O s e.canonical.decreasing,
        λ m n. e.homogeneous.each m n ∙ sym (degree_weighted O L (lead_monomial s) (lead_places P S H s e)),
        elements_graded T (λ x k. h x (contains_there s T x k)),
      )

  letters_graded : (i k : ℕ) → i + k ≤ O.places → (ds : List ℕ) (fs : List (Polynomial E)) → AreGraded K F O L ds fs →
      AreGraded K F O L (map O.degree (variables i k) ++ ds) (variable_values i k ++ fs)
  letters_graded i zero l ds fs h = h
  letters_graded i (suc k) l ds fs h = (
    (record { monomial = variable_monomial O.places i (omega arith); value = F.one_value }, tt),
    λ m n. subst (λ w. O.degree w ≡ O.degree (variable i)) (single_term K F (variable i) K.one m n) refl,
    letters_graded (suc i) k (omega arith) ds fs h,
  )

  all_graded : AreGraded K F O L (degrees ++ lead_degrees (letters P S)) (letter_values P S)
  all_graded = letters_graded 0 O.places (omega arith) (lead_degrees (letters P S)) S (elements_graded S elements)

  same_length : length (degrees ++ lead_degrees (letters P S)) ≡ length (letter_values P S)
  same_length =
      let a = length-append degrees (lead_degrees (letters P S)) in
      let b = length-append (variable_values 0 O.places) S in
      let c = length-map (variables 0 O.places) O.degree in
      let d : length (variable_values 0 O.places) ≡ length (variables 0 O.places) = length-map (variables 0 O.places) (λ m. term_of m K.one ∷ []) in
      let e : length (lead_degrees (letters P S)) ≡ length (map lead_monomial S) = length-map (map lead_monomial S) (weighted_degree degrees) in
      let f : length (map lead_monomial S) ≡ length S = length-map S lead_monomial in omega arith

  pub word_value_graded : (w m : Exponents) → coefficient K (word_value P S w) m ≢ K.zero → O.degree m ≡ word_degree P S w
  word_value_graded w m n = graded_value K F O L w (degrees ++ lead_degrees (letters P S)) (letter_values P S) same_length all_graded m n

  pub word_value_poly : (w : Exponents) → IsPoly K O.places (word_value P S w)
  word_value_poly w = IsPoly-monomial_value K F O.places w (letter_values P S) (polys_graded K F O L (degrees ++ lead_degrees (letters P S)) (letter_values P S) all_graded)

-- The polynomials in x^2 in one variable: x^2 is the reduced basis to the degree 2, and nothing new comes after it.
use Rattle.std.proofs.Common.{◌≡◌, ℕ, zero, suc, ◌+◌, ◌*◌, ◌≤◌, refl, sym, ◌∙◌, ap, subst, List, [], ◌∷◌, ◌++◌, inr, ⊎_elim, length, arith}
use Rattle.std.specs.Prelude.{map, take, sum, Contains}
use Rattle.std.proofs.lemmas.List.Sums.{sum_by-cons}
use Rattle.std.specs.declared.cmp.Ordering.TheVariants.{Less}
use Rattle.word_field.specs.Field.{IsField}
use Rattle.word_field.specs.Residues.{residues}
use Rattle.word_field.specs.laws.Residues.{residues_field}
use Rattle.monomial_order.specs.Monomial.{exponent, IsMonomial, Divides, weighted_degree}
use Rattle.monomial_order.specs.MonomialOrder.{IsMonomialOrder}
use Rattle.monomial_order.specs.Orders.{lex}
use Rattle.monomial_order.specs.laws.Lists.{contains_cases, contains_here, contains_none}
use Rattle.monomial_order.specs.laws.Orders.{weight_order_laws, lex_part, lex_equal}
use Rattle.monomial_order.specs.laws.Monomial.{exponent-product, exponent_past}
use Rattle.monomial_order.specs.laws.Cofactors.{same_exponents}
use Rattle.monomial_order.specs.laws.Comparing.{not_below_self, le_or_not}
use Rattle.word_laws.specs.Words.{word_order_of, image_of, IsWord, IsSmaller}
use Rattle.word_laws.specs.laws.Images.{image_sum}
use Rattle.word_laws.specs.laws.Words.{degree_same, x_falls}
use Rattle.polynomials.specs.Polynomial.{Polynomial, term_of, AllAt, IsDecreasing, lead_monomial}
use Rattle.polynomials.specs.Subalgebra.{IsPresentation, LeadsIdeal, IsGenerated, AllIn, product_of, IsDecidedTo}
use Rattle.polynomials.specs.laws.Degrees.{all_found}
use Rattle.subalgebra_laws.specs.Words.{letters, word_value, IsReducibleWord, IsCombination}
use Rattle.subalgebra_laws.specs.Bases.{IsMonicElement, AreMonicElements, HasCombinationsTo, IsClosedAt, IsCheckedElement, IsCheckedBasis}
use Rattle.subalgebra_laws.specs.Samples.{square, squares}
use Rattle.subalgebra_laws.proofs.Letters.{are_letters, letter_laws}
use Rattle.subalgebra_laws.proofs.Combinations.{combination_same, combination_word}
use Rattle.subalgebra_laws.specs.laws.Members.{generator_sub}
use Rattle.subalgebra_laws.proofs.SampleTools.{no_leads, each_part, first_homogeneous, first_monic, first_checked}

K : IsField (residues 101)
K = residues_field 101 refl

L : IsMonomialOrder squares.order
L = weight_order_laws (1 ∷ []) [] lex (omega arith, tt) lex_part lex_equal

decreasing : IsDecreasing (residues 101) squares.order square
decreasing = (record { term = record { monomial = record { trimmed = λ e. cc; within = omega arith }; value = refl }; nonzero = λ e. cc; above = tt }, tt)

pub presentation : IsPresentation squares
presentation = record {
  field = K;
  order = L;
  ideal = tt;
  generators = (record { poly = (decreasing.0.term, tt); homogeneous = inr (2, omega arith, first_homogeneous (residues 101) K squares.order L 2 (term_of (2 ∷ []) 1) [] decreasing (refl, tt)) }, tt);
}

no_lead : (m : List ℕ) → LeadsIdeal squares m → ⊥
no_lead = no_leads squares K refl

pub decided : (c : ℕ) → IsDecidedTo squares c
decided c m hm d = inr (no_lead m)

only : (s : Polynomial ℕ) → Contains (square ∷ []) s → square ≡ s
only s k = ⊎_elim (λ e. e) (λ r. absurd (contains_none s r)) (contains_cases square [] s k)

pub monic : AreMonicElements squares (square ∷ [])
monic s k = subst (IsMonicElement squares) (only s k) (first_monic squares presentation (term_of (2 ∷ []) 1) [] decreasing refl (omega arith))

-- words in x and s
two_letters : (a b : ℕ) (w : List ℕ) → length w ≤ 2 → weighted_degree (a ∷ (b ∷ [])) w ≡ a * exponent w 0 + b * exponent w 1
two_letters a b [] h = omega arith
two_letters a b (x ∷ []) h = omega arith
two_letters a b (x ∷ (y ∷ [])) h = omega arith
two_letters a b (x ∷ (y ∷ (z ∷ w))) h = absurd (omega arith)

x_image : (w : List ℕ) → length w ≤ 2 → exponent (image_of (letters squares (square ∷ [])) w) 0 ≡ exponent w 0 + 2 * exponent w 1
x_image w h = image_sum (λ m. exponent m 0) refl (λ x y. exponent-product x y 0) w ((1 ∷ []) ∷ ((2 ∷ []) ∷ [])) ∙ (let t = two_letters 1 2 w h in omega arith)

first_x : (w : List ℕ) → sum (take 1 w) ≡ exponent w 0
first_x [] = refl
first_x (e ∷ w) = let c = sum_by-cons (λ (y : ℕ). y) e (take 0 w) in omega arith

same_two : (u v : List ℕ) → IsMonomial 2 u → IsMonomial 2 v → exponent u 0 ≡ exponent v 0 → exponent u 1 ≡ exponent v 1 → u ≡ v
same_two u v hu hv a b = same_exponents u v hu.trimmed hv.trimmed at
  where
    at : (i : ℕ) → exponent u i ≡ exponent v i
    at zero = a
    at (suc zero) = b
    at (suc (suc i)) = exponent_past u (suc (suc i)) (let l = hu.within in omega arith) ∙ sym (exponent_past v (suc (suc i)) (let l = hv.within in omega arith))

-- x^2 is the word that all reducible ones are multiples of: a smaller word with the same image has no more x, and as many modulo 2
reducible_x : (w : List ℕ) → IsWord (letters squares (square ∷ [])) w → IsReducibleWord squares (square ∷ []) w → 2 ≤ exponent w 0
reducible_x w hw r = ⊎_elim (λ z. absurd (no_lead (image_of (letters squares (square ∷ [])) w) z)) (λ s. by_smaller s.0 s.1) r
  where
    by_smaller : (v : List ℕ) → IsSmaller (letters squares (square ∷ [])) w v → 2 ≤ exponent w 0
    by_smaller v s =
        let O = word_order_of (letters squares (square ∷ [])) in
        let e : exponent (image_of (letters squares (square ∷ [])) v) 0 ≡ exponent (image_of (letters squares (square ∷ [])) w) 0 = ap (λ m. exponent m 0) s.image in
        let iv = x_image v s.word.within in
        let iw = x_image w hw.within in
        let f : sum (take 1 v) ≤ sum (take 1 w) = x_falls (O.degree v) (O.degree w) (sum (take 1 v)) (sum (take 1 w)) _
        (degree_same (letters squares (square ∷ [])) (are_letters squares presentation (square ∷ []) monic) v w s.image) s.less in
        let a = first_x v in
        let b = first_x w in
        ⊎_elim (λ l. l)
        (λ few. absurd (not_below_self O (letter_laws squares presentation (square ∷ []) monic) w
        (subst (λ k. O.compare k w ≡ Less) (same_two v w s.word hw (omega arith) (omega arith)) s.less)))
        (le_or_not 2 (exponent w 0))

pub closed : IsClosedAt squares 2 (square ∷ [])
closed = record {
  generators = λ f k m n. all_found (residues 101) K squares.order L (λ y. squares.order.degree y ≤ 2) f (subst (AllAt (λ y. squares.order.degree y ≤ 2)) (only f k) (omega arith, tt)) m n;
  ideal = λ r k. absurd (contains_none r k);
  leads = λ m l. absurd (no_lead m l);
  words = λ w hw r. (2 ∷ [], record { trimmed = λ e. cc; within = omega arith }, inr (0 ∷ (1 ∷ []), smaller), divides w (reducible_x w hw r), omega arith);
}
  where
    smaller : IsSmaller (letters squares (square ∷ [])) (2 ∷ []) (0 ∷ (1 ∷ []))
    smaller = record { word = record { trimmed = λ e. cc; within = omega arith }; image = refl; less = refl }

    divides : (w : List ℕ) → 2 ≤ exponent w 0 → Divides (2 ∷ []) w
    divides w h zero = h
    divides w h (suc i) = omega arith

pub combinations : (c : ℕ) → HasCombinationsTo squares c (square ∷ [])
combinations c = record {
  generators = λ f d k h le. subst (IsCombination squares (square ∷ [])) (only f k)
      (combination_same squares presentation (square ∷ []) monic (word_value squares (square ∷ []) (0 ∷ (1 ∷ []))) square (λ m. refl)
      (combination_word squares presentation (square ∷ []) monic (0 ∷ (1 ∷ [])) (word, refl) (λ r. let x = reducible_x (0 ∷ (1 ∷ [])) word r in absurd (omega arith))));
  words = λ u h le. absurd (let x = reducible_x u h.0.word h.0.reducible in let s = first_x u in let z : sum (take 1 u) ≡ 0 = h.1.1 in omega arith);
}
  where
    word : IsWord (letters squares (square ∷ [])) (0 ∷ (1 ∷ []))
    word = record { trimmed = λ e. cc; within = omega arith }

nothing_generated : (ms : List (List ℕ)) → AllIn [] ms → product_of ms ≡ 2 ∷ [] → ⊥
nothing_generated [] h e = cc
nothing_generated (m ∷ ms) h e = contains_none m h.0

pub checked : IsCheckedBasis squares 2 (square ∷ [])
checked = record {
  increasing = tt;
  elements = λ s k. subst (IsCheckedElement squares 2 (square ∷ [])) (only s k)
      (first_checked squares presentation (term_of (2 ∷ []) 1) [] decreasing refl 2 (square ∷ []) (generator_sub squares presentation square (contains_here square [])) (refl, tt) (omega arith) (omega arith)
      (record { monomial = decreasing.0.term.monomial; no_lead = no_lead (2 ∷ []) }, tt) tt);
  minimal = each_part (λ front y rest. ¬ IsGenerated (map lead_monomial (front ++ rest)) (lead_monomial y)) (square ∷ []) ((λ g. nothing_generated g.factors g.members g.product), tt);
  combinations = combinations 2;
}

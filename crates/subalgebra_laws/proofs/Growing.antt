-- Elements are added at the end of a list: which words stay reducible, minimal or irreducible, and what stays a combination.
use Rattle.std.proofs.Common.{◌≡◌, ℕ, ◌+◌, ◌-◌, ◌<◌, ◌≤◌, refl, sym, ◌∙◌, ap, subst, List, [], ◌∷◌, ◌++◌, inl, inr, ⊎_elim, length, get_or, length-append, append_assoc, arith}
use Rattle.std.specs.Prelude.{map, Contains}
use Rattle.std.proofs.lemmas.List.{length-map, map-append, get_or-append-add, get_or_default}
use Rattle.std.proofs.lemmas.List.Elements.{Contains-get_or}
use Rattle.std.specs.declared.cmp.Ordering.TheVariants.{Less}
use Rattle.monomial_order.specs.Monomial.{product, variable, IsTrimmed}
use Rattle.monomial_order.specs.laws.Lists.{contains_left}
use Rattle.monomial_order.specs.laws.Monomial.{last_place, product-one, length-product, variable_divides, variable_trimmed, variable_length}
use Rattle.monomial_order.specs.laws.Cofactors.{cofactor, length-product_right}
use Rattle.monomial_order.specs.laws.Comparing.{le_or_not, equal_or_not, some_exponent, not_below_self, divisor_degree}
use Rattle.word_laws.specs.Words.{image_of, image, variables, IsWord, IsSWord, IsSmaller}
use Rattle.word_laws.specs.laws.Words.{degree_same, s_smaller, s_divisor}
use Rattle.word_laws.specs.laws.Images.{image_front, length-variables}
use Rattle.polynomials.specs.Polynomial.{Polynomial, coefficient, Same, term_of, times, constant, AllAt, IsPoly, IsHomogeneous, lead_monomial}
use Rattle.polynomials.specs.Ideal.{Congruent}
use Rattle.polynomials.specs.Value.{monomial_value, value, term_value}
use Rattle.polynomials.specs.Subalgebra.{Presented, IsPresentation, LeadsIdeal, IsGenerated, HasDegreesTo}
use Rattle.polynomials.specs.laws.Decreasing.{IsDecreasing_IsPoly}
use Rattle.polynomials.specs.laws.Degrees.{decreasing_all}
use Rattle.polynomials.specs.laws.Terms.{poly_monomials}
use Rattle.subalgebra_laws.specs.Words.{letters, letter_values, word_value, combination_value, IsReducibleWord, IsMinimalWord, IsCombination}
use Rattle.subalgebra_laws.specs.Bases.{AreMonicElements, HaveLeadsFrom, AreAfter, AreStandardAfter}
use Rattle.subalgebra_laws.specs.laws.Members.{generator_poly}
use Rattle.subalgebra_laws.specs.laws.Fronts.{monomial_value_front, decreasing_over}
use Rattle.subalgebra_laws.specs.Statements.{ValuesStay, SumsStay, SumsWithoutNewLettersStay, CombinationsStay, ElementsAreCombinations, MinimalWordsStay, OrderDoesNotMatter, NextAreCombinations}
use Rattle.subalgebra_laws.specs.laws.Letters.{word_grows, degree_stays, letter_degrees, places_letters, letter, letter_word, letter_value, compare_stays}
use Rattle.subalgebra_laws.proofs.Letters.{order_over, letter_image, are_letters, letter_laws, word_degree, word_monic}
use Rattle.subalgebra_laws.proofs.Combinations.{combination_same, combination_congruent, combination_word, combination_linear, sum_low}
use Rattle.subalgebra_laws.proofs.Generated.{generated_images}
use Rattle.subalgebra_laws.proofs.ReducedBases.{word_low}

module _ {E : Type 0} (P : Presented E) (S T : List (Polynomial E)) where
  module _ (w : List ℕ) (h : length w ≤ (order_over P S).places) where
    pub image_stays : image_of (letters P (S ++ T)) w ≡ image_of (letters P S) w
    image_stays =
        let xs = variables 0 (length (letter_degrees P S)) in
        ap (image w) (ap (λ ms. xs ++ ms) (map-append lead_monomial S T) ∙ sym (append_assoc xs (map lead_monomial S) (map lead_monomial T))) ∙
        image_front w (xs ++ map lead_monomial S) (map lead_monomial T)
        (let a = length-append xs (map lead_monomial S) in let b = length-variables 0 (length (letter_degrees P S)) in let c : length (map lead_monomial S) ≡ length S = length-map S lead_monomial in let p = places_letters P S in omega arith)

    value_front : word_value P (S ++ T) w ≡ word_value P S w
    value_front =
        let xs = map (λ m. term_of m P.field.one ∷ []) (variables 0 P.order.places) in
        ap (monomial_value P.field w) (sym (append_assoc xs S T)) ∙ monomial_value_front P.field w (letter_values P S) T
        (let a = length-append xs S in let p = places_letters P S in let b : length xs ≡ length (variables 0 P.order.places) = length-map (variables 0 P.order.places) (λ m. term_of m P.field.one ∷ []) in
        let c : length (letter_degrees P S) ≡ length (variables 0 P.order.places) = length-map (variables 0 P.order.places) P.order.degree in omega arith)

  pub value_stays : ValuesStay P S T
  value_stays w h = value_front w h.within

  value_grows : (p : Polynomial E) → AllAt (IsWord (letters P S)) p → combination_value P (S ++ T) p ≡ combination_value P S p
  value_grows [] h = refl
  value_grows (t ∷ p) h =
      ap (λ x. times P.field (constant P.field t.by) x ++ combination_value P (S ++ T) p) (value_stays t.at h.0) ∙ ap (λ x. term_value P.field (letter_values P S) t ++ x) (value_grows p h.1)

module _ {E : Type 0} (P : Presented E) (H : IsPresentation P) (S T : List (Polynomial E)) (HT : AreMonicElements P (S ++ T)) where
  open P use {field as K, order as O}

  abbrev im : List ℕ → List ℕ
  im w = image_of (letters P (S ++ T)) w

  -- the letter of the j-th new element
  abbrev new_letter : ℕ → List ℕ
  new_letter j = letter P (S ++ T) (length S + j)

  pub front_monic : AreMonicElements P S
  front_monic s k = HT s (contains_left S T s k)

  in_both : (j : ℕ) → j < length T → length S + j < length (S ++ T)
  in_both j l = let a = length-append S T in omega arith

  new_image : (j : ℕ) → j < length T → im (new_letter j) ≡ lead_monomial (get_or T j [])
  new_image j l = letter_image P (S ++ T) (length S + j) (in_both j l) ∙ ap lead_monomial (get_or-append-add S T j [])

  new_value : (j : ℕ) → j < length T → Same K (word_value P (S ++ T) (new_letter j)) (get_or T j [])
  new_value j l m = letter_value P (S ++ T) (length S + j) (in_both j l) H.field m ∙ ap (λ p. coefficient K p m) (get_or-append-add S T j [])

  new_degree : (j : ℕ) → j < length T → (order_over P (S ++ T)).degree (new_letter j) ≡ O.degree (lead_monomial (get_or T j []))
  new_degree j l = word_degree P H (S ++ T) HT (new_letter j) ∙ ap O.degree (new_image j l)

  smaller_grows : (w v : List ℕ) → IsWord (letters P S) w → IsSmaller (letters P S) w v → IsSmaller (letters P (S ++ T)) w v
  smaller_grows w v hw s = record {
    word = word_grows P S T v s.word;
    image = image_stays P S T v s.word.within ∙ (s.image ∙ sym (image_stays P S T w hw.within));
    less = compare_stays P S T v w s.word.within hw.within ∙ s.less;
  }

  pub reducible_grows : (w : List ℕ) → IsWord (letters P S) w → IsReducibleWord P S w → IsReducibleWord P (S ++ T) w
  reducible_grows w hw r = ⊎_elim (λ l. inl (subst (LeadsIdeal P) (sym (image_stays P S T w hw.within)) l)) (λ s. inr (s.0, smaller_grows w s.0 hw s.1)) r

  -- a multiple of a new letter of at most the degree of the new leads is the letter
  only_letter : (d : ℕ) → HaveLeadsFrom P d T → (j : ℕ) → j < length T → (k : List ℕ) → IsTrimmed k → length k ≤ (order_over P (S ++ T)).places → (order_over P (S ++ T)).degree (product (new_letter j) k) ≤ d → k ≡ []
  only_letter d high j l k hk within le = ⊎_elim (λ e. e)
      (λ ne.
      let x = some_exponent k hk ne in
      let x1 = x.1 in
      let x2 = x.2 in
      let e = (letter_laws P H (S ++ T) HT).exponent_at_most k x.0 (omega arith) in
      let dp = (letter_laws P H (S ++ T) HT).degree_product (new_letter j) k in
      let dn = new_degree j l in
      let dt = high (get_or T j []) (Contains-get_or T j [] l) in
      absurd (omega arith)) (equal_or_not k [])

  -- so a word of at most that degree that is not one over S is a new letter
  long_word : (d : ℕ) → HaveLeadsFrom P d T → (w : List ℕ) → IsWord (letters P (S ++ T)) w → (order_over P (S ++ T)).degree w ≤ d → (length w ≤ (order_over P S).places → ⊥) → (j : ℕ) × (j < length T) × (w ≡ new_letter j)
  long_word d high w hw le n =
      let x = last_place w hw.trimmed (λ e. n (let z : length w ≡ 0 = ap length e in omega arith)) in
      let x1 = x.1 in
      let p = places_letters P S in
      let q = places_letters P (S ++ T) in
      let a = length-append S T in
      let most = hw.within in
      let late : (order_over P S).places < length w = ⊎_elim (λ l. absurd (n l)) (λ no. omega (arith, no)) (le_or_not (length w) (order_over P S).places) in
      let j : ℕ = x.0 - (length (letter_degrees P S) + length S) in
      let l : j < length T = omega arith in
      let at : length (letter_degrees P S) + (length S + j) ≡ x.0 = omega arith in
      let k = cofactor (variable x.0) w (variable_trimmed x.0) hw.trimmed (variable_divides x.0 w x.2) in
      let whole : product (new_letter j) k.0 ≡ w = ap (λ y. product (variable y) k.0) at ∙ k.2 in
      let long = length-product_right (new_letter j) k.0 in
      let same : length (product (new_letter j) k.0) ≡ length w = ap length whole in
      let none = only_letter d high j l k.0 k.1 (omega arith) (subst (λ y. (order_over P (S ++ T)).degree y ≤ d) (sym whole) le) in
      (j, l, sym whole ∙ (ap (product (new_letter j)) none ∙ product-one (new_letter j)))

  -- the leads of T are no products of leads of S, so no s-word over S has the image of a new letter
  module _ (d : ℕ) (high : HaveLeadsFrom P d T) (new : (t : Polynomial E) → Contains T t → ¬ IsGenerated (map lead_monomial S) (lead_monomial t)) where
    not_long : (w v : List ℕ) → IsSWord (letters P S) w → (order_over P (S ++ T)).degree v ≤ d → IsWord (letters P (S ++ T)) v → im v ≡ im w → (length v ≤ (order_over P S).places → ⊥) → ⊥
    not_long w v hw le hv same n =
        let j = long_word d high v hv le n in
        new (get_or T j.0 []) (Contains-get_or T j.0 [] j.1) (generated_images P H S front_monic (lead_monomial (get_or T j.0 [])) w hw
        (sym (image_stays P S T w hw.0.within) ∙ (sym same ∙ (ap im j.2 ∙ new_image j.0 j.1))))

    -- an s-word of degree at most d that is reducible over S and T is so over S
    pub reducible_back : (w : List ℕ) → IsSWord (letters P S) w → (order_over P S).degree w ≤ d → IsReducibleWord P (S ++ T) w → IsReducibleWord P S w
    reducible_back w hw le r = ⊎_elim (λ l. inl (subst (LeadsIdeal P) (image_stays P S T w hw.0.within) l)) (λ s. by_smaller s.0 s.1) r
      where
        by_smaller : (v : List ℕ) → IsSmaller (letters P (S ++ T)) w v → IsReducibleWord P S w
        by_smaller v s =
            let dv = degree_same (letters P (S ++ T)) (are_letters P H (S ++ T) HT) v w s.image in
            let dw = degree_stays P S T w hw.0.within in
            ⊎_elim
            (λ l. inr (
              v,
              record {
                word = record { trimmed = s.word.trimmed; within = l };
                image = sym (image_stays P S T v l) ∙ (s.image ∙ image_stays P S T w hw.0.within);
                less = sym (compare_stays P S T v w l hw.0.within) ∙ s.less;
              },
            ))
            (λ n. absurd (not_long w v hw (omega arith) s.word s.image n)) (le_or_not (length v) (order_over P S).places)

    pub minimal_grows : (u : List ℕ) → (order_over P S).degree u ≤ d → IsMinimalWord P S u → IsMinimalWord P (S ++ T) u
    minimal_grows u le h = (
      record {
        word = word_grows P S T u h.0.word;
        reducible = reducible_grows u h.0.word h.0.reducible;
        minimal = λ v hv rv dv.
            let k = cofactor v u hv.trimmed h.0.word.trimmed dv in
            let a = length-product v k.0 in
            let b : length (product v k.0) ≡ length u = ap length k.2 in
            let c = h.0.word.within in
            let word : IsWord (letters P S) v = record { trimmed = hv.trimmed; within = omega arith } in
            let sv = s_divisor (letters P S) (are_letters P H S front_monic) v u word h.1 dv in
            let dd = divisor_degree (order_over P S) (letter_laws P H S front_monic) v u hv.trimmed h.0.word.trimmed dv in
            h.0.minimal v word (reducible_back v sv (omega arith) rv) dv;
      },
      (word_grows P S T u h.1.0, h.1.1),
    )

    -- sums and combinations of degree at most d stay
    pub sums_stay : SumsStay P S T d
    sums_stay e h low =
        let hp = IsDecreasing_IsPoly K (order_over P S) e h.decreasing in (
          record {
            decreasing = decreasing_over K (order_over P S) (order_over P (S ++ T)) (IsWord (letters P S)) (word_grows P S T) (λ v w hv hw. compare_stays P S T v w hv.within hw.within) e (poly_monomials P.field (order_over P S).places e hp) h.decreasing;
            words = λ w k. (word_grows P S T w (h.words w k).0, (h.words w k).1);
            irreducible = λ w k r. h.irreducible w k (reducible_back w (h.words w k) (low w k) r);
          },
          value_grows P S T e (poly_monomials P.field (order_over P S).places e hp),
        )

    pub combination_grows : CombinationsStay P S T d
    combination_grows a ha low h =
        let s = sums_stay h.sum h.irreducible (sum_low P H S front_monic d a ha low h) in
        record { sum = h.sum; irreducible = s.0; equal = subst (Congruent K O.places P.ideal a) (sym s.1) h.equal }

  -- a sum without new letters is one over S
  pub sums_back : SumsWithoutNewLettersStay P S T
  sums_back e h old =
      let words = decreasing_all K H.field (order_over P (S ++ T)) (letter_laws P H (S ++ T) HT) (IsWord (letters P S)) e h.decreasing old in (
        record {
          decreasing = decreasing_over K (order_over P (S ++ T)) (order_over P S) (IsWord (letters P S)) (λ w hw. hw) (λ v w hv hw. sym (compare_stays P S T v w hv.within hw.within)) e words h.decreasing;
          words = λ w k. (old w k, (h.words w k).1);
          irreducible = λ w k r. h.irreducible w k (reducible_grows w (old w k) r);
        },
        value_grows P S T e words,
      )

-- elements that come after S, with standard leads that differ
module _ {E : Type 0} (P : Presented E) (H : IsPresentation P) (d : ℕ) (S T : List (Polynomial E)) (A : AreStandardAfter P d S T) where
  open P use {field as K, order as O}

  abbrev HT : AreMonicElements P (S ++ T)
  HT = A.after.monic

  -- a new letter of degree at most d is irreducible
  letter_irreducible : (j : ℕ) → j < length T → (order_over P (S ++ T)).degree (new_letter P H S T HT j) ≤ d → IsReducibleWord P (S ++ T) (new_letter P H S T HT j) → ⊥
  letter_irreducible j l le r = ⊎_elim
      (λ z. (A.standard (get_or T j []) (Contains-get_or T j [] l)).no_lead (subst (LeadsIdeal P) (new_image P H S T HT j l) z)) (λ s. by_smaller s.0 s.1) r
    where
      word : IsSWord (letters P (S ++ T)) (new_letter P H S T HT j)
      word = letter_word P (S ++ T) (length S + j) (in_both P H S T HT j l)

      past : length (new_letter P H S T HT j) ≤ (order_over P S).places → ⊥
      past n = let p = places_letters P S in let q = variable_length (length (letter_degrees P (S ++ T)) + (length S + j)) in omega arith

      by_smaller : (v : List ℕ) → IsSmaller (letters P (S ++ T)) (new_letter P H S T HT j) v → ⊥
      by_smaller v s = ⊎_elim
          (λ n. not_long P H S T HT d A.after.degree A.after.new v (new_letter P H S T HT j)
          (record { trimmed = s.word.trimmed; within = n }, (s_smaller (letters P (S ++ T)) (are_letters P H (S ++ T) HT) v (new_letter P H S T HT j) word s).1) le word.0 (sym s.image) past)
          (λ n.
          let e = degree_same (letters P (S ++ T)) (are_letters P H (S ++ T) HT) v (new_letter P H S T HT j) s.image in
          let k = long_word P H S T HT d A.after.degree v s.word (omega arith) n in
          let same : k.0 ≡ j = A.differ k.0 j k.1 l (sym (new_image P H S T HT k.0 k.1) ∙ (ap (image_of (letters P (S ++ T))) (sym k.2) ∙ (s.image ∙ new_image P H S T HT j l))) in
          not_below_self (order_over P (S ++ T)) (letter_laws P H (S ++ T) HT) (new_letter P H S T HT j)
          (subst (λ x. (order_over P (S ++ T)).compare x (new_letter P H S T HT j) ≡ Less) (k.2 ∙ ap (new_letter P H S T HT) same) s.less))
          (le_or_not (length v) (order_over P S).places)

  -- an element of degree at most d is a combination
  pub element_combines : ElementsAreCombinations P S T d
  element_combines t k le =
      let l = k.1 in
      let at : get_or T k.0 [] ≡ t = get_or_default T k.0 [] t l ∙ k.2 in
      let e = new_degree P H S T HT k.0 l in
      let f : O.degree (lead_monomial (get_or T k.0 [])) ≡ O.degree (lead_monomial t) = ap (λ x. O.degree (lead_monomial x)) at in
      combination_same P H (S ++ T) HT (word_value P (S ++ T) (new_letter P H S T HT k.0)) t
      (λ m. sym (new_value P H S T HT k.0 l m ∙ ap (λ p. coefficient K p m) at))
      (combination_word P H (S ++ T) HT (new_letter P H S T HT k.0) (letter_word P (S ++ T) (length S + k.0) (in_both P H S T HT k.0 l)) (letter_irreducible k.0 l (omega arith)))

  pub minimal_back : (u : List ℕ) → (order_over P (S ++ T)).degree u ≤ d → IsMinimalWord P (S ++ T) u → IsMinimalWord P S u
  minimal_back u le h = ⊎_elim by_short
      (λ n.
      let j = long_word P H S T HT d A.after.degree u h.0.word le n in
      absurd (letter_irreducible j.0 j.1 (subst (λ x. (order_over P (S ++ T)).degree x ≤ d) j.2 le) (subst (IsReducibleWord P (S ++ T)) j.2 h.0.reducible)))
      (le_or_not (length u) (order_over P S).places)
    where
      by_short : length u ≤ (order_over P S).places → IsMinimalWord P S u
      by_short l =
          let w : IsWord (letters P S) u = record { trimmed = h.0.word.trimmed; within = l } in
          let ds = degree_stays P S T u l in (
            record {
              word = w;
              reducible = reducible_back P H S T HT d A.after.degree A.after.new u (w, h.1.1) (omega arith) h.0.reducible;
              minimal = λ v hv rv dv. h.0.minimal v (word_grows P S T v hv) (reducible_grows P H S T HT v hv rv) dv;
            },
            (w, h.1.1),
          )

  pub minimal_stays : MinimalWordsStay P S T d
  minimal_stays u le = (
    minimal_back u le,
    λ h. minimal_grows P H S T HT d A.after.degree A.after.new u (subst (λ x. x ≤ d) (degree_stays P S T u h.0.word.within) le) h,
  )

  -- the combinations to the next degree
  pub next_combinations : NextAreCombinations P S T d
  next_combinations c next comb here = record {
    generators = λ f e k h le. ⊎_elim
        (λ low. combination_grows P H S T HT d A.after.degree A.after.new f (generator_poly P H f k) (λ n z. let x = h.each n z in omega arith) (comb.generators f e k h low))
        (λ top. let z : e ≡ d = ⊎_elim (λ r. absurd (top r)) (λ r. omega (arith, r)) (le_or_not e c) in here.generators f k (subst (λ x. IsHomogeneous K O x f) z h)) (le_or_not e c);
    words = λ u h le.
        let m = minimal_back u le h in
        let ds = degree_stays P S T u m.0.word.within in
        let HS = front_monic P H S T HT in
        subst (IsCombination P (S ++ T)) (sym (value_stays P S T u m.0.word))
        (⊎_elim
        (λ low. combination_grows P H S T HT d A.after.degree A.after.new (word_value P S u) (word_monic P H S HS u).poly (word_low P H S HS d u (omega arith)) (comb.words u m low))
        (λ top. here.words u m (⊎_elim (λ r. absurd (top r)) (λ r. omega (arith, r)) (le_or_not ((order_over P S).degree u) c))) (le_or_not ((order_over P S).degree u) c));
  }

-- the elements at the end may be exchanged
module _ {E : Type 0} (P : Presented E) (H : IsPresentation P) (d : ℕ) (S T U : List (Polynomial E)) (A : AreAfter P d S T) (HU : AreMonicElements P (S ++ U))
    (above : HaveLeadsFrom P d U) (each : (u : Polynomial E) → Contains U u → IsCombination P (S ++ T) u) where
  -- an irreducible word over S and U of degree at most d
  word_exchange : (w : List ℕ) → IsSWord (letters P (S ++ U)) w → (IsReducibleWord P (S ++ U) w → ⊥) → (order_over P (S ++ U)).degree w ≤ d → IsCombination P (S ++ T) (word_value P (S ++ U) w)
  word_exchange w hw irr le = ⊎_elim by_short
      (λ n.
      let j = long_word P H S U HU d above w hw.0 le n in
      combination_same P H (S ++ T) A.monic (get_or U j.0 []) (word_value P (S ++ U) w)
      (λ m. ap (λ x. coefficient P.field (word_value P (S ++ U) x) m) j.2 ∙ new_value P H S U HU j.0 j.1 m) (each (get_or U j.0 []) (Contains-get_or U j.0 [] j.1)))
      (le_or_not (length w) (order_over P S).places)
    where
      by_short : length w ≤ (order_over P S).places → IsCombination P (S ++ T) (word_value P (S ++ U) w)
      by_short l =
          let v : IsWord (letters P S) w = record { trimmed = hw.0.trimmed; within = l } in
          let ds = degree_stays P S U w l in
          subst (IsCombination P (S ++ T)) (value_stays P S T w v ∙ sym (value_stays P S U w v))
          (combination_word P H (S ++ T) A.monic w (word_grows P S T w v, hw.1)
          (λ r. irr (reducible_grows P H S U HU w v (reducible_back P H S T A.monic d A.degree A.new w (v, hw.1) (omega arith) r))))

  pub ends_exchange : (a : Polynomial E) → IsPoly P.field P.order.places a → HasDegreesTo P d a → IsCombination P (S ++ U) a → IsCombination P (S ++ T) a
  ends_exchange a ha low h =
      combination_congruent P H (S ++ T) A.monic (value P.field h.sum (letter_values P (S ++ U))) a h.equal
      (combination_linear P H (S ++ T) A.monic (order_over P (S ++ U)).places (letter_values P (S ++ U)) h.sum (IsDecreasing_IsPoly P.field (order_over P (S ++ U)) h.sum h.irreducible.decreasing)
      (decreasing_all P.field H.field (order_over P (S ++ U)) (letter_laws P H (S ++ U) HU) (λ w. IsCombination P (S ++ T) (word_value P (S ++ U) w)) h.sum h.irreducible.decreasing
      (λ w k. word_exchange w (h.irreducible.words w k) (h.irreducible.irreducible w k) (sum_low P H (S ++ U) HU d a ha low h w k))))

-- the order of the elements at the end does not matter
pub order_does_not_matter : {E : Type 0} (P : Presented E) (H : IsPresentation P) (d : ℕ) (S T : List (Polynomial E)) → AreStandardAfter P d S T → OrderDoesNotMatter P S T d
order_does_not_matter {E} P H d S T A U HU same h = record {
  generators = λ f k hf. exchange f (generator_poly P H f k) (λ m z. let x = hf.each m z in omega arith) (h.generators f k hf);
  words = λ u m e. exchange (word_value P S u) (word_monic P H S HS u).poly (word_low P H S HS d u (omega arith)) (h.words u m e);
}
  where
    HS : AreMonicElements P S
    HS = front_monic P H S T A.after.monic

    exchange : (a : Polynomial E) → IsPoly P.field P.order.places a → HasDegreesTo P d a → IsCombination P (S ++ U) a → IsCombination P (S ++ T) a
    exchange = ends_exchange P H d S T U A.after HU (λ u k. A.after.degree u (same u k).0) (λ u k. element_combines P H d S T A u (same u k).0 (same u k).1)

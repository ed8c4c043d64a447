-- Words over the elements as words of witnesses: they have the same values and degrees.
use Rattle.std.proofs.Common.{◌≡◌, ◌≢◌, ℕ, zero, suc, ◌+◌, ◌*◌, ◌<◌, ◌≤◌, refl, sym, ◌∙◌, ap, subst, List, [], ◌∷◌, ◌++◌, length, length-append, take, drop, arith}
use Rattle.std.specs.Prelude.{map, replicate, sum, Contains}
use Rattle.std.proofs.lemmas.List.{length-map, length-drop}
use Rattle.std.proofs.lemmas.List.Sums.{sum_by-cons}
use Rattle.word_field.specs.Field.{FieldOps, IsField}
use Rattle.monomial_order.specs.declared.word_order.WordOrder.{WordOrder}
use Rattle.monomial_order.specs.Monomial.{Exponents, exponent, IsMonomial, IsTrimmed, weighted_degree}
use Rattle.monomial_order.specs.MonomialOrder.{MonomialOrder}
use Rattle.monomial_order.specs.laws.Lists.{contains_here, contains_there}
use Rattle.monomial_order.specs.laws.Monomial.{weighted_nil}
use Rattle.monomial_order.specs.laws.Orders.{IsTrimmed-drop}
use Rattle.word_laws.specs.Words.{lead_degrees, variables, word_order_of, IsSWord}
use Rattle.word_laws.specs.laws.Images.{degree_weighted, length-variables}
use Rattle.polynomials.specs.Polynomial.{Polynomial, coefficient, constant, degree_of, lead_monomial, term_of, times, AllAt, Same}
use Rattle.polynomials.specs.Value.{monomial_value, power, value}
use Rattle.polynomials.specs.Subalgebra.{Presented, IsPresentation}
use Rattle.polynomials.specs.laws.Same.{append_same, times_same}
use Rattle.polynomials.specs.laws.Value.{one_times}
use Rattle.poly_core.specs.Presentation.{generator_degree}
use Rattle.subalgebra_laws.specs.Words.{combination_value, letters, letter_values, word_value}
use Rattle.witness.specs.Tracking.{by_order, IsWitnessOrder}
use Rattle.witness.specs.laws.Letters.{by_places, by_weights}
use Rattle.subduction.specs.Subduced.{places_from, witness_sum, witness_word}

-- words at other places
pub trimmed_drop : (n : ℕ) (w : List ℕ) → IsTrimmed w → IsTrimmed (drop n w)
trimmed_drop = IsTrimmed-drop

pub trimmed_behind : (k e : ℕ) (v : List ℕ) → IsTrimmed (e ∷ v) → IsTrimmed (replicate k 0 ++ (e ∷ v))
trimmed_behind zero e v h = h
trimmed_behind (suc zero) e v h = h
trimmed_behind (suc (suc k)) e v h = trimmed_behind (suc k) e v h

trimmed_from : (k : ℕ) (v : List ℕ) → IsTrimmed v → IsTrimmed (places_from k v)
trimmed_from k [] h = tt
trimmed_from k (e ∷ v) h = trimmed_behind k e v h

pub word_trimmed : (n k : ℕ) (w : Exponents) → IsTrimmed w → IsTrimmed (witness_word n k w)
word_trimmed n k w h = trimmed_from k (drop n w) (trimmed_drop n w h)

length_zeros : (k : ℕ) (v : List ℕ) → length (replicate k 0 ++ v) ≡ k + length v
length_zeros zero v = omega arith
length_zeros (suc k) v = let r = length_zeros k v in omega arith

within_from : (k r : ℕ) (v : List ℕ) → length v ≤ r → length (places_from k v) ≤ k + r
within_from k r [] l = omega arith
within_from k r (e ∷ v) l = let a = length_zeros k (e ∷ v) in omega arith

pub word_within : (n k r : ℕ) (w : Exponents) → length w ≤ n + r → length (witness_word n k w) ≤ k + r
word_within n k r w l = within_from k r (drop n w) (let d = length-drop n w in omega arith)

-- no letter of the first k places
abbrev pub HasNoLetterBefore : ℕ → Exponents → Type 0
HasNoLetterBefore k m = (i : ℕ) → i < k → exponent m i ≡ 0

zeros_first : (k : ℕ) (w : Exponents) → HasNoLetterBefore k (replicate k 0 ++ w)
zeros_first zero w i l = absurd (omega arith)
zeros_first (suc k) w zero l = refl
zeros_first (suc k) w (suc i) l = zeros_first k w i (omega arith)

none_before : (k : ℕ) (v : Exponents) → HasNoLetterBefore k (places_from k v)
none_before k [] i l = refl
none_before k (e ∷ v) i l = zeros_first k (e ∷ v) i l

-- words of witnesses have no letter of a generator
pub word_letters : (n k : ℕ) (w : Exponents) → HasNoLetterBefore k (witness_word n k w)
word_letters n k w i l = none_before k (drop n w) i l

pub sum_letters : {E : Type 0} (P : Presented E) (e : Polynomial E) → AllAt (HasNoLetterBefore (length P.generators)) (witness_sum P e)
sum_letters P [] = tt
sum_letters P (t ∷ e) = (word_letters P.order.places (length P.generators) t.at, sum_letters P e)

-- the first n exponents of a word that is not empty are not all of them, if they are 0
some_after : (n e : ℕ) (w : Exponents) → IsTrimmed (e ∷ w) → sum (take n (e ∷ w)) ≡ 0 → n < length (e ∷ w)
some_after zero e w h z = omega arith
some_after (suc n) e [] h z = let s = sum_by-cons (λ (y : ℕ). y) e (take n (let m : List ℕ = [] in m)) in absurd (h (omega arith))
some_after (suc n) e (f ∷ w) h z =
    let s = sum_by-cons (λ (y : ℕ). y) e (take n (f ∷ w)) in let r = some_after n f w h (omega arith) in omega arith

-- the first exponents of a list whose front has the sum 0
front_zero : (n e : ℕ) (w : List ℕ) → sum (take (suc n) (e ∷ w)) ≡ 0 → (e ≡ 0) × (sum (take n w) ≡ 0)
front_zero n e w h = let s = sum_by-cons (λ (y : ℕ). y) e (take n w) in (omega arith, omega arith)

module _ {E : Type 0} (K : FieldOps E) (F : IsField K) where
  zeros_value : (u : List ℕ) (fs gs : List (Polynomial E)) → Same K (monomial_value K (replicate (length fs) 0 ++ u) (fs ++ gs)) (monomial_value K u gs)
  zeros_value u [] gs m = refl
  zeros_value u (f ∷ fs) gs m = one_times K F (monomial_value K (replicate (length fs) 0 ++ u) (fs ++ gs)) m ∙ zeros_value u fs gs m

  behind_value : (u : List ℕ) (fs gs : List (Polynomial E)) → Same K (monomial_value K (places_from (length fs) u) (fs ++ gs)) (monomial_value K u gs)
  behind_value [] fs gs m = refl
  behind_value (e ∷ u) fs gs m = zeros_value (e ∷ u) fs gs m

  drop_value : (w : List ℕ) (xs gs : List (Polynomial E)) → sum (take (length xs) w) ≡ 0 → Same K (monomial_value K w (xs ++ gs)) (monomial_value K (drop (length xs) w) gs)
  drop_value w [] gs h m = refl
  drop_value [] (x ∷ xs) gs h m = refl
  drop_value (e ∷ w) (x ∷ xs) gs h m =
      let z = front_zero (length xs) e w h in
      subst (λ n. coefficient K (times K (power K x n) (monomial_value K w (xs ++ gs))) m ≡ coefficient K (monomial_value K w (xs ++ gs)) m) (sym z.0)
      (one_times K F (monomial_value K w (xs ++ gs)) m) ∙ drop_value w xs gs z.1 m

-- and the degrees
zeros_weight : (gs bs u : List ℕ) → weighted_degree (gs ++ bs) (replicate (length gs) 0 ++ u) ≡ weighted_degree bs u
zeros_weight [] bs u = refl
zeros_weight (a ∷ gs) bs u = let r = zeros_weight gs bs u in let e : a * 0 + weighted_degree (gs ++ bs) (replicate (length gs) 0 ++ u) ≡ weighted_degree bs u = omega arith in e

behind_weight : (gs bs u : List ℕ) → weighted_degree (gs ++ bs) (places_from (length gs) u) ≡ weighted_degree bs u
behind_weight gs bs [] = weighted_nil (gs ++ bs) ∙ sym (weighted_nil bs)
behind_weight gs bs (e ∷ u) = zeros_weight gs bs (e ∷ u)

drop_weight : (w xs bs : List ℕ) → sum (take (length xs) w) ≡ 0 → weighted_degree (xs ++ bs) w ≡ weighted_degree bs (drop (length xs) w)
drop_weight w [] bs h = refl
drop_weight [] (x ∷ xs) bs h = sym (weighted_nil bs)
drop_weight (e ∷ w) (x ∷ xs) bs h =
    let z = front_zero (length xs) e w h in
    let a = z.0 in
    let r = drop_weight w xs bs z.1 in
    subst (λ n. x * n + weighted_degree (xs ++ bs) w ≡ weighted_degree bs (drop (length xs) w)) (sym a) (let q : x * 0 + weighted_degree (xs ++ bs) w ≡ weighted_degree bs (drop (length xs) w) = omega arith in q)

module _ {E : Type 0} (P : Presented E) (H : IsPresentation P) (S : List (Polynomial E)) where
  abbrev xs : List (Polynomial E)
  xs = map (λ m. term_of m P.field.one ∷ []) (variables 0 P.order.places)

  xs_length : length xs ≡ P.order.places
  xs_length = length-map (variables 0 P.order.places) (λ m. term_of m P.field.one ∷ []) ∙ length-variables 0 P.order.places

  degrees_length : length (letters P S).degrees ≡ P.order.places
  degrees_length = length-map (variables 0 P.order.places) P.order.degree ∙ length-variables 0 P.order.places

  pub s_word_value : (w : Exponents) → IsSWord (letters P S) w →
      Same P.field (monomial_value P.field (witness_word P.order.places (length P.generators) w) (P.generators ++ S)) (word_value P S w)
  s_word_value w h m =
      behind_value P.field H.field (drop P.order.places w) P.generators S m ∙
      sym (subst (λ n. Same P.field (monomial_value P.field w (letter_values P S)) (monomial_value P.field (drop n w) S)) xs_length
      (drop_value P.field H.field w xs S (subst (λ n. sum (take n w) ≡ 0) (degrees_length ∙ sym xs_length) h.1)) m)

  -- the value of the moved words at the generators and elements is that of the words
  pub witness_value : (e : Polynomial E) → AllAt (IsSWord (letters P S)) e →
      Same P.field (value P.field (witness_sum P e) (P.generators ++ S)) (combination_value P S e)
  witness_value [] h m = refl
  witness_value (t ∷ e) h m =
      append_same P.field H.field
      (times P.field (constant P.field t.by) (monomial_value P.field (witness_word P.order.places (length P.generators) t.at) (P.generators ++ S)))
      (times P.field (constant P.field t.by) (monomial_value P.field t.at (letter_values P S)))
      (value P.field (witness_sum P e) (P.generators ++ S)) (combination_value P S e)
      (times_same P.field H.field (constant P.field t.by) (constant P.field t.by)
      (monomial_value P.field (witness_word P.order.places (length P.generators) t.at) (P.generators ++ S)) (monomial_value P.field t.at (letter_values P S)) (λ i. refl) (s_word_value t.at h.0))
      (witness_value e h.1) m

  -- where an s-word has its letters
  pub s_word_after : (w : Exponents) → IsSWord (letters P S) w → w ≢ [] → P.order.places < length w
  s_word_after [] h n = absurd (n refl)
  s_word_after (e ∷ w) h n = some_after P.order.places e w h.0.trimmed (subst (λ n. sum (take n (e ∷ w)) ≡ 0) degrees_length h.1)

  pub s_word_trimmed : (w : Exponents) → IsSWord (letters P S) w → IsTrimmed (witness_word P.order.places (length P.generators) w)
  s_word_trimmed w h = word_trimmed P.order.places (length P.generators) w h.0.trimmed

  pub s_word_within : (w : Exponents) → IsSWord (letters P S) w → length (witness_word P.order.places (length P.generators) w) ≤ length P.generators + length S
  s_word_within w h =
      word_within P.order.places (length P.generators) (length S) w
      (let l = h.0.within in
      let a = length-append (letters P S).degrees (lead_degrees (letters P S)) in
      let c : length (lead_degrees (letters P S)) ≡ length S = length-map (map lead_monomial S) (weighted_degree (letters P S).degrees) ∙ length-map S lead_monomial in
      let d = degrees_length in omega arith)

  -- the letters of elements have the same degrees in words and in witnesses
  same_degrees : (T : List (Polynomial E)) → ((s : Polynomial E) → Contains T s → IsMonomial P.order.places (lead_monomial s)) →
      map (degree_of P.order) T ≡ map (weighted_degree (letters P S).degrees) (map lead_monomial T)
  same_degrees [] h = refl
  same_degrees (s ∷ T) h =
      ap (λ d. d ∷ map (degree_of P.order) T) (sym (degree_weighted P.order H.order (lead_monomial s) (h s (contains_here s T)))) ∙
      ap (λ ds. weighted_degree (letters P S).degrees (lead_monomial s) ∷ ds) (same_degrees T (λ t k. h t (contains_there s T t k)))

  module _ (w : WordOrder) (order : IsWitnessOrder P S w) where
    pub s_word_degree : ((s : Polynomial E) → Contains S s → IsMonomial P.order.places (lead_monomial s)) → (u : Exponents) → IsSWord (letters P S) u →
        (let W : MonomialOrder = by_order w in W.degree (witness_word P.order.places (length P.generators) u)) ≡ (let M : MonomialOrder = word_order_of (letters P S) in M.degree u)
    s_word_degree leads u h =
        let gs = map (generator_degree P.order) P.generators in
        let ds = lead_degrees (letters P S) in
        ap (λ ws. weighted_degree ws (witness_word P.order.places (length P.generators) u)) (by_weights P S w order ∙ ap (λ ds. gs ++ ds) (same_degrees S leads)) ∙
        (ap (λ k. weighted_degree (gs ++ ds) (witness_word P.order.places k u)) (sym (length-map P.generators (generator_degree P.order))) ∙
        (behind_weight gs ds (drop P.order.places u) ∙
        (ap (λ n. weighted_degree ds (drop n u)) (sym degrees_length) ∙ sym (drop_weight u (letters P S).degrees ds h.1))))

    pub s_word_monomial : (u : Exponents) → IsSWord (letters P S) u → (let W : MonomialOrder = by_order w in IsMonomial W.places (witness_word P.order.places (length P.generators) u))
    s_word_monomial u h = record { trimmed = s_word_trimmed u h; within = let l = s_word_within u h in let p = by_places P S w order in omega arith }

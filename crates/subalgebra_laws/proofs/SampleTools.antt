-- What the samples share: facts of each member of a list, words to a degree, and polynomials by their terms.
use Rattle.std.proofs.Common.{◌≡◌, ◌≢◌, ℕ, zero, suc, ◌+◌, ◌-◌, ◌*◌, ◌≤◌, refl, sym, ◌∙◌, ap, subst, List, [], ◌∷◌, ◌++◌, ◌⊎◌, inl, inr, ⊎_elim, length, length-append, take, arith, append-nil, append_assoc, Bool, true, false, cond}
use Rattle.std.specs.Prelude.{map, Contains, sum, ◌&&◌, ◌||◌, nat_eq, nat_le}
use Rattle.std.proofs.Math.Nat.{mul-le-mul_left}
use Rattle.std.proofs.Math.Bool.{or-true}
use Rattle.std.proofs.Math.Seq.{take-nil}
use Rattle.std.proofs.lemmas.Bool.{eqb-true}
use Rattle.std.proofs.lemmas.Bool.Decides.{nat_tests}
use Rattle.std.proofs.lemmas.List.Sums.{sum_by-cons}
use Rattle.std.specs.declared.cmp.Ordering.{Ordering}
use Rattle.std.specs.declared.cmp.Ordering.TheVariants.{Less, Equal, Greater}
use Rattle.word_field.specs.Field.{FieldOps, IsField}
use Rattle.monomial_order.specs.declared.terms.Term.{Term}
use Rattle.monomial_order.specs.Monomial.{exponent, IsTrimmed, weighted_degree}
use Rattle.monomial_order.specs.MonomialOrder.{MonomialOrder, IsMonomialOrder}
use Rattle.monomial_order.specs.laws.Comparing.{le_or_not}
use Rattle.monomial_order.specs.laws.Lists.{contains_none, contains_cases, contains_here, contains_there, contains_map, contains_left, contains_right}
use Rattle.monomial_order.specs.laws.Monomial.{weighted_nil, exponent-product, product-one, trimmed_tail}
use Rattle.word_laws.specs.Words.{word_order_of, image_of, lead_degrees, IsSWord, IsSmaller}
use Rattle.word_laws.specs.laws.Words.{degree_same, s_smaller}
use Rattle.polynomials.specs.Polynomial.{Polynomial, same_monomial, coefficient, Same, AllAt, IsDecreasing, IsHomogeneous, lead_monomial}
use Rattle.polynomials.specs.Ideal.{Multiple, AreMultiples, sum_of}
use Rattle.polynomials.specs.Subalgebra.{Presented, IsPresentation, InSubalgebra, LeadsIdeal, IsStandard, IsGenerated, AllIn, product_of}
use Rattle.polynomials.specs.laws.Decreasing.{coefficient_first}
use Rattle.polynomials.specs.laws.Same.{same_refl}
use Rattle.polynomials.specs.laws.Degrees.{all_found}
use Rattle.subalgebra_laws.specs.Words.{letters, IsReducibleWord}
use Rattle.subalgebra_laws.specs.Bases.{IsMonicElement, AreMonicElements, IsCheckedElement}
use Rattle.polynomials.specs.laws.Coefficients.{nothing_at}
use Rattle.polynomials.specs.laws.Terms.{AllAt-map}
use Rattle.subalgebra_laws.specs.laws.Letters.{letter_degrees}
use Rattle.subalgebra_laws.proofs.Letters.{are_letters}

-- a fact of each member of a list
module _ {A : Type 0} (Q : A → Type 0) where
  abbrev pub EachOf : List A → Type 0
  EachOf [] = Unit {0}
  EachOf (x ∷ xs) = Q x × EachOf xs

  pub each_of : (xs : List A) → EachOf xs → (x : A) → Contains xs x → Q x
  each_of [] h x k = absurd (contains_none x k)
  each_of (y ∷ xs) h x k = ⊎_elim (λ e. subst Q e h.0) (λ r. each_of xs h.1 x r) (contains_cases y xs x k)

-- a fact of each member of a list with what is before and after it
module _ {A : Type 0} (Q : List A → A → List A → Type 0) where
  abbrev pub EachPart : List A → List A → Type 0
  EachPart front [] = Unit {0}
  EachPart front (x ∷ xs) = Q front x xs × EachPart (front ++ (x ∷ [])) xs

  part : (before front xs : List A) (s : A) (after : List A) → EachPart front xs → xs ≡ before ++ (s ∷ after) → Q (front ++ before) s after
  part [] front [] s after h e = cc
  part [] front (x ∷ xs) s after h e =
      let a : x ≡ s = cc in
      let b : xs ≡ after = cc in
      subst (λ ys. Q ys s after) (sym (append-nil front)) (subst (λ y. Q front y after) a (subst (Q front x) b h.0))
  part (b ∷ before) front [] s after h e = cc
  part (b ∷ before) front (x ∷ xs) s after h e =
      let a : x ≡ b = cc in
      let r : xs ≡ before ++ (s ∷ after) = cc in
      subst (λ ys. Q ys s after) (append_assoc front (x ∷ []) before ∙ ap (λ y. front ++ (y ∷ before)) a) (part before (front ++ (x ∷ [])) xs s after h.1 r)

  pub each_part : (xs : List A) → EachPart [] xs → (before after : List A) (s : A) → xs ≡ before ++ (s ∷ after) → Q before s after
  each_part xs h before after s e = part before [] xs s after h e

-- tests of a list
module _ {A : Type 0} (p : A → Bool) where
  abbrev any : List A → Bool
  any [] = false
  any (x ∷ xs) = p x || any xs

  any_true : (xs : List A) (x : A) → Contains xs x → p x ≡ true → any xs ≡ true
  any_true [] x k h = absurd (contains_none x k)
  any_true (y ∷ xs) x k h = ⊎_elim (λ e. ap (λ b. b || any xs) (ap p e ∙ h)) (λ i. ap (λ b. p y || b) (any_true xs x i h) ∙ or-true (p y)) (contains_cases y xs x k)

  abbrev passing : List A → List A
  passing [] = []
  passing (x ∷ xs) = cond (p x) (x ∷ passing xs) (passing xs)

  passing_has : (xs : List A) (x : A) → Contains xs x → p x ≡ true → Contains (passing xs) x
  passing_has [] x k h = absurd (contains_none x k)
  passing_has (y ∷ xs) x k h = ⊎_elim
      (λ e. subst (λ b. Contains (cond b (y ∷ passing xs) (passing xs)) x) (sym (ap p e ∙ h)) (subst (Contains (y ∷ passing xs)) e (contains_here y (passing xs))))
      (λ i. either (p y) (passing_has xs x i h)) (contains_cases y xs x k)
    where
      either : (b : Bool) → Contains (passing xs) x → Contains (cond b (y ∷ passing xs) (passing xs)) x
      either true i = contains_there y (passing xs) x i
      either false i = i

-- the words of degree at most c in letters of the degrees ds
abbrev trimmed_cons : ℕ → List ℕ → List ℕ
trimmed_cons zero [] = []
trimmed_cons zero (f ∷ w) = 0 ∷ (f ∷ w)
trimmed_cons (suc e) w = suc e ∷ w

cons_is : (e : ℕ) (w : List ℕ) → IsTrimmed (e ∷ w) → trimmed_cons e w ≡ e ∷ w
cons_is zero [] h = absurd (h refl)
cons_is zero (f ∷ w) h = refl
cons_is (suc e) w h = refl

abbrev with_exponents : (ℕ → List (List ℕ)) → ℕ → ℕ → ℕ → List (List ℕ)
with_exponents rest d c zero = map (trimmed_cons 0) (rest c)
with_exponents rest d c (suc e) = cond (nat_le (d * suc e) c) (map (trimmed_cons (suc e)) (rest (c - d * suc e))) [] ++ with_exponents rest d c e

abbrev words_to : List ℕ → ℕ → List (List ℕ)
words_to [] c = [] ∷ []
words_to (d ∷ ds) c = with_exponents (λ b. words_to ds b) d c c

-- those that have none of the first n letters
abbrev s_words_to : ℕ → List ℕ → ℕ → List (List ℕ)
s_words_to zero ds c = words_to ds c
s_words_to (suc n) ds c = map (trimmed_cons 0) (s_words_to n ds c)

at_exponent : (rest : ℕ → List (List ℕ)) (d c e n : ℕ) (w : List ℕ) → n ≤ e → d * n ≤ c → Contains (rest (c - d * n)) w → Contains (with_exponents rest d c e) (trimmed_cons n w)
at_exponent rest d c zero zero w l b h = contains_map (trimmed_cons 0) (rest c) w (subst (λ k. Contains (rest k) w) (let z : c - d * 0 ≡ c = omega arith in z) h)
at_exponent rest d c zero (suc n) w l b h = absurd (omega arith)
at_exponent rest d c (suc e) n w l b h =
    ⊎_elim (λ le. contains_right (cond (nat_le (d * suc e) c) (map (trimmed_cons (suc e)) (rest (c - d * suc e))) []) (with_exponents rest d c e) (trimmed_cons n w) (at_exponent rest d c e n w le b h))
    (λ no. last (let z : n ≡ suc e = omega (arith, no) in z)) (le_or_not n e)
  where
    le_true : (a b : ℕ) → a ≤ b → nat_le a b ≡ true
    le_true a b h = grind (arith, nat_tests)

    here : (k : ℕ) → d * suc k ≤ c → Contains (rest (c - d * suc k)) w → Contains (with_exponents rest d c (suc k)) (trimmed_cons (suc k) w)
    here k b h = contains_left (cond (nat_le (d * suc k) c) (map (trimmed_cons (suc k)) (rest (c - d * suc k))) []) (with_exponents rest d c k) (trimmed_cons (suc k) w)
        (subst (λ t. Contains (cond t (map (trimmed_cons (suc k)) (rest (c - d * suc k))) []) (trimmed_cons (suc k) w)) (sym (le_true (d * suc k) c b))
        (contains_map (trimmed_cons (suc k)) (rest (c - d * suc k)) w h))

    last : n ≡ suc e → Contains (with_exponents rest d c (suc e)) (trimmed_cons n w)
    last s = subst (λ k. Contains (with_exponents rest d c (suc e)) (trimmed_cons k w)) (sym s) (here e (subst (λ k. d * k ≤ c) s b) (subst (λ k. Contains (rest (c - d * k)) w) s h))

words_all : (ds : List ℕ) (c : ℕ) (w : List ℕ) → EachOf (λ d. 1 ≤ d) ds → length w ≤ length ds → IsTrimmed w → weighted_degree ds w ≤ c → Contains (words_to ds c) w
words_all [] c [] p l t le = contains_here [] []
words_all [] c (e ∷ w) p l t le = absurd (omega arith)
words_all (d ∷ ds) c [] p l t le = at_exponent (λ b. words_to ds b) d c c 0 [] (omega arith) (omega arith) (words_all ds (c - d * 0) [] p.1 (omega arith) tt (omega (arith, weighted_nil ds)))
words_all (d ∷ ds) c (e ∷ w) p l t le =
    let q = mul-le-mul_left e p.0 in
    subst (Contains (words_to (d ∷ ds) c)) (cons_is e w t)
    (at_exponent (λ b. words_to ds b) d c c e w (omega arith) (omega arith) (words_all ds (c - d * e) w p.1 (omega arith) (trimmed_tail e w t) (omega arith)))

s_words_all : (xs ds : List ℕ) (c : ℕ) (w : List ℕ) → EachOf (λ d. 1 ≤ d) ds → length w ≤ length xs + length ds → IsTrimmed w → sum (take (length xs) w) ≡ 0 → weighted_degree (xs ++ ds) w ≤ c →
    Contains (s_words_to (length xs) ds c) w
s_words_all [] ds c w p l t z le = words_all ds c w p (omega arith) t le
s_words_all (x ∷ xs) ds c [] p l t z le = contains_map (trimmed_cons 0) (s_words_to (length xs) ds c) [] (s_words_all xs ds c [] p (omega arith) tt (ap sum (take-nil (length xs))) (omega (arith, weighted_nil (xs ++ ds))))
s_words_all (x ∷ xs) ds c (e ∷ w) p l t z le =
    let a = sum_by-cons (λ (y : ℕ). y) e (take (length xs) w) in
    let zero : 0 ≡ e = omega arith in
    subst (Contains (s_words_to (suc (length xs)) ds c)) (cons_is 0 w (subst (λ k. IsTrimmed (k ∷ w)) (sym zero) t) ∙ ap (λ k. k ∷ w) zero)
    (contains_map (trimmed_cons 0) (s_words_to (length xs) ds c) w (s_words_all xs ds c w p (omega arith) (trimmed_tail e w t) (omega arith) (omega arith)))

abbrev is_less : Ordering → Bool
is_less Less = true
is_less Equal = false
is_less Greater = false

-- the reducible s-words of degree at most c, by a test of what leads the ideal
module _ {E : Type 0} (P : Presented E) (H : IsPresentation P) (S : List (Polynomial E)) (HS : AreMonicElements P S) (leads : List ℕ → Bool) (c : ℕ) where
  abbrev reduces : List ℕ → Bool
  reduces u = leads (image_of (letters P S) u) ||
      any (λ v. same_monomial (image_of (letters P S) v) (image_of (letters P S) u) && is_less ((word_order_of (letters P S)).compare v u)) (s_words_to (length (letter_degrees P S)) (lead_degrees (letters P S)) c)

  abbrev pub reducible_words : List (List ℕ)
  reducible_words = passing reduces (s_words_to (length (letter_degrees P S)) (lead_degrees (letters P S)) c)

  pub reducible_listed : EachOf (λ d. 1 ≤ d) (lead_degrees (letters P S)) → ((m : List ℕ) → LeadsIdeal P m → leads m ≡ true) →
      (u : List ℕ) → IsSWord (letters P S) u → (word_order_of (letters P S)).degree u ≤ c → IsReducibleWord P S u → Contains reducible_words u
  reducible_listed pos sees u hu le r = passing_has reduces (s_words_to (length (letter_degrees P S)) (lead_degrees (letters P S)) c) u (listed u hu le)
      (⊎_elim (λ l. ap (λ b. b || any smaller words) (sees (image_of (letters P S) u) l)) (λ s. ap (λ b. leads (image_of (letters P S) u) || b) (by_smaller s.0 s.1) ∙ or-true (leads (image_of (letters P S) u))) r)
    where
      words : List (List ℕ)
      words = s_words_to (length (letter_degrees P S)) (lead_degrees (letters P S)) c

      smaller : List ℕ → Bool
      smaller v = same_monomial (image_of (letters P S) v) (image_of (letters P S) u) && is_less ((word_order_of (letters P S)).compare v u)

      listed : (w : List ℕ) → IsSWord (letters P S) w → (word_order_of (letters P S)).degree w ≤ c → Contains words w
      listed w hw l = s_words_all (letter_degrees P S) (lead_degrees (letters P S)) c w pos (let a = hw.0.within in let b = length-append (letter_degrees P S) (lead_degrees (letters P S)) in omega arith) hw.0.trimmed hw.1 l

      by_smaller : (v : List ℕ) → IsSmaller (letters P S) u v → any smaller words ≡ true
      by_smaller v s = any_true smaller words v
          (listed v (s_smaller (letters P S) (are_letters P H S HS) v u hu s) (let d = degree_same (letters P S) (are_letters P H S HS) v u s.image in omega arith))
          (ap (λ m. same_monomial m (image_of (letters P S) u) && is_less ((word_order_of (letters P S)).compare v u)) s.image ∙
          (ap (λ b. b && is_less ((word_order_of (letters P S)).compare v u)) (same_refl (image_of (letters P S) u)) ∙ ap is_less s.less))

-- polynomials with the same coefficient at the monomial of each of their terms are the same
module _ (K : FieldOps ℕ) (F : IsField K) (O : MonomialOrder) (L : IsMonomialOrder O) where
  abbrev agree : Polynomial ℕ → Polynomial ℕ → Polynomial ℕ → Bool
  agree p q [] = true
  agree p q (t ∷ r) = nat_eq (coefficient K p t.at) (coefficient K q t.at) && agree p q r

  agree_all : (p q r : Polynomial ℕ) → agree p q r ≡ true → AllAt (λ m. coefficient K p m ≡ coefficient K q m) r
  agree_all p q [] h = tt
  agree_all p q (t ∷ r) h = both (nat_eq (coefficient K p t.at) (coefficient K q t.at)) refl h (agree_all p q r)
    where
      both : (b : Bool) → nat_eq (coefficient K p t.at) (coefficient K q t.at) ≡ b → b && agree p q r ≡ true →
          (agree p q r ≡ true → AllAt (λ m. coefficient K p m ≡ coefficient K q m) r) → AllAt (λ m. coefficient K p m ≡ coefficient K q m) (t ∷ r)
      both true e h rest = (eqb-true (coefficient K p t.at) (coefficient K q t.at) e, rest h)
      both false e h rest = cc

  pub same_checked : (p q : Polynomial ℕ) → agree p q p && agree p q q ≡ true → Same K p q
  same_checked p q h m = both (agree p q p) (agree p q q) refl refl h
    where
      both : (a b : Bool) → agree p q p ≡ a → agree p q q ≡ b → a && b ≡ true → coefficient K p m ≡ coefficient K q m
      both true true x y z = ⊎_elim
          (λ e. ⊎_elim (λ f. e ∙ sym f) (λ n. all_found K F O L (λ k. coefficient K p k ≡ coefficient K q k) q (agree_all p q q y) m n) (F.equal_or_not (coefficient K q m) K.zero))
          (λ n. all_found K F O L (λ k. coefficient K p k ≡ coefficient K q k) p (agree_all p q p x) m n) (F.equal_or_not (coefficient K p m) K.zero)
      both true false x y z = cc
      both false b x y z = cc

-- elements by their terms
module _ {E : Type 0} (K : FieldOps E) (F : IsField K) (O : MonomialOrder) (L : IsMonomialOrder O) where
  pub first_homogeneous : (d : ℕ) (t : Term E) (p : Polynomial E) → IsDecreasing K O (t ∷ p) → AllAt (λ m. O.degree m ≡ d) (t ∷ p) → IsHomogeneous K O d (t ∷ p)
  first_homogeneous d t p f h = record { some = (t.at, λ z. f.0.nonzero (sym (coefficient_first K F O L t p f.0) ∙ z)); each = all_found K F O L (λ m. O.degree m ≡ d) (t ∷ p) h }

module _ {E : Type 0} (P : Presented E) (H : IsPresentation P) (t : Term E) (p : Polynomial E) (f : IsDecreasing P.field P.order (t ∷ p)) (one : t.by ≡ P.field.one) where
  open P use {field as K, order as O}
  open H use {field as F, order as L}

  pub first_monic : 1 ≤ O.degree t.at → IsMonicElement P (t ∷ p)
  first_monic le = record { decreasing = f; monic = coefficient_first K F O L t p f.0 ∙ one; positive = le }

  pub first_checked : (c : ℕ) (S : List (Polynomial E)) → InSubalgebra P (t ∷ p) → AllAt (λ m. O.degree m ≡ O.degree t.at) (t ∷ p) → 1 ≤ O.degree t.at → O.degree t.at ≤ c →
      AllAt (IsStandard P) (t ∷ p) → AllAt (λ m. ¬ IsGenerated (map lead_monomial S) m) p → IsCheckedElement P c S (t ∷ p)
  first_checked c S inside same low high st tail = record {
    element = record {
      decreasing = f;
      inside = inside;
      monic = coefficient_first K F O L t p f.0 ∙ one;
      homogeneous = first_homogeneous K F O L (O.degree t.at) t p f same;
      at_least = low;
      at_most = high;
      standard = all_found K F O L (IsStandard P) (t ∷ p) st;
    };
    tail = λ m k ne. ⊎_elim (λ e. absurd (ne e)) (λ n. n) (all_found K F O L (λ m. (m ≡ t.at) ⊎ (¬ IsGenerated (map lead_monomial S) m)) (t ∷ p)
        (inl refl, AllAt-map (λ m. ¬ IsGenerated (map lead_monomial S) m) (λ m. (m ≡ t.at) ⊎ (¬ IsGenerated (map lead_monomial S) m)) (λ m n. inr n) p tail) m k);
  }

-- a product of monomials that have x once is 1, or one of them, or has x more than once
module _ (M : List (List ℕ)) (all : EachOf (λ m. exponent m 0 ≡ 1) M) where
  x_counts : (ms : List (List ℕ)) → AllIn M ms → exponent (product_of ms) 0 ≡ length ms
  x_counts [] h = refl
  x_counts (m ∷ ms) h = let p = exponent-product m (product_of ms) 0 in let a = each_of (λ n. exponent n 0 ≡ 1) M all m h.0 in let r = x_counts ms h.1 in omega arith

  by_factors : (m : List ℕ) (ms : List (List ℕ)) → AllIn M ms → product_of ms ≡ m → (m ≡ []) ⊎ (Contains M m ⊎ (2 ≤ exponent m 0))
  by_factors m [] k e = inl (sym e)
  by_factors m (n ∷ []) k e = inr (inl (subst (Contains M) (sym (product-one n) ∙ e) k.0))
  by_factors m (n ∷ (l ∷ ms)) k e = inr (inr (let c = x_counts (n ∷ (l ∷ ms)) k in let s : exponent (product_of (n ∷ (l ∷ ms))) 0 ≡ exponent m 0 = ap (λ y. exponent y 0) e in omega arith))

  pub not_generated : (m : List ℕ) → exponent m 0 ≤ 1 → m ≢ [] → EachOf (λ n. n ≢ m) M → ¬ IsGenerated M m
  not_generated m le ne differ g = ⊎_elim ne (λ r. ⊎_elim (λ k. each_of (λ n. n ≢ m) M differ m k refl) (λ two. let t = two in omega arith) r) (by_factors m g.factors g.members g.product)

-- without generators the ideal has zero alone
module _ {E : Type 0} (P : Presented E) (F : IsField P.field) (none : P.ideal ≡ []) where
  zero_sum : (parts : List (Multiple E)) → AreMultiples P.field P.order.places P.ideal parts → Same P.field (sum_of P.field parts) []
  zero_sum [] h = λ m. refl
  zero_sum (w ∷ ws) h = absurd (contains_none w.of (subst (λ rs. Contains rs w.of) none h.1))

  pub no_leads : (m : List ℕ) → LeadsIdeal P m → ⊥
  no_leads m l = l.leads.nonzero (l.inside.sums m ∙ (zero_sum l.inside.parts l.inside.multiples m ∙ sym (nothing_at P.field m)))

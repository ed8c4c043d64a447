-- The minimal reducible s-words of the degree of the words are at the end of the rules.
use Rattle.std.proofs.Common.{◌≡◌, ℕ, zero, suc, ◌<◌, ◌≤◌, sym, ◌∙◌, ap, subst, List, [], ◌∷◌, ◌++◌, length, take, drop, sum, Bool, true, false, cond, get_or, drop-cons, arith, ⊎_elim}
use Rattle.std.specs.Prelude.{map, filter, nat_eq, Contains, All}
use Rattle.std.proofs.lemmas.List.{take-append-drop}
use Rattle.std.proofs.lemmas.Bool.{eq-eqb, eqb-true}
use Rattle.std.proofs.lemmas.List.Elements.{All-cons, All-contains}
use Rattle.std.specs.declared.cmp.Ordering.TheVariants.{Less}
use Rattle.monomial_order.specs.Monomial.{Exponents}
use Rattle.monomial_order.specs.MonomialOrder.{MonomialOrder, IsIncreasing, IsMonomialOrder}
use Rattle.monomial_order.specs.laws.Comparing.{degree_falls, increasing_below, increasing_cons, increasing_tail}
use Rattle.monomial_order.specs.laws.Lists.{contains_at, contains_cases, contains_either, contains_map, contains_none, contains_right}
use Rattle.word_laws.specs.Words.{Letters, word_order_of, AreLetters}
use Rattle.word_laws.specs.laws.Words.{word_laws}
use Rattle.polynomials.specs.Polynomial.{Polynomial}
use Rattle.polynomials.specs.Subalgebra.{Presented, IsPresentation}
use Rattle.monomial_order.specs.laws.Lists.{map_contains}
use Rattle.toric_ideal.specs.declared.rule.Rule.{Rule}
use Rattle.toric_ideal.specs.Listing.{AreRules, IsListing, Listing}
use Rattle.subalgebra_laws.specs.Statements.{ForMonicElements}
use Rattle.subalgebra_laws.specs.Words.{letters, IsMinimalWord}
use Rattle.witness.specs.Tracking.{values_of}
use Rattle.word_values.specs.Values.{word_degree}
use Rattle.subduction.specs.Basis.{BasisState, IsBasisOf}
use Rattle.subduction.specs.laws.Decisions.{ZerosRepresent, zeros_represent}
use Rattle.monomial_order.specs.laws.Lists.{filter_has, filter_part}
use Rattle.completion.specs.Candidates.{AreWordsAt}

module _ (O : MonomialOrder) {A : Type 0} (f : A → Exponents) where
  pub increasing_rest : (i : ℕ) (xs : List A) → IsIncreasing O (map f xs) → IsIncreasing O (map f (drop i xs))
  increasing_rest zero xs h = h
  increasing_rest (suc i) [] h = tt
  increasing_rest (suc i) (x ∷ xs) h = increasing_rest i xs (increasing_tail O (f x) (map f xs) h)

  module _ (L : IsMonomialOrder O) where
    pub increasing_part : (p : A → Bool) (xs : List A) → IsIncreasing O (map f xs) → IsIncreasing O (map f (filter p xs))
    increasing_part p [] h = tt
    increasing_part p (x ∷ xs) h = by_test (p x) (increasing_part p xs (increasing_tail O (f x) (map f xs) h))
      where
        by_test : (b : Bool) → IsIncreasing O (map f (filter p xs)) → IsIncreasing O (map f (cond b (x ∷ filter p xs) (filter p xs)))
        by_test true r =
            increasing_cons O (f x) (map f (filter p xs)) (λ n k.
            let y = map_contains f (filter p xs) n k in
            subst (λ m. O.compare (f x) m ≡ Less) y.2
            (increasing_below O L (f x) (map f xs) h (f y.0) (contains_map f xs y.0 (filter_part p xs y.0 y.1).0))) r
        by_test false r = r

    -- what comes before a member has no greater degree
    pub degrees_before : (i : ℕ) (xs : List A) (d : A) → IsIncreasing O (map f xs) → i < length xs → (x : A) → Contains (take (suc i) xs) x → O.degree (f x) ≤ O.degree (f (get_or xs i d))
    degrees_before i [] d h l x k = absurd (omega arith)
    degrees_before zero (y ∷ xs) d h l x k =
        ⊎_elim (λ e. let a : O.degree (f y) ≡ O.degree (f x) = ap (λ z. O.degree (f z)) e in omega arith) (λ c. absurd (contains_none x c))
        (contains_cases y [] x k)
    degrees_before (suc i) (y ∷ xs) d h l x k =
        ⊎_elim (λ e. subst (λ z. O.degree (f z) ≤ O.degree (f (get_or xs i d))) e
        (degree_falls O L (f y) (f (get_or xs i d)) (increasing_below O L (f y) (map f xs) h (f (get_or xs i d)) (contains_map f xs (get_or xs i d) (contains_at xs i d (omega arith))))))
        (λ c. degrees_before i xs d (increasing_tail O (f y) (map f xs) h) (omega arith) x c)
        (contains_cases y (take (suc i) xs) x k)

-- rules of smaller degrees, and those of the degree of the words
abbrev pub IsLower : Listing → Rule → Type 0
IsLower W r = (word_order_of W.letters).degree r.word < W.degree

abbrev pub IsLast : Listing → Rule → Type 0
IsLast W r = (word_order_of W.letters).degree r.word ≡ W.degree

module _ (W : Listing) (I : IsListing W) where
  abbrev O : MonomialOrder
  O = word_order_of W.letters

  pub is_rule : (rules : List Rule) (i : ℕ) (r : Rule) → rules ≡ W.rules → i < length rules → r ≡ get_or rules i r → Contains W.rules r
  is_rule rules i r e l s = subst (λ rs. Contains rs r) e (subst (Contains rules) (sym s) (contains_at rules i r l))

  pub at_rule : (rules : List Rule) (i : ℕ) (r : Rule) → rules ≡ W.rules → r ≡ get_or rules i r → get_or W.rules i r ≡ r
  at_rule rules i r e s = ap (λ rs. get_or rs i r) (sym e) ∙ sym s

  laws : IsMonomialOrder O
  laws = word_laws W.letters I.letters

  pub lower_before : (k i : ℕ) (r : Rule) → suc i ≡ k → k ≤ length W.rules → get_or W.rules i r ≡ r → IsLower W r → All (IsLower W) (take k W.rules)
  lower_before k i r e l s h j x m =
      let c : Contains (take (suc i) W.rules) (get_or (take k W.rules) j x) =
      subst (λ n. Contains (take n W.rules) (get_or (take k W.rules) j x)) (sym e) (contains_at (take k W.rules) j x m) in
      let a = degrees_before O (λ (r : Rule). r.word) laws i W.rules r I.rules.increasing (omega arith) (get_or (take k W.rules) j x) c in
      let b : O.degree (get_or W.rules i r).word ≡ O.degree r.word = ap (λ (r : Rule). O.degree r.word) s in
      omega arith

  pub one_more : (k i : ℕ) (r : Rule) → suc i ≡ k → k ≤ length W.rules → get_or W.rules i r ≡ r → W.degree ≤ O.degree r.word → All (IsLast W) (drop k W.rules) → All (IsLast W) (drop i W.rules)
  one_more k i r e l s h rest =
      let at : i < length W.rules = omega arith in
      let d = I.rules.degree r (subst (Contains W.rules) s (contains_at W.rules i r at)) in
      subst (All (IsLast W)) (sym (drop-cons W.rules i r at))
      (All-cons (IsLast W) (get_or W.rules i r) (drop (suc i) W.rules) (subst (IsLast W) (sym s) (omega arith)) (subst (λ n. All (IsLast W) (drop n W.rules)) (sym e) rest))

module _ {F E : Type 0} (P : Presented E) (H : IsPresentation P) (b : BasisState F E) (B : IsBasisOf P b) (law : ForMonicElements E ZerosRepresent) where
  abbrev S : List (Polynomial E)
  S = values_of b.elements

  abbrev L : Letters
  L = letters P S

  abbrev rules : List Rule
  rules = b.words.rules

  R : AreRules L b.words.zeros b.words.degree rules
  R = subst (λ L. AreRules L b.words.zeros b.words.degree rules) B.letters B.words.rules

  module _ (n : ℕ) (first : n ≡ length L.degrees) (k : ℕ) (before : All (λ r. word_degree P S r.word < b.words.degree) (take k rules))
      (from : All (λ r. word_degree P S r.word ≡ b.words.degree) (drop k rules)) where
    abbrev is_s : Rule → Bool
    is_s r = nat_eq (sum (take n r.word)) 0

    abbrev words : List Exponents
    words = map (λ r. r.word) (filter is_s (drop k rules))

    all_rules : take k rules ++ drop k rules ≡ rules
    all_rules = take-append-drop k rules

    are_minimal : (u : Exponents) → Contains words u → IsMinimalWord P S u × (word_degree P S u ≡ b.words.degree)
    are_minimal u c =
        let y = map_contains (λ r. r.word) (filter is_s (drop k rules)) u c in
        let q = filter_part is_s (drop k rules) y.0 y.1 in
        let m = R.minimal y.0 (subst (λ rs. Contains rs y.0) all_rules (contains_right (take k rules) (drop k rules) y.0 q.0)) in
        let e = All-contains (λ (r : Rule). word_degree P S r.word ≡ b.words.degree) (drop k rules) y.0 from q.0 in
        let z = zeros_represent P H b B law y.0.word (omega arith) in
        let s = eqb-true (sum (take n y.0.word)) 0 q.1 in
        subst (λ v. IsMinimalWord P S v × (word_degree P S v ≡ b.words.degree)) y.2
        ((z.1.0 m, (m.word, subst (λ n. sum (take n y.0.word) ≡ 0) first s)), e)

    are_all : (u : Exponents) → IsMinimalWord P S u → word_degree P S u ≡ b.words.degree → Contains words u
    are_all u h e =
        let z = zeros_represent P H b B law u (omega arith) in
        let r = R.all u (z.1.1 h.0) (omega arith) in
        let same : word_degree P S r.0.word ≡ word_degree P S u = ap (word_degree P S) r.2 in
        let s : sum (take n r.0.word) ≡ 0 = subst (λ n. sum (take n r.0.word) ≡ 0) (sym first) (subst (λ v. sum (take (length L.degrees) v) ≡ 0) (sym r.2) h.1.1) in
        ⊎_elim (λ c. let l = All-contains (λ (r : Rule). word_degree P S r.word < b.words.degree) (take k rules) r.0 before c in absurd (omega arith))
        (λ c. subst (Contains words) r.2 (contains_map (λ r. r.word) (filter is_s (drop k rules)) r.0 (filter_has is_s (drop k rules) r.0 (eq-eqb (sum (take n r.0.word)) 0 s) c)))
        (contains_either (take k rules) (drop k rules) r.0 (subst (λ rs. Contains rs r.0) (sym all_rules) r.1))

    pub words_at_degree : AreWordsAt P S b.words.degree words
    words_at_degree = record {
      increasing = increasing_part (word_order_of L) (λ (r : Rule). r.word) (word_laws L (subst AreLetters B.letters B.words.letters)) is_s (drop k rules)
          (increasing_rest (word_order_of L) (λ (r : Rule). r.word) k rules R.increasing);
      exactly = λ u. (are_minimal u, λ h. are_all u h.0 h.1);
    }

  -- the same of words that are those of the basis
  pub words_of_rules : (W : Listing) → W ≡ b.words → (rules : List Rule) → rules ≡ W.rules → (n : ℕ) → n ≡ length W.letters.degrees → (k : ℕ) → All (IsLower W) (take k W.rules) →
      All (IsLast W) (drop k W.rules) → AreWordsAt P S b.words.degree (map (λ r. r.word) (filter (λ r. nat_eq (sum (take n r.word)) 0) (drop k rules)))
  words_of_rules W e rs same n first k before from =
      subst (λ (rs : List Rule). AreWordsAt P S b.words.degree (map (λ r. r.word) (filter (λ r. nat_eq (sum (take n r.word)) 0) (drop k rs)))) (sym (same ∙ ap (λ (W : Listing). W.rules) e))
      (words_at_degree n (first ∙ (ap (λ (W : Listing). length W.letters.degrees) e ∙ ap (λ (L : Letters). length L.degrees) B.letters)) k
      (subst (λ (L : Letters). All (λ (r : Rule). (word_order_of L).degree r.word < b.words.degree) (take k b.words.rules)) B.letters (subst (λ (W : Listing). All (IsLower W) (take k W.rules)) e before))
      (subst (λ (L : Letters). All (λ (r : Rule). (word_order_of L).degree r.word ≡ b.words.degree) (drop k b.words.rules)) B.letters (subst (λ (W : Listing). All (IsLast W) (drop k W.rules)) e from)))

-- Degrees of least common multiples, by the letters of the second word.
use Rattle.std.proofs.Common.{◌≡◌, ℕ, zero, suc, ◌+◌, ◌*◌, ◌-◌, ◌≤◌, ◌∙◌, refl, ap, List, [], ◌∷◌, arith, get_or, max}
use Rattle.std.specs.Prelude.{sum_by}
use Rattle.std.proofs.lemmas.List.Sums.{sum_by-cons}
use Rattle.monomial_order.specs.Monomial.{Exponents, exponent, least_common_multiple, weighted_degree}
use Rattle.monomial_order.specs.laws.Monomial.{weighted_nil}
use Rattle.word_rules.specs.declared.factor.Factor.{Factor}
use Rattle.word_rules.specs.Factors.{factors_from, factors_of}

-- what a letter adds to the degree of a word o, by the weights ws
abbrev pub added_by : List ℕ → Exponents → Factor → ℕ
added_by ws o f = get_or ws f.letter 0 * (f.exponent - exponent o f.letter)

greater : (v a e : ℕ) → v * a + v * (e - a) ≡ v * max a e
greater v a e = let h : a + (e - a) ≡ max a e = omega arith in both v a (e - a) ∙ ap (λ x. v * x) h
  where
    both : (v a t : ℕ) → v * a + v * t ≡ v * (a + t)
    both v a t = omega arith

-- the first place adds what its exponent e is above a
first_place : (vs us : List ℕ) (k e v a : ℕ) (w : List ℕ) → get_or vs k 0 ≡ v → get_or us k 0 ≡ a →
    sum_by (added_by vs us) (factors_from k (e ∷ w)) ≡ v * (e - a) + sum_by (added_by vs us) (factors_from (suc k) w)
first_place vs us k zero v a w h g = let z : v * (0 - a) ≡ v * 0 = ap (λ x. v * x) (none a) in omega arith
  where
    none : (a : ℕ) → 0 - a ≡ 0
    none a = omega arith
first_place vs us k (suc e) v a w h g =
    sum_by-cons (added_by vs us) (record { letter = k; exponent = suc e }) (factors_from (suc k) w)
    ∙ ap (λ x. x + rest) same
  where
    rest : ℕ
    rest = sum_by (added_by vs us) (factors_from (suc k) w)

    same : get_or vs k 0 * (suc e - get_or us k 0) ≡ v * (suc e - a)
    same = ap (λ x. x * (suc e - get_or us k 0)) h ∙ ap (λ x. v * (suc e - x)) g

-- the same place, counted from the next one
one_more : (xs ys zs : List ℕ) (k : ℕ) → ((p : ℕ) → get_or xs (k + p) 0 ≡ get_or ys p 0) →
    ((p : ℕ) → get_or ys (suc p) 0 ≡ get_or zs p 0) → (p : ℕ) → get_or xs (suc k + p) 0 ≡ get_or zs p 0
one_more xs ys zs k h t p = let i : suc k + p ≡ k + suc p = omega arith in ap (λ i. get_or xs i 0) i ∙ (h (suc p) ∙ t p)

here : (xs ys : List ℕ) (k : ℕ) → ((p : ℕ) → get_or xs (k + p) 0 ≡ get_or ys p 0) → get_or xs k 0 ≡ get_or ys 0 0
here xs ys k h = let i : k ≡ k + 0 = omega arith in ap (λ i. get_or xs i 0) i ∙ h 0

-- ws and o are the parts of all weights and of all exponents from the place k on
sum_from : (vs us ws o w : List ℕ) (k : ℕ) → ((p : ℕ) → get_or vs (k + p) 0 ≡ get_or ws p 0) →
    ((p : ℕ) → get_or us (k + p) 0 ≡ get_or o p 0) → weighted_degree ws o
    + sum_by (added_by vs us) (factors_from k w) ≡ weighted_degree ws (least_common_multiple o w)
sum_from vs us ws [] [] k h g = omega arith
sum_from vs us ws (a ∷ o) [] k h g = omega arith
sum_from vs us [] [] (e ∷ w) k h g =
    let first = first_place vs us k e 0 0 w (here vs [] k h) (here us [] k g) in
    let rest = sum_from vs us [] [] w (suc k) (one_more vs [] [] k h (λ p. refl)) (one_more us [] [] k g (λ p. refl)) in
    omega arith
sum_from vs us [] (a ∷ o) (e ∷ w) k h g =
    let first = first_place vs us k e 0 a w (here vs [] k h) (here us (a ∷ o) k g) in
    let weights = one_more vs [] [] k h (λ p. refl) in
    let rest = sum_from vs us [] o w (suc k) weights (one_more us (a ∷ o) o k g (λ p. refl)) in
    omega arith
sum_from vs us (v ∷ ws) [] (e ∷ w) k h g =
    let first = first_place vs us k e v 0 w (here vs (v ∷ ws) k h) (here us [] k g) in
    let weights = one_more vs (v ∷ ws) ws k h (λ p. refl) in
    let rest = sum_from vs us ws [] w (suc k) weights (one_more us [] [] k g (λ p. refl)) in
    let nil = weighted_nil ws in
    let whole : v * (e - 0) ≡ v * e = let z : e - 0 ≡ e = omega arith in ap (λ x. v * x) z in
    omega arith
sum_from vs us (v ∷ ws) (a ∷ o) (e ∷ w) k h g =
    let first = first_place vs us k e v a w (here vs (v ∷ ws) k h) (here us (a ∷ o) k g) in
    let weights = one_more vs (v ∷ ws) ws k h (λ p. refl) in
    let rest = sum_from vs us ws o w (suc k) weights (one_more us (a ∷ o) o k g (λ p. refl)) in
    let most = greater v a e in
    omega arith

-- the letters of w add what the least common multiple with w has above the degree of o
pub sum_of_factors : (ws o w : List ℕ) →
    weighted_degree ws o + sum_by (added_by ws o) (factors_of w) ≡ weighted_degree ws (least_common_multiple o w)
sum_of_factors ws o w = sum_from ws o ws o w 0 (start ws) (start o)
  where
    start : (xs : List ℕ) (p : ℕ) → get_or xs (0 + p) 0 ≡ get_or xs p 0
    start xs p = let i : 0 + p ≡ p = omega arith in ap (λ i. get_or xs i 0) i

-- a word has at most the degree of its least common multiple with another
pub first_degree : (ws o w : List ℕ) → weighted_degree ws o ≤ weighted_degree ws (least_common_multiple o w)
first_degree ws o w = let h = sum_of_factors ws o w in omega arith

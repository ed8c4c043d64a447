-- One more number at the end of 1, 2, ..
use Rattle.std.proofs.Common.{◌≡◌, ℕ, zero, suc, ◌+◌, ◌-◌, ◌≤◌, List, [], ◌∷◌, ◌++◌, map, sym, ap, ◌∙◌, arith}
use Rattle.std.specs.List.{range_with_len}
use Rattle.std.proofs.lemmas.List.FromFn.{map-range_with_len_more}

range_push : (a n : ℕ) → range_with_len a (suc n) ≡ range_with_len a n ++ (a + n) ∷ []
range_push a zero = ap (λ k. k ∷ []) (let e : a ≡ a + 0 = omega arith in e)
range_push a (suc n) =
    ap (λ ks. a ∷ ks) (range_push (a + 1) n) ∙
    ap (λ k. a ∷ (range_with_len (a + 1) n ++ k ∷ [])) (let e : (a + 1) + n ≡ a + suc n = omega arith in e)

-- the numbers below k, and then k
pub range_more : (k : ℕ) → 1 ≤ k → range_with_len 1 (k - 1) ++ k ∷ [] ≡ range_with_len 1 (k + 1 - 1)
range_more zero l = absurd (omega arith)
range_more (suc n) l =
    ap (λ j. range_with_len 1 j ++ suc n ∷ []) (let e : suc n - 1 ≡ n = omega arith in e) ∙
    (ap (λ j. range_with_len 1 n ++ j ∷ []) (let e : suc n ≡ 1 + n = omega arith in e) ∙
    (sym (range_push 1 n) ∙ ap (range_with_len 1) (let e : suc n ≡ suc n + 1 - 1 = omega arith in e)))

-- what f makes of the numbers below k, and then of k
pub pushed : {A : Type 0} (f : ℕ → A) (old new : List A) (x : A) (k : ℕ) → 1 ≤ k → old ≡ map f (range_with_len 1 (k - 1)) → new ≡ old ++ x ∷ [] → x ≡ f k →
    new ≡ map f (range_with_len 1 (k + 1 - 1))
pushed f old new x k l before push is =
    push ∙ (ap (λ xs. xs ++ x ∷ []) before ∙ (ap (λ y. map f (range_with_len 1 (k - 1)) ++ y ∷ []) is ∙
    (sym (map-range_with_len_more f 1 (k - 1) k (omega arith)) ∙ ap (λ n. map f (range_with_len 1 n)) (let e : k - 1 + 1 ≡ k + 1 - 1 = omega arith in e))))

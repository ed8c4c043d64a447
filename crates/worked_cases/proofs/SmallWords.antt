-- Words in three letters.
use Rattle.std.proofs.Common.{◌≡◌, ℕ, ◌≤◌, sym, subst, ap, ◌∙◌, List, [], ◌∷◌, ◌++◌, arith}
use Rattle.monomial_order.specs.Monomial.{exponent, weighted_degree}

three : (m : List ℕ) → ((i : ℕ) → exponent m i ≤ 7) → weighted_degree (1 ∷ 1 ∷ 2 ∷ []) m ≤ 65535
three [] e = omega arith
three (x ∷ []) e = let a = e 0 in omega arith
three (x ∷ y ∷ []) e = let a = e 0 in let b = e 1 in omega arith
three (x ∷ y ∷ s ∷ m) e = let a = e 0 in let b = e 1 in let c = e 2 in omega arith

-- two letters x of degree 1 and one s of degree 2
pub small_word : (xs ss m : List ℕ) → xs ≡ 1 ∷ 1 ∷ [] → ss ≡ 2 ∷ [] →
    ((i : ℕ) → exponent m i ≤ 7) → weighted_degree (xs ++ ss) m ≤ 65535
small_word xs ss m x s e =
    subst (λ ws. weighted_degree ws m ≤ 65535)
    (sym (ap (λ ys. ys ++ ss) x ∙ ap (λ ys. (1 ∷ 1 ∷ []) ++ ys) s)) (three m e)

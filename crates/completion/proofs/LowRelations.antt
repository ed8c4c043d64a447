-- The relations of a small degree are in front of the others.
use Rattle.std.proofs.Common.{◌≡◌, ℕ, zero, suc, ◌<◌, ◌≤◌, List, [], ◌∷◌, length, get_or, take, drop, drop-cons, sym, subst, arith}
use Rattle.std.specs.Prelude.{map, All, Contains}
use Rattle.std.proofs.lemmas.List.Elements.{All-cons, All-nil}
use Rattle.monomial_order.specs.Monomial.{Exponents}
use Rattle.monomial_order.specs.MonomialOrder.{MonomialOrder, IsIncreasing, IsMonomialOrder}
use Rattle.toric_ideal.specs.Increasing.{AreComparable, IsComparable}
use Rattle.monomial_order.specs.laws.Comparing.{degree_falls, increasing_below, increasing_tail}
use Rattle.monomial_order.specs.laws.Lists.{contains_at, contains_map}

module _ {A : Type 0} (f : A → ℕ) (d : ℕ) where
  -- one more is above the degree
  pub above_more : (xs : List A) (n : ℕ) (x : A) → n < length xs → x ≡ get_or xs n x → d < f x →
      All (λ y. d < f y) (drop (suc n) xs) → All (λ y. d < f y) (drop n xs)
  above_more xs n x l e h k =
      subst (All (λ y. d < f y)) (sym (drop-cons xs n x l)) (All-cons (λ y. d < f y) (get_or xs n x) (drop (suc n) xs) (subst (λ y. d < f y) e h) k)

module _ {A : Type 0} (O : MonomialOrder) (L : IsMonomialOrder O) (word : A → Exponents) (d : ℕ) where
  -- those before one of a small degree have small degrees
  pub low_front : (xs : List A) (n : ℕ) (x : A) → IsIncreasing O (map word xs) → n < length xs → O.degree (word (get_or xs n x)) ≤ d →
      All (λ y. O.degree (word y) ≤ d) (take (suc n) xs)
  low_front [] n x h l k = absurd (omega arith)
  low_front (y ∷ xs) zero x h l k = All-cons (λ z. O.degree (word z) ≤ d) y [] k (All-nil (λ z. O.degree (word z) ≤ d))
  low_front (y ∷ xs) (suc n) x h l k =
      let less = increasing_below O L (word y) (map word xs) h (word (get_or xs n x)) (contains_map word xs (get_or xs n x) (contains_at xs n x (omega arith))) in
      let falls = degree_falls O L (word y) (word (get_or xs n x)) less in
      All-cons (λ z. O.degree (word z) ≤ d) y (take (suc n) xs) (omega arith)
      (low_front xs n x (increasing_tail O (word y) (map word xs) h) (omega arith) k)

-- what is comparable at an index
pub comparable_at : {A : Type 0} (O : MonomialOrder) (word : A → Exponents) (xs : List A) (n : ℕ) (x : A) → AreComparable O (map word xs) → n < length xs → x ≡ get_or xs n x → IsComparable O (word x)
comparable_at O word xs n x h l e = h (word x) (contains_map word xs x (subst (λ y. Contains xs y) (sym e) (contains_at xs n x l)))

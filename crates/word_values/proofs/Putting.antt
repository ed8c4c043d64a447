-- A table after the value of a word is put in it.
use Rattle.std.proofs.Common.{◌≡◌, ℕ, zero, suc, ◌≤◌, ◌<◌, ◌⊎◌, inl, inr, refl, sym, ◌∙◌, ap, subst, List, Bool, true, false, cond, ⊎_elim, Some, arith}
use Rattle.std.specs.Prelude.{IsSome, nat_eq, sum}
use Rattle.std.proofs.lemmas.Bool.{cases_Bool, cond-true, cond-false}
use Rattle.std.proofs.lemmas.List.Sums.{sum_by-cons}
use lib.Pointwise.{pointwise, bytes_decides}
use Rattle.monomial_order.specs.Monomial.{Exponents, variable}
use Rattle.monomial_order.specs.laws.Orders.{sum-product}
use Rattle.word_laws.specs.Words.{IsSWord}
use Rattle.polynomials.specs.Polynomial.{Polynomial}
use Rattle.polynomials.specs.Subalgebra.{Presented}
use Rattle.subalgebra_laws.specs.Words.{letters}
use Rattle.word_values.specs.declared.products.Split.{Split}
use Rattle.word_values.specs.Values.{Table, IsLetter, IsReady, IsWordValue, IsKept, IsSplit, AreValues, AreWordsTo, Puts, value_in, whole, word_degree}
use Rattle.word_values.specs.laws.Letters.{product_degree}

some_injective : {A : Type 0} (x y : A) → Some x ≡ Some y → x ≡ y
some_injective x y e = cc

-- what an offer does to a table
abbrev pub Offers : {E : Type 0} → Table E → Table E → Exponents → Polynomial E → Type 0
Offers m n w v = (n ≡ m) ⊎ Puts m n w v

module _ {E : Type 0} (P : Presented E) (S : List (Polynomial E)) (m n : Table E) (w : Exponents) (v : Polynomial E) where
  -- what the new table keeps for a word
  put_cases : Puts m n w v → (u : Exponents) (x : Polynomial E) → value_in n u ≡ Some x → ((w ≡ u) × (v ≡ x)) ⊎ (value_in m u ≡ Some x)
  put_cases p u x e = ⊎_elim
      (λ y. inl ((bytes_decides w u).0 y, some_injective v x (sym (cond-true (pointwise nat_eq w u) (Some v) (value_in m u) y) ∙ (sym (p u) ∙ e))))
      (λ f. inr (sym (cond-false (pointwise nat_eq w u) (Some v) (value_in m u) f) ∙ (sym (p u) ∙ e)))
      (cases_Bool (pointwise nat_eq w u))

  pub offered_values : Offers m n w v → AreValues P S m → IsSWord (letters P S) w → ¬ IsLetter w → IsWordValue P S w v → AreValues P S n
  offered_values (inl e) h word long value = subst (AreValues P S) (sym e) h
  offered_values (inr p) h word long value = λ u x e. ⊎_elim
      (λ c. subst (λ u. IsKept P S u x) c.0 (subst (IsKept P S w) c.1 (record { word = word; long = long; value = value })))
      (λ k. h u x k) (put_cases p u x e)

  pub offered_degrees : Offers m n w v → (d : ℕ) → AreWordsTo P S d m → word_degree P S w ≤ d → AreWordsTo P S d n
  offered_degrees (inl e) d h le = subst (AreWordsTo P S d) (sym e) h
  offered_degrees (inr p) d h le = λ u x e. ⊎_elim (λ c. subst (λ u. word_degree P S u ≤ d) c.0 le) (λ k. h u x k) (put_cases p u x e)

  pub offered_stays : Offers m n w v → (u : Exponents) → IsReady m u → IsReady n u
  offered_stays (inl e) u h = subst (λ t. IsReady t u) (sym e) h
  offered_stays (inr p) u (inl l) = inl l
  offered_stays (inr p) u (inr s) = inr (subst IsSome (sym (p u)) (either (pointwise nat_eq w u)))
    where
      either : (b : Bool) → IsSome (cond b (Some v) (value_in m u))
      either true = refl
      either false = s

-- a letter alone has one letter
sum_variable : (i : ℕ) → sum (variable i) ≡ 1
sum_variable zero = refl
sum_variable (suc i) = let s = sum_by-cons (λ (y : ℕ). y) 0 (variable i) in let r = sum_variable i in omega arith

module _ {E : Type 0} (P : Presented E) (S : List (Polynomial E)) (w : Exponents) (s : Split) (h : IsSplit P S w s) where
  -- the rest is shorter, and of no greater degree
  pub rest_shorter : sum s.rest < sum w
  rest_shorter =
      let a = sum-product (variable s.letter) s.rest in
      let b : sum (whole s) ≡ sum w = ap sum h.whole_is in
      let c = sum_variable s.letter in
      omega arith

  pub rest_degree : word_degree P S s.rest ≤ word_degree P S w
  rest_degree =
      let a = product_degree P S (variable s.letter) s.rest in
      let b : word_degree P S (whole s) ≡ word_degree P S w = ap (word_degree P S) h.whole_is in
      omega arith

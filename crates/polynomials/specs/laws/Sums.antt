-- Finite sums of field elements.
use Rattle.std.proofs.Common.{◌≡◌, refl, sym, ◌∙◌, ap, List, [], ◌∷◌, ◌++◌}
use Rattle.std.specs.Prelude.{map}
use Rattle.word_field.specs.Field.{FieldOps, IsField, IsValue}
use Rattle.word_field.specs.laws.Field.{zero-plus, plus_four, zero-plus-zero, times-zero}
use Rattle.polynomials.specs.Polynomial.{total}

module _ {E : Type 0} (K : FieldOps E) (F : IsField K) where
  pub total_value : {A : Type 0} (f : A → E) (xs : List A) → IsValue K (total K f xs)
  total_value f [] = F.zero_value
  total_value f (x ∷ xs) = F.plus_value (f x) (total K f xs)

  pub zero-plus-total : {A : Type 0} (f : A → E) (xs : List A) → K.plus K.zero (total K f xs) ≡ total K f xs
  zero-plus-total f xs = zero-plus K F (total K f xs) ∙ total_value f xs

  pub total-append : {A : Type 0} (f : A → E) (xs ys : List A) → total K f (xs ++ ys) ≡ K.plus (total K f xs) (total K f ys)
  total-append f [] ys = sym (zero-plus-total f ys)
  total-append f (x ∷ xs) ys = ap (K.plus (f x)) (total-append f xs ys) ∙ sym (F.plus_assoc (f x) (total K f xs) (total K f ys))

  pub total_same : {A : Type 0} (f g : A → E) → ((x : A) → f x ≡ g x) → (xs : List A) → total K f xs ≡ total K g xs
  total_same f g h [] = refl
  total_same f g h (x ∷ xs) = ap (λ y. K.plus y (total K f xs)) (h x) ∙ ap (K.plus (g x)) (total_same f g h xs)

  pub total-map : {A B : Type 0} (f : B → E) (g : A → B) (xs : List A) → total K f (map g xs) ≡ total K (λ x. f (g x)) xs
  total-map f g [] = refl
  total-map f g (x ∷ xs) = ap (K.plus (f (g x))) (total-map f g xs)

  pub total_plus : {A : Type 0} (f g : A → E) (xs : List A) → total K (λ x. K.plus (f x) (g x)) xs ≡ K.plus (total K f xs) (total K g xs)
  total_plus f g [] = sym (zero-plus-zero K F)
  total_plus f g (x ∷ xs) =
      ap (K.plus (K.plus (f x) (g x))) (total_plus f g xs) ∙ plus_four K F (f x) (g x) (total K f xs) (total K g xs)

  pub total_zero : {A : Type 0} (xs : List A) → total K (λ (x : A). K.zero) xs ≡ K.zero
  total_zero [] = refl
  total_zero (x ∷ xs) = ap (K.plus K.zero) (total_zero xs) ∙ zero-plus-zero K F

  pub total_times : {A : Type 0} (a : E) (f : A → E) (xs : List A) → total K (λ x. K.times a (f x)) xs ≡ K.times a (total K f xs)
  total_times a f [] = sym (times-zero K F a)
  total_times a f (x ∷ xs) = ap (K.plus (K.times a (f x))) (total_times a f xs) ∙ sym (F.times_plus a (f x) (total K f xs))

  -- the order of two sums does not matter
  pub total_swap : {A B : Type 0} (f : A → B → E) (xs : List A) (ys : List B) →
      total K (λ x. total K (f x) ys) xs ≡ total K (λ y. total K (λ x. f x y) xs) ys
  total_swap f [] ys = sym (total_zero ys)
  total_swap f (x ∷ xs) ys =
      ap (K.plus (total K (f x) ys)) (total_swap f xs ys) ∙ sym (total_plus (f x) (λ y. total K (λ x'. f x' y) xs) ys)

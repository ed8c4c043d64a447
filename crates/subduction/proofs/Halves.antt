-- Front and back of a list of terms.
use Rattle.std.proofs.Common.{ℕ, zero, suc, [], ◌∷◌, take, drop}
use Rattle.word_field.specs.Field.{FieldOps}
use Rattle.monomial_order.specs.MonomialOrder.{MonomialOrder}
use Rattle.polynomials.specs.Polynomial.{Polynomial, IsPoly, IsSmall}

pub poly_take : {E : Type 0} (K : FieldOps E) (n i : ℕ) (p : Polynomial E) → IsPoly K n p → IsPoly K n (take i p)
poly_take K n zero p h = tt
poly_take K n (suc i) [] h = tt
poly_take K n (suc i) (t ∷ p) h = (h.0, poly_take K n i p h.1)

pub poly_drop : {E : Type 0} (K : FieldOps E) (n i : ℕ) (p : Polynomial E) → IsPoly K n p → IsPoly K n (drop i p)
poly_drop K n zero p h = h
poly_drop K n (suc i) [] h = tt
poly_drop K n (suc i) (t ∷ p) h = poly_drop K n i p h.1

pub small_take : {E : Type 0} (O : MonomialOrder) (i : ℕ) (p : Polynomial E) → IsSmall O p → IsSmall O (take i p)
small_take O zero p h = tt
small_take O (suc i) [] h = tt
small_take O (suc i) (t ∷ p) h = (h.0, small_take O i p h.1)

pub small_drop : {E : Type 0} (O : MonomialOrder) (i : ℕ) (p : Polynomial E) → IsSmall O p → IsSmall O (drop i p)
small_drop O zero p h = h
small_drop O (suc i) [] h = tt
small_drop O (suc i) (t ∷ p) h = small_drop O i p h.1

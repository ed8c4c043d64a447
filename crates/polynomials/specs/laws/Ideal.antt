-- The ideal is closed under sums and multiples; congruence modulo it is an equivalence that sums and products keep.
use Rattle.std.proofs.Common.{◌≡◌, ℕ, refl, sym, ◌∙◌, ap, List, [], ◌∷◌, ◌++◌, append_assoc, arith}
use Rattle.std.specs.Prelude.{map}
use Rattle.word_field.specs.Field.{FieldOps, IsField, IsValue}
use Rattle.monomial_order.specs.declared.terms.Term.{Term}
use Rattle.monomial_order.specs.laws.Monomial.{IsMonomial-product}
use Rattle.polynomials.specs.Polynomial.{Polynomial, coefficient, Same, constant, scaled, times, negated, IsTerm, IsPoly}
use Rattle.polynomials.specs.Ideal.{Multiple, AreMultiples, sum_of, InIdeal}
use Rattle.polynomials.specs.laws.Ring.{times_assoc, times_plus}
use Rattle.polynomials.specs.laws.Same.{times_same, append_same}

module _ {E : Type 0} (K : FieldOps E) (F : IsField K) where
  pub IsPoly-append : (n : ℕ) (p q : Polynomial E) → IsPoly K n p → IsPoly K n q → IsPoly K n (p ++ q)
  IsPoly-append n [] q h k = k
  IsPoly-append n (t ∷ p) q h k = (h.0, IsPoly-append n p q h.1 k)

  pub IsPoly-scaled : (n : ℕ) (t : Term E) (q : Polynomial E) → IsTerm K n t → IsPoly K n q → IsPoly K n (scaled K t q)
  IsPoly-scaled n t [] h k = tt
  IsPoly-scaled n t (u ∷ q) h k = (
    record { monomial = IsMonomial-product n t.at u.at h.monomial k.0.monomial; value = F.times_value t.by u.by },
    IsPoly-scaled n t q h k.1,
  )

  pub IsPoly-times : (n : ℕ) (p q : Polynomial E) → IsPoly K n p → IsPoly K n q → IsPoly K n (times K p q)
  IsPoly-times n [] q h k = tt
  IsPoly-times n (t ∷ p) q h k = IsPoly-append n (scaled K t q) (times K p q) (IsPoly-scaled n t q h.0 k) (IsPoly-times n p q h.1 k)

  pub IsPoly-negated : (n : ℕ) (p : Polynomial E) → IsPoly K n p → IsPoly K n (negated K p)
  IsPoly-negated n [] h = tt
  IsPoly-negated n (t ∷ p) h = (record { monomial = h.0.monomial; value = F.negate_value t.by }, IsPoly-negated n p h.1)

  pub constant_poly : (n : ℕ) (c : E) → IsValue K c → IsPoly K n (constant K c)
  constant_poly n c v = (record { monomial = record { trimmed = tt; within = omega arith }; value = v }, tt)

  pub times_nil : (p : Polynomial E) → Same K (times K p []) []
  times_nil [] m = refl
  times_nil (x ∷ p) m = times_nil p m

  -- the multiples of two lists
  AreMultiples-append : (n : ℕ) (rs : List (Polynomial E)) (v w : List (Multiple E)) → AreMultiples K n rs v → AreMultiples K n rs w → AreMultiples K n rs (v ++ w)
  AreMultiples-append n rs [] w h k = k
  AreMultiples-append n rs (x ∷ v) w h k = (h.0, h.1, AreMultiples-append n rs v w h.2 k)

  sum_of-append : (v w : List (Multiple E)) → sum_of K (v ++ w) ≡ sum_of K v ++ sum_of K w
  sum_of-append [] w = refl
  sum_of-append (x ∷ v) w = ap (λ p. times K x.by x.of ++ p) (sum_of-append v w) ∙ sym (append_assoc (times K x.by x.of) (sum_of K v) (sum_of K w))

  -- every part times a polynomial
  abbrev enlarged : Polynomial E → List (Multiple E) → List (Multiple E)
  enlarged q w = map (λ x. record { by = times K q x.by; of = x.of }) w

  AreMultiples-enlarged : (n : ℕ) (rs : List (Polynomial E)) (q : Polynomial E) (w : List (Multiple E)) → IsPoly K n q → AreMultiples K n rs w → AreMultiples K n rs (enlarged q w)
  AreMultiples-enlarged n rs q [] hq h = tt
  AreMultiples-enlarged n rs q (x ∷ w) hq h = (IsPoly-times n q x.by hq h.0, h.1, AreMultiples-enlarged n rs q w hq h.2)

  sum_of-enlarged : (q : Polynomial E) (w : List (Multiple E)) → Same K (times K q (sum_of K w)) (sum_of K (enlarged q w))
  sum_of-enlarged q [] m = times_nil q m
  sum_of-enlarged q (x ∷ w) m =
      times_plus K F q (times K x.by x.of) (sum_of K w) m ∙
      append_same K F (times K q (times K x.by x.of)) (times K (times K q x.by) x.of) (times K q (sum_of K w)) (sum_of K (enlarged q w))
      (λ n. sym (times_assoc K F q x.by x.of n)) (sum_of-enlarged q w) m

  module _ (n : ℕ) (rs : List (Polynomial E)) where
    pub InIdeal_same : (a b : Polynomial E) → Same K a b → InIdeal K n rs a → InIdeal K n rs b
    InIdeal_same a b e h = record { parts = h.parts; multiples = h.multiples; sums = λ m. sym (e m) ∙ h.sums m }

    pub InIdeal_zero : InIdeal K n rs []
    InIdeal_zero = record { parts = []; multiples = tt; sums = λ m. refl }

    pub InIdeal_plus : (a b : Polynomial E) → InIdeal K n rs a → InIdeal K n rs b → InIdeal K n rs (a ++ b)
    InIdeal_plus a b h k = record {
      parts = h.parts ++ k.parts;
      multiples = AreMultiples-append n rs h.parts k.parts h.multiples k.multiples;
      sums = λ m. append_same K F a (sum_of K h.parts) b (sum_of K k.parts) h.sums k.sums m ∙ ap (λ p. coefficient K p m) (sym (sum_of-append h.parts k.parts));
    }

    pub InIdeal_times : (q a : Polynomial E) → IsPoly K n q → InIdeal K n rs a → InIdeal K n rs (times K q a)
    InIdeal_times q a hq h = record {
      parts = enlarged q h.parts;
      multiples = AreMultiples-enlarged n rs q h.parts hq h.multiples;
      sums = λ m. times_same K F q q a (sum_of K h.parts) (λ j. refl) h.sums m ∙ sum_of-enlarged q h.parts m;
    }

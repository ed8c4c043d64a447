-- Congruence modulo an ideal is an equivalence that sums and products keep.
use Rattle.std.proofs.Common.{◌≡◌, ℕ, refl, sym, ◌∙◌, ap, List, [], ◌∷◌, ◌++◌, ◌≢◌, ◌⊎◌, inl, inr, ⊎_elim}
use Rattle.word_field.specs.Field.{FieldOps, IsField}
use Rattle.word_field.specs.laws.Field.{negate-negate, zero-plus-zero, negate-zero, negate-plus, plus_four, negate-plus_cancel, plus_is_zero, negate-times, one-times}
use Rattle.polynomials.specs.Polynomial.{Polynomial, coefficient, Same, times, negated, minus, constant, IsPoly}
use Rattle.polynomials.specs.Ideal.{InIdeal, Congruent}
use Rattle.polynomials.specs.laws.Ring.{coefficient_value, coefficient-append, times_assoc, times_plus, times_comm}
use Rattle.polynomials.specs.laws.Same.{times_same, times_same_left, append_same, coefficient-negated, minus_self}
use Rattle.polynomials.specs.laws.Value.{coefficient-constant_times}
use Rattle.polynomials.specs.laws.Ideal.{constant_poly, InIdeal_same, InIdeal_zero, InIdeal_plus, InIdeal_times, IsPoly-append, IsPoly-negated}
use Rattle.monomial_order.specs.Monomial.{Exponents}

module _ {E : Type 0} (K : FieldOps E) (F : IsField K) where
  -- a sum that is not zero has a part that is not
  pub sum_nonzero : (a b : E) → K.plus a b ≢ K.zero → (a ≢ K.zero) ⊎ (b ≢ K.zero)
  sum_nonzero a b h =
      ⊎_elim (λ z. inr (λ w. h (ap (λ x. K.plus x b) z ∙ (ap (K.plus K.zero) w ∙ zero-plus-zero K F)))) (λ n. inl n) (F.equal_or_not a K.zero)

  pub coefficient-minus : (p q : Polynomial E) (m : Exponents) → coefficient K (minus K p q) m ≡ K.plus (coefficient K p m) (K.negate (coefficient K q m))
  coefficient-minus p q m = simp (coefficient-append K F, coefficient-negated K F)

  pub minus_nonzero : (p q : Polynomial E) (m : Exponents) → coefficient K (minus K p q) m ≢ K.zero → (coefficient K p m ≢ K.zero) ⊎ (coefficient K q m ≢ K.zero)
  minus_nonzero p q m h =
      ⊎_elim (λ a. inl a) (λ b. inr (λ z. b (ap K.negate z ∙ negate-zero K F)))
      (sum_nonzero (coefficient K p m) (K.negate (coefficient K q m)) (λ z. h (coefficient-minus p q m ∙ z)))

  pub minus_poly : (n : ℕ) (a b : Polynomial E) → IsPoly K n a → IsPoly K n b → IsPoly K n (minus K a b)
  minus_poly n a b h k = IsPoly-append K F n a (negated K b) h (IsPoly-negated K F n b k)

  pub minus_same : (p p' q q' : Polynomial E) → Same K p p' → Same K q q' → Same K (minus K p q) (minus K p' q')
  minus_same p p' q q' h k m = simp (coefficient-append K F, coefficient-negated K F, h, k)

  pub negated_is : (q : Polynomial E) → Same K (negated K q) (times K (constant K (K.negate K.one)) q)
  negated_is q m = simp (coefficient-negated K F, coefficient-constant_times K F, negate-times K F, one-times K F, coefficient_value K F)

  pub times-negated : (p q : Polynomial E) → Same K (times K p (negated K q)) (negated K (times K p q))
  times-negated p q m =
      let c = constant K (K.negate K.one) in
      times_same K F p p (negated K q) (times K c q) (λ n. refl) (negated_is q) m ∙
      (sym (times_assoc K F p c q m) ∙
      (times_same_left K F (times K p c) (times K c p) q (times_comm K F p c) m ∙
      (times_assoc K F c p q m ∙ sym (negated_is (times K p q) m))))

  pub times-minus : (p q r : Polynomial E) → Same K (times K p (minus K q r)) (minus K (times K p q) (times K p r))
  times-minus p q r m =
      times_plus K F p q (negated K r) m ∙ append_same K F (times K p q) (times K p q) (times K p (negated K r)) (negated K (times K p r)) (λ n. refl) (times-negated p r) m

  pub minus-times : (p q r : Polynomial E) → Same K (times K (minus K p q) r) (minus K (times K p r) (times K q r))
  minus-times p q r m =
      times_comm K F (minus K p q) r m ∙
      (times-minus r p q m ∙ minus_same (times K r p) (times K p r) (times K r q) (times K q r) (times_comm K F r p) (times_comm K F r q) m)

  pub minus_zero : (p q : Polynomial E) → Same K (minus K p q) [] → Same K p q
  unfolding coefficient
  minus_zero p q z m =
      let e : K.plus (K.negate (coefficient K q m)) (coefficient K p m) ≡ K.zero =
      F.plus_comm (K.negate (coefficient K q m)) (coefficient K p m) ∙ (sym (coefficient-minus p q m) ∙ z m) in
      sym (coefficient_value K F p m) ∙ (plus_is_zero K F (K.negate (coefficient K q m)) (coefficient K p m) e ∙ (negate-negate K F (coefficient K q m) ∙ coefficient_value K F q m))

  -- (p - q) + (q - r) = p - r
  pub minus_chain : (p q r : Polynomial E) → Same K (minus K p q ++ minus K q r) (minus K p r)
  minus_chain p q r m = simp (coefficient-append K F, coefficient-negated K F, F.plus_assoc, negate-plus_cancel K F, F.negate_value)

  -- -(p - q) = q - p
  pub negated-minus : (p q : Polynomial E) → Same K (negated K (minus K p q)) (minus K q p)
  negated-minus p q m = simp (coefficient-append K F, coefficient-negated K F, negate-plus K F, negate-negate K F, coefficient_value K F) (F.plus_comm (K.negate (coefficient K p m)) (coefficient K q m))

  -- (p + r) - (q + s) = (p - q) + (r - s)
  pub minus-append : (p r q s : Polynomial E) → Same K (minus K (p ++ r) (q ++ s)) (minus K p q ++ minus K r s)
  minus-append p r q s m = simp (coefficient-append K F, coefficient-negated K F, negate-plus K F) (plus_four K F (coefficient K p m) (coefficient K r m) (K.negate (coefficient K q m)) (K.negate (coefficient K s m)))

  module _ (n : ℕ) (rs : List (Polynomial E)) where
    pub InIdeal_negated : (a : Polynomial E) → InIdeal K n rs a → InIdeal K n rs (negated K a)
    InIdeal_negated a h =
        InIdeal_same K F n rs (times K (constant K (K.negate K.one)) a) (negated K a) (λ m. sym (negated_is a m))
        (InIdeal_times K F n rs (constant K (K.negate K.one)) a (constant_poly K F n (K.negate K.one) (F.negate_value K.one)) h)

    pub congruent_same : (a b : Polynomial E) → Same K a b → Congruent K n rs a b
    congruent_same a b h =
        InIdeal_same K F n rs [] (minus K a b) (λ m. sym (minus_same a b b b h (λ i. refl) m ∙ minus_self K F b m)) (InIdeal_zero K F n rs)

    pub congruent_refl : (a : Polynomial E) → Congruent K n rs a a
    congruent_refl a = congruent_same a a (λ m. refl)

    pub congruent_sym : (a b : Polynomial E) → Congruent K n rs a b → Congruent K n rs b a
    congruent_sym a b h = InIdeal_same K F n rs (negated K (minus K a b)) (minus K b a) (negated-minus a b) (InIdeal_negated (minus K a b) h)

    pub congruent_trans : (a b c : Polynomial E) → Congruent K n rs a b → Congruent K n rs b c → Congruent K n rs a c
    congruent_trans a b c h k =
        InIdeal_same K F n rs (minus K a b ++ minus K b c) (minus K a c) (minus_chain a b c) (InIdeal_plus K F n rs (minus K a b) (minus K b c) h k)

    pub congruent_plus : (a b c d : Polynomial E) → Congruent K n rs a b → Congruent K n rs c d → Congruent K n rs (a ++ c) (b ++ d)
    congruent_plus a b c d h k =
        InIdeal_same K F n rs (minus K a b ++ minus K c d) (minus K (a ++ c) (b ++ d)) (λ m. sym (minus-append a c b d m))
        (InIdeal_plus K F n rs (minus K a b) (minus K c d) h k)

    pub congruent_times_left : (q a b : Polynomial E) → IsPoly K n q → Congruent K n rs a b → Congruent K n rs (times K q a) (times K q b)
    congruent_times_left q a b hq h =
        InIdeal_same K F n rs (times K q (minus K a b)) (minus K (times K q a) (times K q b)) (times-minus q a b) (InIdeal_times K F n rs q (minus K a b) hq h)

    pub congruent_times : (a b c d : Polynomial E) → IsPoly K n a → IsPoly K n d → Congruent K n rs a b → Congruent K n rs c d → Congruent K n rs (times K a c) (times K b d)
    congruent_times a b c d ha hd h k =
        congruent_trans (times K a c) (times K a d) (times K b d) (congruent_times_left a c d ha k)
        (congruent_trans (times K a d) (times K d a) (times K b d) (congruent_same (times K a d) (times K d a) (times_comm K F a d))
        (congruent_trans (times K d a) (times K d b) (times K b d) (congruent_times_left d a b hd h) (congruent_same (times K d b) (times K b d) (times_comm K F d b))))

    pub congruent_negated : (a b : Polynomial E) → Congruent K n rs a b → Congruent K n rs (negated K a) (negated K b)
    congruent_negated a b h =
        congruent_trans (negated K a) (times K (constant K (K.negate K.one)) a) (negated K b)
        (congruent_same (negated K a) (times K (constant K (K.negate K.one)) a) (negated_is a))
        (congruent_trans (times K (constant K (K.negate K.one)) a) (times K (constant K (K.negate K.one)) b) (negated K b)
        (congruent_times_left (constant K (K.negate K.one)) a b (constant_poly K F n (K.negate K.one) (F.negate_value K.one)) h)
        (congruent_same (times K (constant K (K.negate K.one)) b) (negated K b) (λ m. sym (negated_is b m))))

    -- a member of the ideal is congruent to 0
    pub congruent_member : (a : Polynomial E) → InIdeal K n rs a → Congruent K n rs a []
    congruent_member a h = InIdeal_same K F n rs a (minus K a []) (λ m. ap (λ p. coefficient K p m) (sym (Rattle.std.proofs.Common.append-nil a))) h

    pub member_congruent : (a : Polynomial E) → Congruent K n rs a [] → InIdeal K n rs a
    member_congruent a h = InIdeal_same K F n rs (minus K a []) a (λ m. ap (λ p. coefficient K p m) (Rattle.std.proofs.Common.append-nil a)) h

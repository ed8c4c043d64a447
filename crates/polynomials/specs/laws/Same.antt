-- A sum over the terms that is linear in their coefficients depends on the polynomial's coefficients alone.
use Rattle.std.proofs.Common.{◌≡◌, ℕ, zero, suc, ◌≤◌, refl, sym, ◌∙◌, ap, List, [], ◌∷◌, ◌++◌, length, Bool, true, false, cond, arith}
use lib.Pointwise.{bytes_decides}
use Rattle.word_field.specs.Field.{FieldOps, IsField, IsValue}
use Rattle.word_field.specs.laws.Field.{zero-plus, plus-reduce, reduce-plus, zero-times, times-zero, plus_four, plus_swap, plus-times, plus_is_zero, negate-times, plus_cancel, zero-plus-zero, times-reduce}
use Rattle.monomial_order.specs.declared.terms.Term.{Term}
use Rattle.monomial_order.specs.Monomial.{Exponents, product}
use Rattle.polynomials.specs.Polynomial.{Polynomial, same_monomial, total, share, coefficient, Same, term_times, times, negated, minus}
use Rattle.polynomials.specs.laws.Sums.{total_value, total-append, total_same, total_times}
use Rattle.polynomials.specs.laws.Ring.{coefficient_value, coefficient-append, coefficient-times, times_comm}

pub same_true : (m n : Exponents) → same_monomial m n ≡ true → m ≡ n
same_true m n h = (bytes_decides m n).0 h

pub same_refl : (m : Exponents) → same_monomial m m ≡ true
same_refl m = (bytes_decides m m).1 refl

-- a term's coefficient times what is put for its monomial
abbrev pub weighed : {E : Type 0} → FieldOps E → (Exponents → E) → Term E → E
weighed K g t = K.times t.by (g t.at)

-- the terms of p that are not at k
abbrev pub without : {E : Type 0} → Exponents → Polynomial E → Polynomial E
without k [] = []
without k (t ∷ p) = cond (same_monomial t.at k) (without k p) (t ∷ without k p)

length-cond : {A : Type 0} (b : Bool) (n : ℕ) (x y : List A) → length x ≤ n → length y ≤ n → length (cond b x y) ≤ n
length-cond true n x y hx hy = hx
length-cond false n x y hx hy = hy

pub length-without : {E : Type 0} (k : Exponents) (p : Polynomial E) → length (without k p) ≤ length p
length-without k [] = omega arith
length-without k (t ∷ p) =
    let ih : length (without k p) ≤ length p = length-without k p in
    length-cond (same_monomial t.at k) (length (t ∷ p)) (without k p) (t ∷ without k p) (omega arith) (omega arith)

module _ {E : Type 0} (K : FieldOps E) (F : IsField K) (g : Exponents → E) where
  -- the terms at k together, and the rest
  split_step : (b : Bool) (t : Term E) (k : Exponents) (c w r : E) (p q : Polynomial E) → (b ≡ true → t.at ≡ k) → IsValue K c → IsValue K r →
      w ≡ K.plus (K.times c (g k)) r → total K (weighed K g) q ≡ r →
      K.plus (weighed K g t) w ≡ K.plus (K.times (K.plus (cond b t.by K.zero) c) (g k)) (total K (weighed K g) (cond b q (t ∷ q)))
  split_step true t k c w r p q h vc vr e eq =
      cc (h refl, e, eq, plus-times K F t.by c (g k), F.plus_assoc (K.times t.by (g k)) (K.times c (g k)) r)
  split_step false t k c w r p q h vc vr e eq = simp (e, eq, zero-plus K F, vc) (plus_swap K F (weighed K g t) (K.times c (g k)) r)

  pub split : (k : Exponents) (p : Polynomial E) →
      total K (weighed K g) p ≡ K.plus (K.times (coefficient K p k) (g k)) (total K (weighed K g) (without k p))
  unfolding coefficient
  split k [] = sym (ap (λ x. K.plus x K.zero) (zero-times K F (g k)) ∙ zero-plus-zero K F)
  split k (t ∷ p) =
      split_step (same_monomial t.at k) t k (coefficient K p k) (total K (weighed K g) p) (total K (weighed K g) (without k p)) p (without k p)
      (same_true t.at k) (coefficient_value K F p k) (total_value K F (weighed K g) (without k p)) (split k p) refl

module _ {E : Type 0} (K : FieldOps E) (F : IsField K) where
  -- what is put for a monomial in the coefficient at m
  abbrev unit_at : Exponents → Exponents → E
  unit_at m a = cond (same_monomial a m) K.one K.zero

  share_is : (b : Bool) (c x : E) → K.plus (cond b c K.zero) x ≡ K.plus (K.times c (cond b K.one K.zero)) x
  share_is true c x = sym (reduce-plus K F c x) ∙ ap (λ y. K.plus y x) (sym (F.times_one c))
  share_is false c x = ap (λ y. K.plus y x) (sym (times-zero K F c))

  coefficient_weighed : (p : Polynomial E) (m : Exponents) → coefficient K p m ≡ total K (weighed K (unit_at m)) p
  unfolding coefficient
  coefficient_weighed [] m = refl
  coefficient_weighed (t ∷ p) m =
      share_is (same_monomial t.at m) t.by (coefficient K p m) ∙ ap (K.plus (weighed K (unit_at m) t)) (coefficient_weighed p m)

  pub without_zero : (k : Exponents) (p : Polynomial E) → ((m : Exponents) → coefficient K p m ≡ K.zero) → (m : Exponents) → coefficient K (without k p) m ≡ K.zero
  without_zero k p h m =
      let rest = total K (weighed K (unit_at m)) (without k p) in
      cc (coefficient_weighed (without k p) m, total_value K F (weighed K (unit_at m)) (without k p), zero-plus K F rest, split K F (unit_at m) k p, h k, zero-times K F (unit_at m k), coefficient_weighed p m, h m)

  without_first : (t : Term E) (p : Polynomial E) → without t.at (t ∷ p) ≡ without t.at p
  without_first t p = ap (λ b. cond b (without t.at p) (t ∷ without t.at p)) (same_refl t.at)

  -- a polynomial without nonzero coefficients weighs nothing
  weighs_nothing : (g : Exponents → E) (n : ℕ) (p : Polynomial E) → length p ≤ n → ((m : Exponents) → coefficient K p m ≡ K.zero) → total K (weighed K g) p ≡ K.zero
  weighs_nothing g n [] l h = refl
  weighs_nothing g zero (t ∷ p) l h = absurd (omega arith)
  weighs_nothing g (suc n) (t ∷ p) l h =
      let shorter : length (without t.at p) ≤ n = omega (arith, length-without t.at p) in
      let rest : (m : Exponents) → coefficient K (without t.at p) m ≡ K.zero = λ m. ap (λ q. coefficient K q m) (sym (without_first t p)) ∙ without_zero t.at (t ∷ p) h m in
      cc (split K F g t.at (t ∷ p), h t.at, zero-times K F (g t.at), without_first t p, weighs_nothing g n (without t.at p) shorter rest, zero-plus-zero K F)

  negate_share : (b : Bool) (c : E) → cond b (K.negate c) K.zero ≡ K.negate (cond b c K.zero)
  negate_share true c = refl
  negate_share false c = sym (Rattle.word_field.specs.laws.Field.negate-zero K F)

  pub coefficient-negated : (p : Polynomial E) (m : Exponents) → coefficient K (negated K p) m ≡ K.negate (coefficient K p m)
  unfolding coefficient
  coefficient-negated [] m = sym (Rattle.word_field.specs.laws.Field.negate-zero K F)
  coefficient-negated (t ∷ p) m = simp (negate_share, coefficient-negated p m, Rattle.word_field.specs.laws.Field.negate-plus K F)

  weighed-negated : (g : Exponents → E) (p : Polynomial E) → total K (weighed K g) (negated K p) ≡ K.negate (total K (weighed K g) p)
  weighed-negated g [] = sym (Rattle.word_field.specs.laws.Field.negate-zero K F)
  weighed-negated g (t ∷ p) = simp (negate-times K F, weighed-negated g p, Rattle.word_field.specs.laws.Field.negate-plus K F)

  -- a linear sum depends on the coefficients alone
  pub weighed_same : (g : Exponents → E) (p q : Polynomial E) → Same K p q → total K (weighed K g) p ≡ total K (weighed K g) q
  weighed_same g p q h =
      let zeros : (m : Exponents) → coefficient K (minus K q p) m ≡ K.zero = λ m.
      coefficient-append K F q (negated K p) m ∙
      (ap (K.plus (coefficient K q m)) (coefficient-negated p m ∙ ap K.negate (h m)) ∙ F.plus_negate (coefficient K q m)) in
      let nothing : K.plus (total K (weighed K g) q) (K.negate (total K (weighed K g) p)) ≡ K.zero =
      ap (K.plus (total K (weighed K g) q)) (sym (weighed-negated g p)) ∙
      (sym (total-append K F (weighed K g) q (negated K p)) ∙ weighs_nothing g (length (minus K q p)) (minus K q p) (omega arith) zeros) in
      sym (total_value K F (weighed K g) p) ∙
      (plus_is_zero K F (K.negate (total K (weighed K g) p)) (total K (weighed K g) p) (F.plus_comm (K.negate (total K (weighed K g) p)) (total K (weighed K g) p) ∙ F.plus_negate (total K (weighed K g) p)) ∙
      (sym (plus_is_zero K F (K.negate (total K (weighed K g) p)) (total K (weighed K g) q) (F.plus_comm (K.negate (total K (weighed K g) p)) (total K (weighed K g) q) ∙ nothing)) ∙
      total_value K F (weighed K g) q))

  -- the product with q, as a linear sum
  pub share_times : (b : Bool) (c d : E) → cond b (K.times c d) K.zero ≡ K.times c (cond b d K.zero)
  share_times true c d = refl
  share_times false c d = sym (times-zero K F c)

  abbrev beside : Polynomial E → Exponents → Exponents → E
  beside q m a = total K (λ u. cond (same_monomial (product a u.at) m) u.by K.zero) q

  times_weighed : (p q : Polynomial E) (m : Exponents) → coefficient K (times K p q) m ≡ total K (weighed K (beside q m)) p
  times_weighed p q m =
      coefficient-times K F p q m ∙
      total_same K F (λ t. total K (λ u. share K m (term_times K t u)) q) (weighed K (beside q m))
      (λ t. total_same K F (λ u. share K m (term_times K t u)) (λ u. K.times t.by (cond (same_monomial (product t.at u.at) m) u.by K.zero))
      (λ u. share_times (same_monomial (product t.at u.at) m) t.by u.by) q
      ∙ total_times K F t.by (λ u. cond (same_monomial (product t.at u.at) m) u.by K.zero) q) p

  pub times_same_left : (p p' q : Polynomial E) → Same K p p' → Same K (times K p q) (times K p' q)
  times_same_left p p' q h m = times_weighed p q m ∙ (weighed_same (beside q m) p p' h ∙ sym (times_weighed p' q m))

  pub times_same : (p p' q q' : Polynomial E) → Same K p p' → Same K q q' → Same K (times K p q) (times K p' q')
  times_same p p' q q' h k m =
      times_same_left p p' q h m ∙ (times_comm K F p' q m ∙ (times_same_left q q' p' k m ∙ times_comm K F q' p' m))

  pub append_same : (p p' q q' : Polynomial E) → Same K p p' → Same K q q' → Same K (p ++ q) (p' ++ q')
  append_same p p' q q' h k m = simp (coefficient-append K F, h, k)

  pub append_comm : (p q : Polynomial E) → Same K (p ++ q) (q ++ p)
  append_comm p q m = simp (coefficient-append K F) (F.plus_comm (coefficient K p m) (coefficient K q m))

  pub negated_same : (p q : Polynomial E) → Same K p q → Same K (negated K p) (negated K q)
  negated_same p q h m = simp (coefficient-negated, h)

  pub minus_self : (p : Polynomial E) → Same K (minus K p p) []
  unfolding coefficient
  minus_self p m = simp (coefficient-append K F, coefficient-negated, F.plus_negate)

  pub same_trans : (p q r : Polynomial E) → Same K p q → Same K q r → Same K p r
  same_trans p q r h k m = h m ∙ k m

  pub same_sym : (p q : Polynomial E) → Same K p q → Same K q p
  same_sym p q h m = sym (h m)

  -- a term with the coefficient zero adds nothing
  zero_share : (b : Bool) (c : E) → c ≡ K.zero → cond b c K.zero ≡ K.zero
  zero_share true c h = h
  zero_share false c h = refl

  pub cons_zero : (t : Term E) (p : Polynomial E) → t.by ≡ K.zero → Same K p (t ∷ p)
  unfolding coefficient
  cons_zero t p h m =
      sym (ap (λ x. K.plus x (coefficient K p m)) (zero_share (same_monomial t.at m) t.by h) ∙ (zero-plus K F (coefficient K p m) ∙ coefficient_value K F p m))

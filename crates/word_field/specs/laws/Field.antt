-- What follows from the laws of a field.
use Rattle.std.proofs.Common.{◌≡◌, ◌≢◌, sym, ◌∙◌, ap, ◌⊎◌, inl, inr, ⊎_elim}
use Rattle.word_field.specs.Field.{FieldOps, IsField, IsValue}

module _ {E : Type 0} (K : FieldOps E) (F : IsField K) where
  pub zero-plus : (a : E) → K.plus K.zero a ≡ K.reduce a
  zero-plus a = F.plus_comm K.zero a ∙ F.plus_zero a

  pub plus_swap : (a b c : E) → K.plus a (K.plus b c) ≡ K.plus b (K.plus a c)
  plus_swap a b c = sym (F.plus_assoc a b c) ∙ (ap (λ x. K.plus x c) (F.plus_comm a b) ∙ F.plus_assoc b a c)

  -- (a + b) + (c + d) = (a + c) + (b + d)
  pub plus_four : (a b c d : E) → K.plus (K.plus a b) (K.plus c d) ≡ K.plus (K.plus a c) (K.plus b d)
  plus_four a b c d = F.plus_assoc a b (K.plus c d) ∙ (ap (K.plus a) (plus_swap b c d) ∙ sym (F.plus_assoc a c (K.plus b d)))

  pub plus-reduce : (a b : E) → K.plus a (K.reduce b) ≡ K.plus a b
  plus-reduce a b = ap (K.plus a) (sym (F.plus_zero b)) ∙ (sym (F.plus_assoc a b K.zero) ∙ (F.plus_zero (K.plus a b) ∙ F.plus_value a b))

  pub reduce-plus : (a b : E) → K.plus (K.reduce a) b ≡ K.plus a b
  reduce-plus a b = F.plus_comm (K.reduce a) b ∙ (plus-reduce b a ∙ F.plus_comm b a)

  -- cancelling: a + b = a + c gives the same value of b and c
  pub negate-plus_cancel : (a b : E) → K.plus (K.negate a) (K.plus a b) ≡ K.reduce b
  negate-plus_cancel a b = sym (F.plus_assoc (K.negate a) a b) ∙ (ap (λ x. K.plus x b) (F.plus_comm (K.negate a) a ∙ F.plus_negate a) ∙ zero-plus b)

  pub plus_cancel : (a b c : E) → K.plus a b ≡ K.plus a c → K.reduce b ≡ K.reduce c
  plus_cancel a b c h = sym (negate-plus_cancel a b) ∙ (ap (K.plus (K.negate a)) h ∙ negate-plus_cancel a c)

  pub reduce_zero : K.reduce K.zero ≡ K.zero
  reduce_zero = F.zero_value

  pub zero-plus-zero : K.plus K.zero K.zero ≡ K.zero
  zero-plus-zero = zero-plus K.zero ∙ F.zero_value

  pub times-zero : (a : E) → K.times a K.zero ≡ K.zero
  times-zero a =
      sym (F.times_value a K.zero) ∙
      (plus_cancel (K.times a K.zero) (K.times a K.zero) K.zero
      (sym (F.times_plus a K.zero K.zero) ∙ (ap (K.times a) zero-plus-zero ∙ sym (F.plus_zero (K.times a K.zero) ∙ F.times_value a K.zero)))
      ∙ F.zero_value)

  pub zero-times : (a : E) → K.times K.zero a ≡ K.zero
  zero-times a = F.times_comm K.zero a ∙ times-zero a

  pub one-times : (a : E) → K.times K.one a ≡ K.reduce a
  one-times a = F.times_comm K.one a ∙ F.times_one a

  pub plus-times : (a b c : E) → K.times (K.plus a b) c ≡ K.plus (K.times a c) (K.times b c)
  plus-times a b c = F.times_comm (K.plus a b) c ∙ (F.times_plus c a b ∙ (ap (λ x. K.plus x (K.times c b)) (F.times_comm c a) ∙ ap (K.plus (K.times a c)) (F.times_comm c b)))

  pub times-reduce : (a b : E) → K.times a (K.reduce b) ≡ K.times a b
  times-reduce a b = ap (K.times a) (sym (F.times_one b)) ∙ (sym (F.times_assoc a b K.one) ∙ (F.times_one (K.times a b) ∙ F.times_value a b))

  pub reduce-times : (a b : E) → K.times (K.reduce a) b ≡ K.times a b
  reduce-times a b = F.times_comm (K.reduce a) b ∙ (times-reduce b a ∙ F.times_comm b a)

  pub times_swap : (a b c : E) → K.times a (K.times b c) ≡ K.times b (K.times a c)
  times_swap a b c = sym (F.times_assoc a b c) ∙ (ap (λ x. K.times x c) (F.times_comm a b) ∙ F.times_assoc b a c)

  -- the negative is the product with -1
  pub plus_is_zero : (a b : E) → K.plus a b ≡ K.zero → K.reduce b ≡ K.negate a
  plus_is_zero a b h = plus_cancel a b (K.negate a) (h ∙ sym (F.plus_negate a)) ∙ F.negate_value a

  pub times-negate : (a b : E) → K.times a (K.negate b) ≡ K.negate (K.times a b)
  times-negate a b =
      sym (F.times_value a (K.negate b)) ∙
      plus_is_zero (K.times a b) (K.times a (K.negate b)) (sym (F.times_plus a b (K.negate b)) ∙ (ap (K.times a) (F.plus_negate b) ∙ times-zero a))

  pub negate-times : (a b : E) → K.times (K.negate a) b ≡ K.negate (K.times a b)
  negate-times a b = F.times_comm (K.negate a) b ∙ (times-negate b a ∙ ap K.negate (F.times_comm b a))

  pub negate-plus : (a b : E) → K.negate (K.plus a b) ≡ K.plus (K.negate a) (K.negate b)
  negate-plus a b =
      sym (plus_is_zero (K.plus a b) (K.plus (K.negate a) (K.negate b))
      (plus_four a b (K.negate a) (K.negate b) ∙ (ap (λ x. K.plus x (K.plus b (K.negate b))) (F.plus_negate a) ∙ (ap (K.plus K.zero) (F.plus_negate b) ∙ zero-plus-zero))))
      ∙ F.plus_value (K.negate a) (K.negate b)

  pub negate-zero : K.negate K.zero ≡ K.zero
  negate-zero = sym (plus_is_zero K.zero K.zero zero-plus-zero) ∙ F.zero_value

  -- a field has no divisors of zero
  pub times_not_zero : (a b : E) → K.reduce a ≢ K.zero → K.reduce b ≢ K.zero → K.times a b ≢ K.zero
  times_not_zero a b ha hb h =
      let i = F.inverse a ha in
      hb (sym (one-times b) ∙ (ap (λ x. K.times x b) (sym i.1 ∙ F.times_comm a i.0) ∙ (F.times_assoc i.0 a b ∙ (ap (K.times i.0) h ∙ times-zero i.0))))

  -- a product by an inverse of a takes a away
  inverse-times : (a b i : E) → K.times a i ≡ K.one → K.times i (K.times a b) ≡ K.reduce b
  inverse-times a b i h = sym (F.times_assoc i a b) ∙ (ap (λ x. K.times x b) (F.times_comm i a ∙ h) ∙ one-times b)

  pub times_cancel : (a b c : E) → K.reduce a ≢ K.zero → K.times a b ≡ K.times a c → K.reduce b ≡ K.reduce c
  times_cancel a b c ha h =
      let i = F.inverse a ha in
      sym (inverse-times a b i.0 i.1) ∙ (ap (K.times i.0) h ∙ inverse-times a c i.0 i.1)

  pub times_is_zero : (a b : E) → K.times a b ≡ K.zero → (K.reduce a ≡ K.zero) ⊎ (K.reduce b ≡ K.zero)
  times_is_zero a b h = ⊎_elim (λ e. inl e) (λ ne. inr (other (F.inverse a ne))) (F.equal_or_not (K.reduce a) K.zero)
    where
      other : (i : E) × (K.times a i ≡ K.one) → K.reduce b ≡ K.zero
      other i = sym (inverse-times a b i.0 i.1) ∙ (ap (K.times i.0) h ∙ times-zero i.0)

  pub inverse_unique : (a b c : E) → K.times a b ≡ K.one → K.times a c ≡ K.one → K.reduce b ≡ K.reduce c
  inverse_unique a b c hb hc = sym (F.times_one b) ∙ (ap (K.times b) (sym hc) ∙ inverse-times a c b hb)

  pub negate-negate : (a : E) → K.negate (K.negate a) ≡ K.reduce a
  negate-negate a = sym (plus_is_zero (K.negate a) a (F.plus_comm (K.negate a) a ∙ F.plus_negate a))

  pub negate-reduce : (a : E) → K.negate (K.reduce a) ≡ K.negate a
  negate-reduce a =
      sym (F.negate_value (K.reduce a)) ∙
      plus_is_zero a (K.negate (K.reduce a)) (sym (reduce-plus a (K.negate (K.reduce a))) ∙ F.plus_negate (K.reduce a))

  pub word_unique : (a b : E) → IsValue K a → IsValue K b → K.word a ≡ K.word b → a ≡ b
  word_unique a b va vb h = sym (F.of_word_word a va) ∙ (ap K.of_word h ∙ F.of_word_word b vb)

-- The canonical form of a polynomial is unique.
use Rattle.std.proofs.Common.{◌≡◌, refl, sym, ◌∙◌, ap, subst, [], ◌∷◌, cond, true, false}
use Rattle.std.specs.declared.cmp.Ordering.TheVariants.{Less, Equal, Greater}
use Rattle.word_field.specs.Field.{FieldOps, IsField}
use Rattle.word_field.specs.laws.Field.{zero-plus, plus_cancel}
use Rattle.monomial_order.specs.declared.terms.Term.{Term}
use Rattle.monomial_order.specs.MonomialOrder.{MonomialOrder, IsMonomialOrder}
use Rattle.polynomials.specs.Polynomial.{Polynomial, same_monomial, share, coefficient, Same, term_of, IsPoly, IsBelow, IsLeadTerm, IsDecreasing, IsLead}
use Rattle.polynomials.specs.laws.Ring.{coefficient_value}
use Rattle.polynomials.specs.laws.Same.{same_true, same_refl}
use Rattle.monomial_order.specs.laws.Comparing.{not_below_self, greater_less}
use Rattle.monomial_order.specs.Monomial.{Exponents}

pub IsDecreasing_IsPoly : {E : Type 0} (K : FieldOps E) (O : MonomialOrder) (p : Polynomial E) → IsDecreasing K O p → IsPoly K O.places p
IsDecreasing_IsPoly K O [] h = tt
IsDecreasing_IsPoly K O (t ∷ p) h = (h.0.term, IsDecreasing_IsPoly K O p h.1)

module _ (O : MonomialOrder) (L : IsMonomialOrder O) where
  pub below_differs : (m n : Exponents) → O.compare m n ≡ Less → same_monomial m n ≡ false
  below_differs m n h = elim (same_monomial m n) as (λ b. same_monomial m n ≡ b → b ≡ false) [
    | true ↦ λ e. absurd (not_below_self O L n (subst (λ k. O.compare k n ≡ Less) (same_true m n e) h))
    | false ↦ λ e. refl
  ] refl

module _ {E : Type 0} (K : FieldOps E) (F : IsField K) (O : MonomialOrder) (L : IsMonomialOrder O) where
  pub IsBelow_trans : (m n : Exponents) (p : Polynomial E) → O.compare m n ≡ Less → IsBelow K O m p → IsBelow K O n p
  IsBelow_trans m n [] h k = tt
  IsBelow_trans m n (t ∷ p) h k = (L.total.trans t.at m n k.0 h, IsBelow_trans m n p h k.1)

  pub coefficient_below : (m : Exponents) (p : Polynomial E) → IsBelow K O m p → coefficient K p m ≡ K.zero
  unfolding coefficient
  coefficient_below m [] h = refl
  coefficient_below m (t ∷ p) h =
      ap (λ b. K.plus (cond b t.by K.zero) (coefficient K p m)) (below_differs O L t.at m h.0) ∙
      (ap (K.plus K.zero) (coefficient_below m p h.1) ∙ Rattle.word_field.specs.laws.Field.zero-plus-zero K F)

  pub coefficient_first : (t : Term E) (p : Polynomial E) → IsLeadTerm K O t p → coefficient K (t ∷ p) t.at ≡ t.by
  unfolding coefficient
  coefficient_first t p h =
      ap (λ b. K.plus (cond b t.by K.zero) (coefficient K p t.at)) (same_refl t.at) ∙
      (ap (K.plus t.by) (coefficient_below t.at p h.above) ∙ (F.plus_zero t.by ∙ h.term.value))

  -- the coefficient of a monomial above all terms
  pub coefficient_above : (t : Term E) (p : Polynomial E) (m : Exponents) → O.compare t.at m ≡ Less → IsLeadTerm K O t p → coefficient K (t ∷ p) m ≡ K.zero
  coefficient_above t p m h k = coefficient_below m (t ∷ p) (h, IsBelow_trans t.at m p h k.above)

  tail_same : (t : Term E) (p q : Polynomial E) → Same K (t ∷ p) (t ∷ q) → Same K p q
  unfolding coefficient
  tail_same t p q h m =
      sym (coefficient_value K F p m) ∙ (plus_cancel K F (share K m t) (coefficient K p m) (coefficient K q m) (h m) ∙ coefficient_value K F q m)

  pub IsDecreasing_unique : (p q : Polynomial E) → IsDecreasing K O p → IsDecreasing K O q → Same K p q → p ≡ q
  unfolding coefficient
  IsDecreasing_unique [] [] hp hq h = refl
  IsDecreasing_unique [] (u ∷ q) hp hq h = absurd (hq.0.nonzero (sym (coefficient_first u q hq.0) ∙ sym (h u.at)))
  IsDecreasing_unique (t ∷ p) [] hp hq h = absurd (hp.0.nonzero (sym (coefficient_first t p hp.0) ∙ h t.at))
  IsDecreasing_unique (t ∷ p) (u ∷ q) hp hq h =
      elim (O.compare t.at u.at) as (λ o. O.compare t.at u.at ≡ o → t ∷ p ≡ u ∷ q) [
        | Less ↦ λ e. absurd (hq.0.nonzero (sym (coefficient_first u q hq.0) ∙ (sym (h u.at) ∙ coefficient_above t p u.at e hp.0)))
        | Greater ↦ λ e. absurd (hp.0.nonzero (sym (coefficient_first t p hp.0) ∙ (h t.at ∙ coefficient_above u q t.at (greater_less O L t.at u.at e) hq.0)))
        | Equal ↦ λ e.
            let at : t.at ≡ u.at = L.equal t.at u.at e in
            let by : t.by ≡ u.by = sym (coefficient_first t p hp.0) ∙ (h t.at ∙ (ap (λ m. coefficient K (u ∷ q) m) at ∙ coefficient_first u q hq.0)) in
            let same : t ≡ u = ap (λ m. term_of m t.by) at ∙ ap (term_of u.at) by in
            ap (λ x. x ∷ p) same ∙ ap (λ r. u ∷ r) (IsDecreasing_unique p q hp.1 hq.1 (tail_same u p q (subst (λ x. Same K (x ∷ p) (u ∷ q)) same h)))
      ] refl

  -- the lead of a decreasing list
  pub IsLead_first : (t : Term E) (p : Polynomial E) → IsDecreasing K O (t ∷ p) → IsLead K O (t ∷ p) t.at
  unfolding coefficient
  IsLead_first t p h = record {
    nonzero = λ e. h.0.nonzero (sym (coefficient_first t p h.0) ∙ e);
    greatest = λ n hn ne. elim (O.compare n t.at) as (λ o. O.compare n t.at ≡ o → O.compare n t.at ≡ Less) [
      | Less ↦ λ e. e
      | Equal ↦ λ e. absurd (ne (L.equal n t.at e))
      | Greater ↦ λ e. absurd (hn (coefficient_above t p n (greater_less O L n t.at e) h.0))
    ] refl;
  }

  -- a polynomial has one lead at most
  pub IsLead_unique : (p : Polynomial E) (m n : Exponents) → IsLead K O p m → IsLead K O p n → m ≡ n
  IsLead_unique p m n h k =
      elim (O.compare m n) as (λ o. O.compare m n ≡ o → m ≡ n) [
        | Equal ↦ λ e. L.equal m n e
        | Less ↦ λ e. absurd (clash m n e (h.greatest n k.nonzero (λ q. not_below_self O L n (subst (λ x. O.compare x n ≡ Less) (sym q) e))))
        | Greater ↦ λ e. absurd (clash n m (greater_less O L m n e) (k.greatest m h.nonzero (λ q. not_below_self O L m (subst (λ x. O.compare x m ≡ Less) (sym q) (greater_less O L m n e)))))
      ] refl
    where
      clash : (a b : Exponents) → O.compare a b ≡ Less → O.compare b a ≡ Less → ⊥
      clash a b p q = not_below_self O L a (L.total.trans a b a p q)

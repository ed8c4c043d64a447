-- What the calls on polynomials rest on.
use Rattle.std.proofs.Common.{◌≡◌, ◌≢◌, ℕ, zero, suc, ◌<◌, ◌≤◌, refl, sym, ◌∙◌, ap, subst, List, [], ◌∷◌, ◌++◌, length, get_or, cond, Bool, true, false, inr, ⊎_elim, append-nil, arith}
use Rattle.std.specs.Prelude.{All}
use Rattle.std.proofs.lemmas.Bool.{true≢false}
use Rattle.std.specs.declared.cmp.Ordering.TheVariants.{Less, Equal, Greater}
use Rattle.word_field.specs.Field.{FieldOps, IsField, IsValue}
use Rattle.word_field.specs.laws.Field.{zero-times, times-zero, zero-plus-zero, one-times, negate-zero, negate-negate}
use Rattle.monomial_order.specs.declared.terms.Term.{Term}
use Rattle.monomial_order.specs.MonomialOrder.{MonomialOrder, IsMonomialOrder}
use Rattle.monomial_order.specs.laws.Comparing.{degree_falls, greater_less, degree_one}
use Rattle.polynomials.specs.Polynomial.{Polynomial, same_monomial, coefficient, Same, term_of, scaled, negated, minus, constant, first_coefficient, AllAt, IsCanonical, IsDecreasing, IsZeroOrHomogeneous, IsDegree}
use Rattle.polynomials.specs.laws.Ring.{coefficient_value}
use Rattle.polynomials.specs.laws.Same.{append_same}
use Rattle.polynomials.specs.laws.Value.{coefficient-scaled}
use Rattle.polynomials.specs.laws.Congruence.{negated_is}
use Rattle.polynomials.specs.laws.Decreasing.{coefficient_first, coefficient_above}
use Rattle.polynomials.specs.laws.Degrees.{decreasing_all, all_found}

-- each item, and each term's monomial
all_monomials : {E : Type 0} (P : List ℕ → Type 0) (p : Polynomial E) → All (λ t. P t.at) p → AllAt P p
all_monomials P [] h = tt
all_monomials P (t ∷ p) h = (h zero t (omega arith), all_monomials P p (λ k d l. h (suc k) d (omega arith)))

monomial_at : {E : Type 0} (P : List ℕ → Type 0) (p : Polynomial E) (i : ℕ) (t : Term E) → AllAt P p → i < length p → t ≡ get_or p i t → P t.at
monomial_at P [] i t h l e = absurd (omega arith)
monomial_at P (u ∷ p) zero t h l e = subst (λ x. P x.at) (sym e) h.0
monomial_at P (u ∷ p) (suc i) t h l e = monomial_at P p i t h.1 (omega arith) e

module _ {E : Type 0} (K : FieldOps E) (F : IsField K) where
  pub negate_one_not_zero : K.negate K.one ≢ K.zero
  negate_one_not_zero h = F.one_not_zero (sym F.one_value ∙ (sym (negate-negate K F K.one) ∙ (ap K.negate h ∙ negate-zero K F)))

  -- the difference as a sum with the multiple by -1
  pub difference : (a b r : Polynomial E) → Same K r (a ++ scaled K (term_of [] (K.negate K.one)) b) → Same K r (minus K a b)
  difference a b r h m =
      h m ∙ append_same K F a a (scaled K (term_of [] (K.negate K.one)) b) (negated K b) (λ n. refl)
      (λ n. ap (λ x. coefficient K x n) (sym (append-nil (scaled K (term_of [] (K.negate K.one)) b))) ∙ sym (negated_is K F b n)) m

  -- a multiple by zero is zero
  pub zero_multiple : (c : E) → c ≡ K.zero → (a : Polynomial E) (m : List ℕ) → coefficient K [] m ≡ K.times c (coefficient K a m)
  unfolding coefficient
  zero_multiple c z a m = sym (ap (λ x. K.times x (coefficient K a m)) z ∙ zero-times K F (coefficient K a m))

  pub zero_scaled : (k : List ℕ) (c : E) → c ≡ K.zero → (a : Polynomial E) → Same K [] (scaled K (term_of k c) a)
  unfolding coefficient
  zero_scaled k c z [] m = refl
  zero_scaled k c z (t ∷ a) m =
      sym (ap (λ x. K.plus x (coefficient K (scaled K (term_of k c) a) m)) (nothing (same_monomial (Rattle.monomial_order.specs.Monomial.product k t.at) m)) ∙
      (ap (K.plus K.zero) (sym (zero_scaled k c z a m)) ∙ zero-plus-zero K F))
    where
      nothing : (b : Bool) → cond b (K.times c t.by) K.zero ≡ K.zero
      nothing true = ap (λ x. K.times x t.by) z ∙ zero-times K F t.by
      nothing false = refl

  -- the multiple by an inverse of the first coefficient
  pub inverse_not_zero : (a b : E) → K.times a b ≡ K.one → b ≢ K.zero
  inverse_not_zero a b h z = F.one_not_zero (sym h ∙ (ap (K.times a) z ∙ times-zero K F a))

  pub divided : (c inverse : E) (a : Polynomial E) → K.times c inverse ≡ K.one → (m : List ℕ) →
      coefficient K a m ≡ K.times c (coefficient K (scaled K (term_of [] inverse) a) m)
  divided c inverse a h m =
      sym (ap (K.times c) (coefficient-scaled K F inverse a m) ∙
      (sym (F.times_assoc c inverse (coefficient K a m)) ∙
      (ap (λ x. K.times x (coefficient K a m)) h ∙ (one-times K F (coefficient K a m) ∙ coefficient_value K F a m))))

  pub zero_divided : (a r : Polynomial E) → a ≡ [] → r ≡ [] → (m : List ℕ) → coefficient K a m ≡ K.times (first_coefficient K a) (coefficient K r m)
  unfolding coefficient
  zero_divided a r ea er m =
      ap (λ x. coefficient K x m) ea ∙
      sym (ap (λ x. K.times (first_coefficient K x) (coefficient K r m)) ea ∙ zero-times K F (coefficient K r m))

  module _ (O : MonomialOrder) (L : IsMonomialOrder O) where
    first_nonzero : (t : Term E) (p : Polynomial E) → IsDecreasing K O (t ∷ p) → coefficient K (t ∷ p) t.at ≢ K.zero
    first_nonzero t p h e = h.0.nonzero (sym (coefficient_first K F O L t p h.0) ∙ e)

    -- the first term has the greatest degree
    pub first_degree : (a : Polynomial E) (t : Term E) (rest : Polynomial E) → a ≡ t ∷ rest → IsDecreasing K O a → IsDegree K O (O.degree t.at) a
    first_degree a t rest e h = subst (IsDegree K O (O.degree t.at)) (sym e) (of_list (subst (IsDecreasing K O) e h))
      where
        of_list : IsDecreasing K O (t ∷ rest) → IsDegree K O (O.degree t.at) (t ∷ rest)
        of_list f = record {
          some = (t.at, first_nonzero t rest f, refl);
          greatest = λ m n. elim (O.compare m t.at) as (λ o. O.compare m t.at ≡ o → O.degree m ≤ O.degree t.at) [
            | Less ↦ λ c. degree_falls O L m t.at c
            | Equal ↦ λ c. let same : O.degree m ≡ O.degree t.at = ap O.degree (L.equal m t.at c) in omega arith
            | Greater ↦ λ c. absurd (n (coefficient_above K F O L t rest m (greater_less O L m t.at c) f.0))
          ] refl;
        }

    -- all terms have the degree of the first
    pub one_degree : (a : Polynomial E) (t : Term E) (rest : Polynomial E) (d : ℕ) → a ≡ t ∷ rest → IsDecreasing K O a → All (λ u. O.degree u.at ≡ d) a → IsZeroOrHomogeneous K O a
    one_degree a t rest d e h k = inr (
      d,
      record {
        some = (t.at, subst (λ x. coefficient K x t.at ≢ K.zero) (sym e) (first_nonzero t rest (subst (IsDecreasing K O) e h)));
        each = all_found K F O L (λ m. O.degree m ≡ d) a (all_monomials (λ m. O.degree m ≡ d) a k);
      },
    )

    pub two_degrees : (a : Polynomial E) (t : Term E) (rest : Polynomial E) (i : ℕ) (u : Term E) → a ≡ t ∷ rest → IsDecreasing K O a → i < length a → u ≡ get_or a i u →
        O.degree u.at ≢ O.degree t.at → IsZeroOrHomogeneous K O a → ⊥
    unfolding coefficient
    two_degrees a t rest i u e h l is n z =
        ⊎_elim
        (λ s. first_found (s t.at))
        (λ w. let all : AllAt (λ m. O.degree m ≡ w.0) a = decreasing_all K F O L (λ m. O.degree m ≡ w.0) a h w.1.each in
        n (monomial_at (λ m. O.degree m ≡ w.0) a i u all l is ∙ sym (w.1.each t.at first_found)))
        z
      where
        first_found : coefficient K a t.at ≢ K.zero
        first_found = subst (λ x. coefficient K x t.at ≢ K.zero) (sym e) (first_nonzero t rest (subst (IsDecreasing K O) e h))

-- a constant
pub canonical_constant : {E : Type 0} (K : FieldOps E) (O : MonomialOrder) → IsMonomialOrder O → (c : E) → IsValue K c → c ≢ K.zero → IsCanonical K O (constant K c)
canonical_constant K O L c v n = record {
  decreasing = (record { term = record { monomial = record { trimmed = tt; within = omega arith }; value = v }; nonzero = n; above = tt }, tt);
  small = (let z = degree_one O L in omega arith, tt);
}

pub zero_constant : {E : Type 0} (K : FieldOps E) → IsField K → (c : E) → c ≡ K.zero → Same K [] (constant K c)
unfolding coefficient
zero_constant K F c z m = sym (ap (λ x. K.plus x K.zero) (share (same_monomial [] m)) ∙ zero-plus-zero K F)
  where
    share : (b : Bool) → cond b c K.zero ≡ K.zero
    share true = z
    share false = refl

-- what follows from a test by `==`
pub told_unequal : (b e : Bool) → b ≡ false → b ≡ e → e ≡ true → ⊥
told_unequal b e h k r = true≢false (sym r ∙ (sym k ∙ h))

-- Polynomials alone: which coefficients of sums, multiples and components are nonzero, and their leads.
use Rattle.std.proofs.Common.{◌≡◌, ◌≢◌, ℕ, refl, sym, ◌∙◌, ap, subst, List, [], ◌∷◌, ⊎_elim, true, false}
use Rattle.std.specs.declared.cmp.Ordering.TheVariants.{Less}
use Rattle.word_field.specs.Field.{FieldOps, IsField, IsValue}
use Rattle.word_field.specs.laws.Field.{times-zero, negate-zero, negate-negate}
use Rattle.monomial_order.specs.declared.terms.Term.{Term}
use Rattle.monomial_order.specs.Monomial.{product}
use Rattle.monomial_order.specs.MonomialOrder.{MonomialOrder, IsMonomialOrder}
use Rattle.monomial_order.specs.laws.Comparing.{not_below_self, equal_or_not}
use Rattle.polynomials.specs.Polynomial.{Polynomial, same_monomial, coefficient, scaled, times, negated, minus, constant, AllAt, IsLead}
use Rattle.polynomials.specs.laws.Ring.{coefficient_value}
use Rattle.polynomials.specs.laws.Same.{same_true, coefficient-negated}
use Rattle.polynomials.specs.laws.Value.{coefficient-constant_times}
use Rattle.polynomials.specs.laws.Coefficients.{minus_nonzero, no_coefficient}
use Rattle.polynomials.specs.laws.Terms.{AllAt-append, AllAt-map}
use Rattle.polynomials.specs.laws.Congruence.{coefficient-minus}

-- different monomials are not the same
pub same_false : (m n : List ℕ) → m ≢ n → same_monomial m n ≡ false
same_false m n h = elim (same_monomial m n) as (λ b. same_monomial m n ≡ b → b ≡ false) [ true ↦ λ e. absurd (h (same_true m n e)) | false ↦ λ e. refl ] refl

module _ {E : Type 0} (K : FieldOps E) where
  pub AllAt-scaled : (Q : List ℕ → Type 0) (t : Term E) (p : Polynomial E) → AllAt (λ m. Q (product t.at m)) p → AllAt Q (scaled K t p)
  AllAt-scaled Q t [] h = tt
  AllAt-scaled Q t (u ∷ p) h = (h.0, AllAt-scaled Q t p h.1)

  -- what holds of the products of the monomials holds of the product
  pub AllAt-times : (A B Q : List ℕ → Type 0) → ((m n : List ℕ) → A m → B n → Q (product m n)) → (p q : Polynomial E) → AllAt A p → AllAt B q → AllAt Q (times K p q)
  AllAt-times A B Q f [] q h k = tt
  AllAt-times A B Q f (t ∷ p) q h k =
      AllAt-append Q (scaled K t q) (times K p q) (AllAt-scaled Q t q (AllAt-map B (λ n. Q (product t.at n)) (λ n. f t.at n h.0) q k)) (AllAt-times A B Q f p q h.1 k)

module _ {E : Type 0} (K : FieldOps E) (F : IsField K) where
  pub negated_nonzero : (p : Polynomial E) (m : List ℕ) → coefficient K (negated K p) m ≢ K.zero → coefficient K p m ≢ K.zero
  negated_nonzero p m h z = h (coefficient-negated K F p m ∙ (ap K.negate z ∙ negate-zero K F))

  pub multiple_nonzero : (c : E) (p : Polynomial E) (m : List ℕ) → coefficient K (times K (constant K c) p) m ≢ K.zero → coefficient K p m ≢ K.zero
  multiple_nonzero c p m h z = h (coefficient-constant_times K F c p m ∙ (ap (K.times c) z ∙ times-zero K F c))

  -- the factor that takes b to a
  pub cancelling : (a b : E) → IsValue K a → b ≢ K.zero → IsValue K b → (f : E) × IsValue K f × (K.times f b ≡ a)
  cancelling a b va nb vb =
      let i = F.inverse b (λ z. nb (sym vb ∙ z)) in
      (K.times a i.0, F.times_value a i.0, F.times_assoc a i.0 b ∙ (ap (K.times a) (F.times_comm i.0 b ∙ i.1) ∙ (F.times_one a ∙ va)))

module _ {E : Type 0} (K : FieldOps E) (F : IsField K) (O : MonomialOrder) (L : IsMonomialOrder O) where
  pub lead_negated : (p : Polynomial E) (m : List ℕ) → IsLead K O p m → IsLead K O (negated K p) m
  lead_negated p m h = record {
    nonzero = λ z. h.nonzero (sym (negate-negate K F (coefficient K p m) ∙ coefficient_value K F p m) ∙ (ap K.negate (sym (coefficient-negated K F p m) ∙ z) ∙ negate-zero K F));
    greatest = λ n c ne. h.greatest n (negated_nonzero K F p n c) ne;
  }

  -- what is below the lead of p or at it is below all that is above the lead
  pub below_lead : (p : Polynomial E) (m k : List ℕ) → IsLead K O p m → O.compare m k ≡ Less → (n : List ℕ) → coefficient K p n ≢ K.zero → O.compare n k ≡ Less
  below_lead p m k h lt n c =
      ⊎_elim (λ e. subst (λ x. O.compare x k ≡ Less) (sym e) lt) (λ ne. L.total.trans n m k (h.greatest n c ne) lt) (equal_or_not n m)

  pub above_lead : (p : Polynomial E) (m k : List ℕ) → IsLead K O p m → O.compare m k ≡ Less → coefficient K p k ≡ K.zero
  above_lead p m k h lt = no_coefficient K F p k (λ c. not_below_self O L k (below_lead p m k h lt k c))

  -- a multiple taken away so that the leads cancel
  pub lowered : (a b : Polynomial E) (m : List ℕ) (f : E) → IsLead K O a m → IsLead K O b m → K.times f (coefficient K b m) ≡ coefficient K a m →
      (n : List ℕ) → coefficient K (minus K a (times K (constant K f) b)) n ≢ K.zero → O.compare n m ≡ Less
  lowered a b m f la lb e n k =
      ⊎_elim
      (λ same. absurd (k (ap (coefficient K (minus K a (times K (constant K f) b))) same ∙ simp (coefficient-minus K F, coefficient-constant_times K F f b m, e, F.plus_negate))))
      (λ ne. ⊎_elim (λ na. la.greatest n na ne) (λ nb. lb.greatest n (multiple_nonzero K F f b n nb) ne) (minus_nonzero K F a (times K (constant K f) b) n k))
      (equal_or_not n m)

-- Coefficients and leads of single terms, sums and differences, and what a decreasing list says of them.
use Rattle.std.proofs.Common.{◌≡◌, ◌≢◌, ℕ, zero, suc, ◌<◌, ◌≤◌, List, length, get_or, append-nil, refl, sym, ◌∙◌, ap, [], ◌∷◌, ◌++◌, ◌⊎◌, ⊎_elim, cond, true, false, arith}
use Rattle.std.specs.declared.cmp.Ordering.TheVariants.{Less}
use Rattle.word_field.specs.Field.{FieldOps, IsField}
use Rattle.word_field.specs.laws.Field.{zero-plus-zero}
use Rattle.monomial_order.specs.declared.terms.Term.{Term}
use Rattle.monomial_order.specs.Monomial.{Exponents, product, IsMonomial, variable}
use Rattle.monomial_order.specs.MonomialOrder.{MonomialOrder, IsMonomialOrder}
use Rattle.monomial_order.specs.laws.Comparing.{not_below_self, degree_falls}
use Rattle.polynomials.specs.Polynomial.{Polynomial, same_monomial, coefficient, Same, term_of, scaled, times, minus, constant, IsTerm, IsPoly, IsBelow, IsLead, IsSmall, IsDecreasing, lead_monomial}
use Rattle.polynomials.specs.laws.Ring.{coefficient_value, coefficient-append, times_comm}
use Rattle.polynomials.specs.laws.Same.{same_true, append_comm, coefficient-negated}
use Rattle.polynomials.specs.laws.Value.{one_times}
use Rattle.polynomials.specs.laws.Canonical.{IsLead_same}
use Rattle.polynomials.specs.laws.Degrees.{all_found}
use Rattle.polynomials.specs.laws.Decreasing.{IsDecreasing_IsPoly, IsLead_first, IsLead_unique}
use Rattle.polynomials.specs.Value.{monomial_value, value}
use Rattle.polynomials.specs.laws.Terms.{scaled_below, poly_monomials}
pub use Rattle.polynomials.specs.laws.Ideal.{constant_poly}
pub use Rattle.polynomials.specs.laws.Congruence.{sum_nonzero, minus_nonzero, minus_poly}

pub nothing_at : {E : Type 0} (K : FieldOps E) (m : Exponents) → K.zero ≡ coefficient K [] m
unfolding coefficient
nothing_at K m = refl

module _ {E : Type 0} (K : FieldOps E) (F : IsField K) where
  -- a coefficient that is not nonzero is zero
  pub no_coefficient : (p : Polynomial E) (m : Exponents) → (coefficient K p m ≢ K.zero → ⊥) → coefficient K p m ≡ K.zero
  no_coefficient p m h = ⊎_elim (λ z. z) (λ n. absurd (h n)) (F.equal_or_not (coefficient K p m) K.zero)

  -- a single term has a coefficient at its monomial alone
  pub single_term : (w : Exponents) (c : E) (v : Exponents) → coefficient K (term_of w c ∷ []) v ≢ K.zero → w ≡ v
  unfolding coefficient
  single_term w c v k =
      elim (same_monomial w v) as (λ b. same_monomial w v ≡ b → w ≡ v) [
        | true ↦ λ e. same_true w v e
        | false ↦ λ e. absurd (k (ap (λ b. K.plus (cond b c K.zero) K.zero) e ∙ zero-plus-zero K F))
      ] refl

  pub append_nonzero : (p q : Polynomial E) (m : Exponents) → coefficient K (p ++ q) m ≢ K.zero → (coefficient K p m ≢ K.zero) ⊎ (coefficient K q m ≢ K.zero)
  append_nonzero p q m h = sum_nonzero K F (coefficient K p m) (coefficient K q m) (λ z. h (coefficient-append K F p q m ∙ z))

  -- the product with the constant 1
  pub times_one : (p : Polynomial E) → Same K (times K p (constant K K.one)) p
  times_one p m = times_comm K F p (constant K K.one) m ∙ one_times K F p m

  -- the variable of a place has the polynomial of that place as its value
  pub value_variable : (fs : List (Polynomial E)) (j : ℕ) → j < length fs → Same K (monomial_value K (variable j) fs) (get_or fs j [])
  value_variable [] j l = absurd (omega arith)
  value_variable (f ∷ fs) zero l = λ m. times_one (times K f (constant K K.one)) m ∙ times_one f m
  value_variable (f ∷ fs) (suc j) l = λ m. one_times K F (monomial_value K (variable j) fs) m ∙ value_variable fs j (omega arith) m

  pub value_letter : (fs : List (Polynomial E)) (j : ℕ) → j < length fs → Same K (value K (term_of (variable j) K.one ∷ []) fs) (get_or fs j [])
  value_letter fs j l m =
      ap (λ p. coefficient K p m) (append-nil (times K (constant K K.one) (monomial_value K (variable j) fs))) ∙
      (one_times K F (monomial_value K (variable j) fs) m ∙ value_variable fs j l m)

  -- what was taken away is put back
  pub minus_back : (a x : Polynomial E) → Same K (minus K a x ++ x) a
  minus_back a x m =
      let y = coefficient K x m in
      simp (coefficient-append K F, coefficient-negated K F, F.plus_assoc, F.plus_comm (K.negate y) y, F.plus_negate, F.plus_zero, coefficient_value K F)

module _ {E : Type 0} (K : FieldOps E) (F : IsField K) (O : MonomialOrder) (L : IsMonomialOrder O) where
  -- the lead of a sum, if the second part is below it
  pub lead_sum : (p q : Polynomial E) (m : Exponents) → IsLead K O p m → ((n : Exponents) → coefficient K q n ≢ K.zero → O.compare n m ≡ Less) → IsLead K O (p ++ q) m
  lead_sum p q m h k =
      let none : coefficient K q m ≡ K.zero = ⊎_elim (λ z. z) (λ n. absurd (not_below_self O L m (k m n))) (F.equal_or_not (coefficient K q m) K.zero) in
      record {
        nonzero = λ z. h.nonzero (sym (coefficient_value K F p m) ∙ (sym (F.plus_zero (coefficient K p m)) ∙ (ap (K.plus (coefficient K p m)) (sym none) ∙ (sym (coefficient-append K F p q m) ∙ z))));
        greatest = λ n c ne. ⊎_elim (λ a. h.greatest n a ne) (λ b. k n b) (append_nonzero K F p q n c);
      }

  -- and if the first part is
  pub lead_sum_right : (p q : Polynomial E) (m : Exponents) → IsLead K O q m → ((n : Exponents) → coefficient K p n ≢ K.zero → O.compare n m ≡ Less) → IsLead K O (p ++ q) m
  lead_sum_right p q m h k = IsLead_same K F O L (q ++ p) (p ++ q) m (append_comm K F q p) (lead_sum q p m h k)

  -- a monomial with a nonzero coefficient is one in the places
  pub found_monomial : (p : Polynomial E) → IsPoly K O.places p → (m : Exponents) → coefficient K p m ≢ K.zero → IsMonomial O.places m
  found_monomial p h m k = all_found K F O L (IsMonomial O.places) p (poly_monomials K O.places p h) m k

  pub small_below : (M : Exponents) (p : Polynomial E) → IsBelow K O M p → O.degree M ≤ 65535 → IsSmall O p
  small_below M [] h l = tt
  small_below M (t ∷ p) h l = (let d = degree_falls O L t.at M h.0 in omega arith, small_below M p h.1 l)

  -- the degrees of a decreasing list are at most that of its lead
  pub small_lead : (p : Polynomial E) → IsDecreasing K O p → O.degree (lead_monomial p) ≤ 65535 → IsSmall O p
  small_lead [] h l = tt
  small_lead (t ∷ p) h l = (l, small_below t.at p h.0.above l)

  pub scaled_small : (s : Term E) (q : Polynomial E) → IsTerm K O.places s → IsDecreasing K O q → O.degree (product s.at (lead_monomial q)) ≤ 65535 → IsSmall O (scaled K s q)
  scaled_small s [] hs h l = tt
  scaled_small s (x ∷ q) hs h l =
      (l, small_below (product s.at x.at) (scaled K s q) (scaled_below K F O L s x q hs h.0.term (IsDecreasing_IsPoly K O q h.1) h.0.above) l)

  -- the lead of a decreasing list that is not empty
  pub decreasing_leads : (p : Polynomial E) → IsDecreasing K O p → p ≢ [] → IsLead K O p (lead_monomial p)
  decreasing_leads [] h n = absurd (n refl)
  decreasing_leads (t ∷ p) h n = IsLead_first K F O L t p h

  pub leads_is : (p : Polynomial E) → IsDecreasing K O p → (m : Exponents) → IsLead K O p m → lead_monomial p ≡ m
  leads_is [] h m l = absurd (l.nonzero (sym (nothing_at K m)))
  leads_is (t ∷ p) h m l = IsLead_unique K F O L (t ∷ p) t.at m (IsLead_first K F O L t p h) l

  -- a monic list is not empty
  pub monic_some : (g : Polynomial E) → coefficient K g (lead_monomial g) ≡ K.one → g ≢ []
  monic_some g m e = F.one_not_zero (sym m ∙ (ap (λ x. coefficient K x (lead_monomial x)) e ∙ sym (nothing_at K [])))

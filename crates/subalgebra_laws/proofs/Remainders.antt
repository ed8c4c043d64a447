-- A remainder modulo the subalgebra is unique; so are a sum of irreducible s-words and a rest that no product of leads leads.
use Rattle.std.proofs.Common.{◌≡◌, ◌≢◌, ℕ, zero, suc, ◌<◌, refl, sym, ◌∙◌, List, ◌∷◌, ◌++◌, length, get_or, arith, ⊎_elim, append-nil, [], ap, subst}
use Rattle.word_field.specs.Field.{FieldOps, IsField, IsValue}
use Rattle.polynomials.specs.Polynomial.{Polynomial, Same, times, constant, negated, minus, IsPoly, IsLead, lead_monomial, coefficient}
use Rattle.polynomials.specs.Ideal.{Congruent}
use Rattle.polynomials.specs.Subalgebra.{Presented, IsPresentation, InSubalgebra, LeadsSubalgebra, IsStandard}
use Rattle.polynomials.specs.laws.Canonical.{zero_or_lead}
use Rattle.polynomials.specs.laws.Same.{coefficient-negated, append_same, append_comm}
use Rattle.polynomials.specs.laws.Congruence.{congruent_same, congruent_refl, congruent_trans, congruent_plus, congruent_negated, negated_is, minus_zero, minus_chain, negated-minus, minus_same}
use Rattle.polynomials.specs.laws.Membership.{sub_congruent, sub_minus}
use Rattle.subalgebra_laws.specs.Words.{combination_value, IsIrreducibleSum, IsCombination, HasSumAndRest, linear_sum, IsSubductionRemainder}
use Rattle.subalgebra_laws.specs.Bases.{AreMonicElements}
use Rattle.subalgebra_laws.specs.Statements.{RestsDecideCombinations, LeadsDetermineLinearSums}
use Rattle.subalgebra_laws.proofs.Nonzero.{multiple_nonzero}
use Rattle.polynomials.specs.laws.Ring.{coefficient_value, coefficient-append}
use Rattle.polynomials.specs.laws.Value.{coefficient-constant_times}
use Rattle.word_field.specs.laws.Field.{zero-plus}
use Rattle.std.proofs.lemmas.List.Elements.{Contains-get_or}
use Rattle.subalgebra_laws.proofs.Combinations.{sums_unique, combination_congruent, combination_same, combination_plus, combination_multiple}
use Rattle.subalgebra_laws.proofs.Criterion.{lead_generated}
use Rattle.polynomials.specs.laws.Coefficients.{minus_poly, minus_nonzero, nothing_at, no_coefficient, append_nonzero}

-- r - q is the difference of a - q and a - r
difference : {E : Type 0} (K : FieldOps E) (F : IsField K) (a r q : Polynomial E) → Same K (minus K r q) (minus K (minus K a q) (minus K a r))
difference K F a r q m =
    sym (minus_chain K F r a q m) ∙ (append_comm K F (minus K r a) (minus K a q) m ∙
    append_same K F (minus K a q) (minus K a q) (minus K r a) (negated K (minus K a r)) (λ i. refl) (λ i. sym (negated-minus K F a r i)) m)

module _ {E : Type 0} (P : Presented E) (H : IsPresentation P) (a r q : Polynomial E) (hr : IsSubductionRemainder P a r) (hq : IsSubductionRemainder P a q) where
  inside : InSubalgebra P (minus P.field r q)
  inside = sub_congruent P H (minus P.field (minus P.field a q) (minus P.field a r)) (minus P.field r q) (sub_minus P H (minus P.field a q) (minus P.field a r) hq.inside hr.inside)
      (congruent_same P.field H.field P.order.places P.ideal (minus P.field r q) (minus P.field (minus P.field a q) (minus P.field a r)) (difference P.field H.field a r q))

  no_lead : (m : List ℕ) → IsLead P.field P.order (minus P.field r q) m → ⊥
  no_lead m l =
      let leads : IsStandard P m → LeadsSubalgebra P m = λ st. record {
        standard = st;
        member = minus P.field r q;
        poly = minus_poly P.field H.field P.order.places r q hr.poly hq.poly;
        inside = inside;
        leads = l;
      } in
      ⊎_elim (λ k. let x = hr.reduced m k in x.1 (leads x.0)) (λ k. let x = hq.reduced m k in x.1 (leads x.0)) (minus_nonzero P.field H.field r q m l.nonzero)

  pub remainder_unique : Same P.field r q
  remainder_unique =
      minus_zero P.field H.field r q (⊎_elim (λ z. z) (λ l. absurd (no_lead l.0 l.1)) (zero_or_lead P.field H.field P.order H.order (minus P.field r q) (minus_poly P.field H.field P.order.places r q hr.poly hq.poly)))

-- so a polynomial is a member exactly if its remainder is zero
module _ {E : Type 0} (P : Presented E) (H : IsPresentation P) (a r : Polynomial E) (hr : IsSubductionRemainder P a r) where
  minus_nothing : Same P.field (minus P.field a []) a
  minus_nothing m = ap (λ p. coefficient P.field p m) (append-nil a)

  pub member_remainder : InSubalgebra P a → Same P.field r []
  member_remainder h =
      remainder_unique P H a r [] hr
      (record {
        poly = tt;
        inside = sub_congruent P H a (minus P.field a []) h (congruent_same P.field H.field P.order.places P.ideal (minus P.field a []) a minus_nothing);
        reduced = λ m k. absurd (k (sym (nothing_at P.field m)));
      })

  pub remainder_member : Same P.field r [] → InSubalgebra P a
  remainder_member e =
      sub_congruent P H (minus P.field a r) a hr.inside
      (congruent_same P.field H.field P.order.places P.ideal a (minus P.field a r)
      (λ m. sym (minus_same P.field H.field a a r [] (λ i. refl) e m ∙ minus_nothing m)))

module _ {E : Type 0} (P : Presented E) (H : IsPresentation P) (S : List (Polynomial E)) (HS : AreMonicElements P S) where
  open P use {field as K, order as O}
  open H use {field as F, order as L}

  abbrev value_of : Polynomial E → Polynomial E
  value_of e = combination_value P S e

  -- the rest taken away
  without_rest : (a v r : Polynomial E) → Congruent K O.places P.ideal a (v ++ r) → Congruent K O.places P.ideal (minus K a r) v
  without_rest a v r c = congruent_trans K F O.places P.ideal (minus K a r) (minus K (v ++ r) r) v
      (congruent_plus K F O.places P.ideal a (v ++ r) (negated K r) (negated K r) c (congruent_refl K F O.places P.ideal (negated K r)))
      (congruent_same K F O.places P.ideal (minus K (v ++ r) r) v (λ m. simp (coefficient-append K F, coefficient-negated K F, F.plus_assoc, F.plus_negate, F.plus_zero, coefficient_value K F)))

  value_combination : (e : Polynomial E) → IsIrreducibleSum P S e → IsCombination P S (combination_value P S e)
  value_combination e h = record { sum = e; irreducible = h; equal = congruent_refl K F O.places P.ideal (combination_value P S e) }

  module _ (a e r f q : Polynomial E) (h : HasSumAndRest P S a e r) (k : HasSumAndRest P S a f q) where
    -- the difference of the rests is a combination, so it is zero
    difference_combination : IsCombination P S (minus K r q)
    difference_combination =
        combination_congruent P H S HS (minus K (value_of f) (value_of e)) (minus K r q)
        (congruent_trans K F O.places P.ideal (minus K r q) (minus K (minus K a q) (minus K a r)) (minus K (value_of f) (value_of e))
        (congruent_same K F O.places P.ideal (minus K r q) (minus K (minus K a q) (minus K a r)) (difference K F a r q))
        (congruent_plus K F O.places P.ideal (minus K a q) (value_of f) (negated K (minus K a r)) (negated K (value_of e)) (without_rest a (value_of f) q k.equal)
        (congruent_negated K F O.places P.ideal (minus K a r) (value_of e) (without_rest a (value_of e) r h.equal))))
        (combination_plus P H S HS (value_of f) (negated K (value_of e)) (value_combination f k.sum)
        (combination_same P H S HS (times K (constant K (K.negate K.one)) (value_of e)) (negated K (value_of e)) (negated_is K F (value_of e))
        (combination_multiple P H S HS (K.negate K.one) (value_of e) (F.negate_value K.one) (value_combination e h.sum))))

    rests_same : Same K r q
    rests_same = minus_zero K F r q (⊎_elim (λ z. z) (λ l. absurd (by_lead l.0 l.1)) (zero_or_lead K F O L (minus K r q) poly))
      where
        poly : IsPoly K O.places (minus K r q)
        poly = minus_poly K F O.places r q h.poly k.poly

        by_lead : (m : List ℕ) → IsLead K O (minus K r q) m → ⊥
        by_lead m l = ⊎_elim (λ x. let y = h.reduced m x in y.1 (lead_generated P H S HS (minus K r q) m poly difference_combination l y.0))
            (λ x. let y = k.reduced m x in y.1 (lead_generated P H S HS (minus K r q) m poly difference_combination l y.0)) (minus_nonzero K F r q m l.nonzero)

    pub sum_and_rest_unique : (e ≡ f) × Same K r q
    sum_and_rest_unique = (
      sums_unique P H S HS (minus K a r) e f h.sum k.sum (without_rest a (value_of e) r h.equal)
          (congruent_trans K F O.places P.ideal (minus K a r) (minus K a q) (value_of f)
          (congruent_same K F O.places P.ideal (minus K a r) (minus K a q) (minus_same K F a a r q (λ i. refl) rests_same)) (without_rest a (value_of f) q k.equal)),
      rests_same,
    )

  -- a combination has no rest
  pub rests_decide : RestsDecideCombinations P S
  rests_decide a e r h = (
    λ c. (sum_and_rest_unique a e r c.sum [] h (record {
      sum = c.irreducible;
      poly = tt;
      reduced = λ m k. absurd (k (sym (nothing_at K m)));
      equal = subst (Congruent K O.places P.ideal a) (sym (append-nil (value_of c.sum))) c.equal;
    })).1,
    λ z. record {
      sum = e;
      irreducible = h.sum;
      equal = congruent_trans K F O.places P.ideal a (value_of e ++ r) (value_of e) h.equal
          (congruent_same K F O.places P.ideal (value_of e ++ r) (value_of e) (λ m. append_same K F (value_of e) (value_of e) r [] (λ i. refl) z m ∙ ap (λ p. coefficient K p m) (append-nil (value_of e))));
    },
  )

-- the coefficients of a linear sum at the leads
module _ {E : Type 0} (P : Presented E) (H : IsPresentation P) where
  open P use {field as K, order as O}
  open H use {field as F, order as L}

  linear_zero : (m : List ℕ) (cs : List E) (S : List (Polynomial E)) → ((i : ℕ) → i < length S → coefficient K (get_or S i []) m ≡ K.zero) → coefficient K (linear_sum P cs S) m ≡ K.zero
  linear_zero m [] S h = sym (nothing_at K m)
  linear_zero m (c ∷ cs) [] h = sym (nothing_at K m)
  linear_zero m (c ∷ cs) (s ∷ S) h = no_coefficient K F (linear_sum P (c ∷ cs) (s ∷ S)) m (λ k. ⊎_elim
      (λ x. multiple_nonzero K F c s m x (h 0 (omega arith))) (λ x. x (linear_zero m cs S (λ i l. h (suc i) (omega arith)))) (append_nonzero K F (times K (constant K c) s) (linear_sum P cs S) m k))

  linear_at : (m : List ℕ) (cs : List E) (S : List (Polynomial E)) (i : ℕ) → i < length cs → i < length S → IsValue K (get_or cs i K.zero) → coefficient K (get_or S i []) m ≡ K.one →
      ((j : ℕ) → j < length S → j ≢ i → coefficient K (get_or S j []) m ≡ K.zero) → coefficient K (linear_sum P cs S) m ≡ get_or cs i K.zero
  linear_at m [] S i lc l v one h = absurd (omega arith)
  linear_at m (c ∷ cs) [] i lc l v one h = absurd (omega arith)
  linear_at m (c ∷ cs) (s ∷ S) zero lc l v one h =
      simp (coefficient-append K F (times K (constant K c) s) (linear_sum P cs S) m, coefficient-constant_times K F c s m, one, F.times_one, v, linear_zero m cs S (λ j k. h (suc j) (omega arith) (λ e. cc)), F.plus_zero)
  linear_at m (c ∷ cs) (s ∷ S) (suc i) lc l v one h =
      let none = no_coefficient K F (times K (constant K c) s) m (λ k. multiple_nonzero K F c s m k (h 0 (omega arith) (λ e. cc))) in
      let rest = linear_at m cs S i (omega arith) (omega arith) v one (λ j k n. h (suc j) (omega arith) (λ e. n (let z : j ≡ i = cc in z))) in
      simp (coefficient-append K F (times K (constant K c) s) (linear_sum P cs S) m, none, zero-plus K F, coefficient_value K F) rest

  pub leads_determine : (S : List (Polynomial E)) → AreMonicElements P S → LeadsDetermineLinearSums P S
  leads_determine S HS reduced cs i lc l v =
      linear_at (lead_monomial (get_or S i [])) cs S i lc l v (HS (get_or S i []) (Contains-get_or S i [] l)).monic (λ j k n. reduced j i k l n)

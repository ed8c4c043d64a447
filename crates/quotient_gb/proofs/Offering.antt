-- The remainder of a member of the ideal: zero, and the member has a standard representation, or a new member, with which it has one.
use Rattle.std.proofs.Common.{◌≡◌, ◌≢◌, ℕ, ◌≤◌, refl, sym, ◌∙◌, ap, subst, List, [], ◌∷◌, ◌++◌, ⊎_elim, arith, append-nil}
use Rattle.polynomials.specs.laws.Coefficients.{decreasing_leads, leads_is, minus_back}
use Rattle.std.specs.Prelude.{Contains, map}
use Rattle.word_field.specs.Field.{IsValue}
use Rattle.word_field.specs.laws.Field.{reduce-times, one-times}
use Rattle.monomial_order.specs.laws.Comparing.{degree_falls}
use Rattle.monomial_order.specs.Monomial.{IsMultiple, Exponents}
use Rattle.polynomials.specs.Polynomial.{Polynomial, coefficient, term_of, times, scaled, minus, constant, first_coefficient, IsDecreasing, lead_monomial, degree_of}
use Rattle.polynomials.specs.Ideal.{InIdeal}
use Rattle.polynomials.specs.Subalgebra.{Presented, IsPresentation}
use Rattle.polynomials.specs.laws.Ring.{coefficient_value}
use Rattle.polynomials.specs.laws.Value.{coefficient-scaled, coefficient-constant_times}
use Rattle.polynomials.specs.laws.Decreasing.{coefficient_first}
use Rattle.polynomials.specs.laws.Congruence.{congruent_sym, congruent_trans, congruent_member, member_congruent}
use Rattle.polynomials.specs.laws.Ideal.{InIdeal_same, InIdeal_times}
use Rattle.quotient_gb.specs.Combinations.{AtMost, Combines, HasStandardRepresentation}
use Rattle.quotient_gb.specs.Remainder.{IsRemainderBy}
use Rattle.quotient_gb.specs.IdealBasis.{IsMonicMember, AreMonicMembers}
use Rattle.quotient_gb.proofs.Combinations.{IsTerm_constant, combines_same, combines_plus, combines_one, combines_more, combines_inside}
use Rattle.quotient_gb.proofs.Places.{has_divisor}

-- the monic remainder n of a can be inserted
pub record IsInsertable {E : Type 0} (P : Presented E) (G : List (Polynomial E)) (a n : Polynomial E) : Type 0 where
  pub member : IsMonicMember P n
  pub at_most : (d : ℕ) → degree_of P.order a ≤ d → P.order.degree (lead_monomial n) ≤ d
  pub fresh : ¬ IsMultiple (map lead_monomial G) (lead_monomial n)
  pub reduces : (G' : List (Polynomial E)) → ((g : Polynomial E) → Contains G g → Contains G' g) → Contains G' n → HasStandardRepresentation P.field P.order G' a

module _ {E : Type 0} (P : Presented E) (H : IsPresentation P) (G : List (Polynomial E)) (members : AreMonicMembers P G)
    (a rest : Polynomial E) (fa : IsDecreasing P.field P.order a) (ha : InIdeal P.field P.order.places P.ideal a) (rem : IsRemainderBy P.field P.order G (AtMost P.order (lead_monomial a)) a rest) where
  pub rest_inside : InIdeal P.field P.order.places P.ideal rest
  rest_inside = member_congruent P.field H.field P.order.places P.ideal rest
      (congruent_trans P.field H.field P.order.places P.ideal rest a []
      (congruent_sym P.field H.field P.order.places P.ideal a rest (combines_inside P.field H.field P.order H.order G P.ideal (λ g h. (members g h).inside) (AtMost P.order (lead_monomial a)) (minus P.field a rest) rem.combines))
      (congruent_member P.field H.field P.order.places P.ideal a ha))

  pub nothing_left : rest ≡ [] → HasStandardRepresentation P.field P.order G a
  nothing_left e M l =
      subst (λ m. Combines P.field P.order G (AtMost P.order m) a) (leads_is P.field H.field P.order H.order a fa M l)
      (subst (Combines P.field P.order G (AtMost P.order (lead_monomial a))) (append-nil a) (subst (λ r. Combines P.field P.order G (AtMost P.order (lead_monomial a)) (minus P.field a r)) e rem.combines))

  module _ (fr : IsDecreasing P.field P.order rest) (some : rest ≢ []) where
    rest_at_most : AtMost P.order (lead_monomial a) (lead_monomial rest)
    rest_at_most = rem.has (lead_monomial rest) (decreasing_leads P.field H.field P.order H.order rest fr some).nonzero

    rest_degree : (d : ℕ) → degree_of P.order a ≤ d → P.order.degree (lead_monomial rest) ≤ d
    rest_degree d l = ⊎_elim (λ e. subst (λ m. P.order.degree m ≤ d) (sym e) l) (λ lt. let q = degree_falls P.order H.order (lead_monomial rest) (lead_monomial a) lt in omega arith) rest_at_most

    pub rest_fresh : IsMultiple (map lead_monomial G) (lead_monomial rest) → ⊥
    rest_fresh h = rem.reduced (lead_monomial rest) (decreasing_leads P.field H.field P.order H.order rest fr some).nonzero (has_divisor G (lead_monomial rest) h)

    front_value : (q : Polynomial E) → IsDecreasing P.field P.order q → q ≢ [] → IsValue P.field (first_coefficient P.field q)
    front_value [] f n = absurd (n refl)
    front_value (t ∷ q) f n = f.0.term.value

    front_nonzero : (q : Polynomial E) → IsDecreasing P.field P.order q → q ≢ [] → first_coefficient P.field q ≢ P.field.zero
    front_nonzero [] f n = absurd (n refl)
    front_nonzero (t ∷ q) f n = f.0.nonzero

    front_is : (q : Polynomial E) → IsDecreasing P.field P.order q → q ≢ [] → coefficient P.field q (lead_monomial q) ≡ first_coefficient P.field q
    front_is [] f n = absurd (n refl)
    front_is (t ∷ q) f n = coefficient_first P.field H.field P.order H.order t q f.0

    module _ (n : Polynomial E) (fn : IsDecreasing P.field P.order n) (same_lead : lead_monomial n ≡ lead_monomial rest) (one : first_coefficient P.field n ≡ P.field.one)
        (multiple : (m : Exponents) → coefficient P.field rest m ≡ P.field.times (first_coefficient P.field rest) (coefficient P.field n m)) where
      n_some : n ≢ []
      n_some e = H.field.one_not_zero (sym one ∙ ap (first_coefficient P.field) e)

      n_inside : (c : E) × (P.field.times (first_coefficient P.field rest) c ≡ P.field.one) → InIdeal P.field P.order.places P.ideal n
      n_inside (c, e) =
          InIdeal_same P.field H.field P.order.places P.ideal (times P.field (constant P.field (P.field.reduce c)) rest) n
          (λ m.
          let x = coefficient P.field n m in
          let f = first_coefficient P.field rest in
          cc (coefficient-constant_times P.field H.field (P.field.reduce c) rest m, reduce-times P.field H.field c (coefficient P.field rest m), multiple m, H.field.times_assoc c f x, H.field.times_comm c f, e, one-times P.field H.field x, coefficient_value P.field H.field n m))
          (InIdeal_times P.field H.field P.order.places P.ideal (constant P.field (P.field.reduce c)) rest (IsTerm_constant P.field H.field P.order.places (P.field.reduce c) reduced, tt) rest_inside)
        where
          reduced : IsValue P.field (P.field.reduce c)
          reduced = ap P.field.reduce (sym (H.field.plus_zero c)) ∙ (H.field.plus_value c P.field.zero ∙ H.field.plus_zero c)

      new_member : IsMonicMember P n
      new_member = record {
        decreasing = fn;
        monic = front_is n fn n_some ∙ one;
        inside = n_inside (H.field.inverse (first_coefficient P.field rest) (λ z. front_nonzero rest fr some (sym (front_value rest fr some) ∙ z)));
      }

      then_reduces : (G' : List (Polynomial E)) → ((g : Polynomial E) → Contains G g → Contains G' g) → Contains G' n → HasStandardRepresentation P.field P.order G' a
      then_reduces G' more has M l =
          let f = first_coefficient P.field rest in
          subst (λ m. Combines P.field P.order G' (AtMost P.order m) a) (leads_is P.field H.field P.order H.order a fa M l)
          (combines_same P.field H.field P.order H.order G' (AtMost P.order (lead_monomial a)) (minus P.field a rest ++ rest) a (minus_back P.field H.field a rest)
          (combines_plus P.field H.field P.order H.order G' (AtMost P.order (lead_monomial a)) (minus P.field a rest) rest
          (combines_more P.field H.field P.order H.order G G' more (AtMost P.order (lead_monomial a)) (minus P.field a rest) rem.combines)
          (combines_same P.field H.field P.order H.order G' (AtMost P.order (lead_monomial a)) (scaled P.field (term_of [] f) n) rest (λ m. coefficient-scaled P.field H.field f n m ∙ sym (multiple m))
          (combines_one P.field H.field P.order H.order G' (AtMost P.order (lead_monomial a)) (term_of [] f) n (IsTerm_constant P.field H.field P.order.places f (front_value rest fr some)) has
          (subst (AtMost P.order (lead_monomial a)) (sym same_lead) rest_at_most)))))

      pub insertable : IsInsertable P G a n
      insertable = record {
        member = new_member;
        at_most = λ d l. subst (λ m. P.order.degree m ≤ d) (sym same_lead) (rest_degree d l);
        fresh = subst (λ m. IsMultiple (map lead_monomial G) m → ⊥) (sym same_lead) rest_fresh;
        reduces = then_reduces;
      }

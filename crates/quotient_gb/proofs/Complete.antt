-- If the leads of a list divide each lead of the ideal of degree at most c, each member of the ideal of degree at most c has a
-- standard representation by it.
use Rattle.std.proofs.Common.{◌≡◌, ◌≢◌, ℕ, ◌≤◌, sym, ◌∙◌, ap, subst, List, [], ◌∷◌, ◌++◌, ⊎_elim, inl, inr, arith, append-nil}
use Rattle.polynomials.specs.laws.Coefficients.{minus_back, found_monomial, minus_poly}
use Rattle.std.specs.Prelude.{Contains}
use Rattle.std.specs.declared.cmp.Ordering.TheVariants.{Less}
use Rattle.word_field.specs.Field.{FieldOps, IsField, IsValue}
use Rattle.monomial_order.specs.Monomial.{product, least_common_multiple, IsMonomial, Exponents}
use Rattle.monomial_order.specs.laws.Monomial.{product_comm, IsMonomial-least_common_multiple}
use Rattle.monomial_order.specs.laws.Cofactors.{cofactor}
use Rattle.monomial_order.specs.laws.Comparing.{degree_falls}
use Rattle.monomial_order.specs.laws.Rank.{IsWithin, below_induction}
use Rattle.polynomials.specs.Polynomial.{Polynomial, coefficient, term_of, times, scaled, negated, minus, constant, IsTerm, IsPoly, IsLead, IsHomogeneous, lead_monomial}
use Rattle.polynomials.specs.Ideal.{InIdeal}
use Rattle.polynomials.specs.Subalgebra.{Presented, IsPresentation, LeadsIdeal}
use Rattle.polynomials.specs.laws.Ring.{coefficient_value}
use Rattle.polynomials.specs.laws.Value.{one_times}
use Rattle.polynomials.specs.laws.Membership.{IsPoly-one}
use Rattle.polynomials.specs.laws.Decreasing.{IsDecreasing_IsPoly}
use Rattle.polynomials.specs.laws.Canonical.{zero_or_lead}
use Rattle.polynomials.specs.laws.Congruence.{minus_zero, InIdeal_negated}
use Rattle.polynomials.specs.laws.Ideal.{IsPoly-scaled, InIdeal_plus}
use Rattle.quotient_gb.specs.Combinations.{AtMost, HasLeadDivisor, Combines, HasStandardRepresentation}
use Rattle.quotient_gb.specs.Criterion.{s_polynomial, RepresentsPairs}
use Rattle.quotient_gb.specs.IdealBasis.{AreMonicMembers}
use Rattle.quotient_gb.proofs.Multiples.{divides_left}
use Rattle.quotient_gb.proofs.Combinations.{combines_same, combines_plus, combines_one, combines_weaken}
use Rattle.quotient_gb.proofs.Criterion.{coefficient-front, scaled_leads, reducer}
use Rattle.quotient_gb.proofs.Pairs.{scaled_monic, pair_below, s_polynomial_poly, below_standard, difference_below}
use Rattle.quotient_gb.proofs.Bases.{lead_is, scaled_inside, s_polynomial_inside}
use Rattle.polynomials.specs.laws.Degrees.{generator_of}

-- a generator lies in the ideal
pub generator_inside : {E : Type 0} (K : FieldOps E) (F : IsField K) (n : ℕ) (rs : List (Polynomial E)) (r : Polynomial E) → Contains rs r → InIdeal K n rs r
generator_inside K F n rs r h = record {
  parts = record { by = constant K K.one; of = r } ∷ [];
  multiples = (IsPoly-one K F n, h, tt);
  sums = λ m. sym (one_times K F r m) ∙ ap (λ x. coefficient K x m) (sym (append-nil (times K (constant K K.one) r)));
}

module _ {E : Type 0} (P : Presented E) (H : IsPresentation P) (G : List (Polynomial E)) (members : AreMonicMembers P G)
    (c : ℕ) (divides : (m : Exponents) → LeadsIdeal P m → P.order.degree m ≤ c → HasLeadDivisor G m) where
  abbrev Reduces : Exponents → Type 0
  Reduces M = (a : Polynomial E) → IsPoly P.field P.order.places a → InIdeal P.field P.order.places P.ideal a → IsLead P.field P.order a M → Combines P.field P.order G (AtMost P.order M) a

  -- a multiple of a member with the lead M and any coefficient there
  record IsCancelling (M : Exponents) (d : E) (s : Polynomial E) : Type 0 where
    combines : Combines P.field P.order G (AtMost P.order M) s
    poly : IsPoly P.field P.order.places s
    inside : InIdeal P.field P.order.places P.ideal s
    leads : IsLead P.field P.order s M
    front : coefficient P.field s M ≡ d

  cancelling : (M : Exponents) → IsMonomial P.order.places M → (d : E) → IsValue P.field d → d ≢ P.field.zero → HasLeadDivisor G M → (s : Polynomial E) × IsCancelling M d s
  cancelling M hM d v nz (g, hg, dv) =
      let lg = lead_is P H G members g hg in
      let r = reducer P H G members g hg in
      let u = cofactor (lead_monomial g) M lg.trimmed hM.trimmed dv in
      let is : product u.0 (lead_monomial g) ≡ M = product_comm u.0 (lead_monomial g) ∙ u.2 in
      let mu = divides_left u.0 (lead_monomial g) P.order.places (subst (IsMonomial P.order.places) (sym is) hM) u.1 in
      let ht : IsTerm P.field P.order.places (term_of u.0 d) = record { monomial = mu; value = v } in
      let s = scaled P.field (term_of u.0 d) g in (
        s,
        record {
          combines = combines_one P.field H.field P.order H.order G (AtMost P.order M) (term_of u.0 d) g ht hg (inl is);
          poly = IsPoly-scaled P.field H.field P.order.places (term_of u.0 d) g ht (IsDecreasing_IsPoly P.field P.order g r.decreasing);
          inside = scaled_inside P H G members (term_of u.0 d) g ht hg;
          leads = subst (IsLead P.field P.order s) is (scaled_leads P.field H.field P.order H.order (term_of u.0 d) g ht nz r.decreasing r.monic);
          front = coefficient-front P.field H.field u.0 d g M v ∙
              (ap (P.field.times d) (ap (coefficient P.field (scaled P.field (term_of u.0 P.field.one) g)) (sym is) ∙ scaled_monic P.field H.field P.order H.order u.0 g mu r) ∙
              (H.field.times_one d ∙ v));
        },
      )

  step : (M : Exponents) → IsWithin P.order H.order c M → ((k : Exponents) → IsWithin P.order H.order c k → P.order.compare k M ≡ Less → Reduces k) → Reduces M
  step M w ih a hp ha la =
      let d = coefficient P.field a M in
      let s = cancelling M w.monomial d (coefficient_value P.field H.field a M) la.nonzero (divides M (record { member = a; poly = hp; inside = ha; leads = la }) w.degree) in
      finish s.0 s.1
    where
      finish : (s : Polynomial E) → IsCancelling M (coefficient P.field a M) s → Combines P.field P.order G (AtMost P.order M) a
      finish s h =
          ⊎_elim
          (λ z. combines_same P.field H.field P.order H.order G (AtMost P.order M) s a (λ m. sym (minus_zero P.field H.field a s z m)) h.combines)
          (λ N. combines_same P.field H.field P.order H.order G (AtMost P.order M) (minus P.field a s ++ s) a (minus_back P.field H.field a s)
          (combines_plus P.field H.field P.order H.order G (AtMost P.order M) (minus P.field a s) s (smaller N.0 N.1) h.combines))
          (zero_or_lead P.field H.field P.order H.order (minus P.field a s) poly)
        where
          poly : IsPoly P.field P.order.places (minus P.field a s)
          poly = minus_poly P.field H.field P.order.places a s hp h.poly

          smaller : (N : Exponents) → IsLead P.field P.order (minus P.field a s) N → Combines P.field P.order G (AtMost P.order M) (minus P.field a s)
          smaller N l =
              let lt = difference_below P.field H.field P.order H.order a s M la h.leads (sym h.front) N l.nonzero in
              combines_weaken P.field H.field P.order H.order G (lead_is P H G members) (AtMost P.order N) (AtMost P.order M) (minus P.field a s)
              (λ m hm b. inr (⊎_elim (λ e. subst (λ x. P.order.compare x M ≡ Less) (sym e) lt) (λ less. H.order.total.trans m N M less lt) b))
              (ih N (record { monomial = found_monomial P.field H.field P.order H.order (minus P.field a s) poly N l.nonzero; degree = let e = degree_falls P.order H.order N M lt in let q = w.degree in omega arith }) lt
              (minus P.field a s) poly
              (InIdeal_plus P.field H.field P.order.places P.ideal a (negated P.field s) ha (InIdeal_negated P.field H.field P.order.places P.ideal s h.inside)) l)

  -- a member of the ideal whose lead has a degree of at most c has a standard representation
  pub complete_reduces : (a : Polynomial E) → IsPoly P.field P.order.places a → InIdeal P.field P.order.places P.ideal a → (M : Exponents) → IsLead P.field P.order a M →
      P.order.degree M ≤ c → Combines P.field P.order G (AtMost P.order M) a
  complete_reduces a hp ha M l d =
      below_induction P.order H.order c Reduces step M (record { monomial = found_monomial P.field H.field P.order H.order a hp M l.nonzero; degree = d }) a hp ha l

  pub complete_pairs : RepresentsPairs P c G
  complete_pairs g h hg hh d =
      below_standard P.field H.field P.order H.order G (reducer P H G members) g h hg hh
      (λ u v w M l.
      let lt = pair_below P.field H.field P.order H.order G (reducer P H G members) g h hg hh u v w M l.nonzero in
      let mM = IsMonomial-least_common_multiple P.order.places (lead_monomial g) (lead_monomial h) (lead_is P H G members g hg) (lead_is P H G members h hh) in
      complete_reduces (s_polynomial P.field u g v h) (s_polynomial_poly P.field H.field P.order H.order G (reducer P H G members) g h hg hh u v w)
      (s_polynomial_inside P H G members u v g h
      (divides_left u (lead_monomial g) P.order.places (subst (IsMonomial P.order.places) (sym w.left) mM) w.left_trimmed)
      (divides_left v (lead_monomial h) P.order.places (subst (IsMonomial P.order.places) (sym w.right) mM) w.right_trimmed) hg hh) M l
      (let e = degree_falls P.order H.order M (least_common_multiple (lead_monomial g) (lead_monomial h)) lt in omega arith))

  pub complete_generators : (r : Polynomial E) → Contains P.ideal r → (d : ℕ) → d ≤ c → IsHomogeneous P.field P.order d r → HasStandardRepresentation P.field P.order G r
  complete_generators r k d le h M l =
      complete_reduces r (generator_of P.field P.order P.ideal H.ideal r k).poly (generator_inside P.field H.field P.order.places P.ideal r k) M l
      (let e = h.each M l.nonzero in omega arith)

-- The subalgebra is closed under degree parts.
use Rattle.std.proofs.Common.{◌≡◌, ℕ, ◌+◌, ◌≤◌, refl, sym, ◌∙◌, ap, subst, List, [], ◌∷◌, ◌++◌, length, cond, Bool, true, false, ⊎_elim, arith}
use Rattle.std.specs.Prelude.{nat_eq}
use Rattle.std.proofs.lemmas.Bool.{eqb-true, eq-eqb, true≢false}
use Rattle.word_field.specs.Field.{FieldOps, IsField}
use Rattle.monomial_order.specs.declared.terms.Term.{Term}
use Rattle.monomial_order.specs.Monomial.{Exponents, weighted_degree}
use Rattle.monomial_order.specs.MonomialOrder.{MonomialOrder, IsMonomialOrder}
use Rattle.monomial_order.specs.laws.Comparing.{degree_one}
use Rattle.polynomials.specs.Polynomial.{Polynomial, coefficient, Same, minus, constant, component, IsTerm, IsPoly, IsHomogeneous}
use Rattle.polynomials.specs.Value.{monomial_value, term_value, value}
use Rattle.polynomials.specs.Subalgebra.{Presented, IsPresentation, IsGenerator, AreGenerators, InSubalgebra}
use Rattle.polynomials.specs.laws.Same.{append_same}
use Rattle.polynomials.specs.laws.Congruence.{minus_same}
use Rattle.polynomials.specs.laws.Ideal.{IsPoly-times, InIdeal_same}
use Rattle.polynomials.specs.laws.Membership.{IsPoly-monomial_value}
use Rattle.polynomials.specs.laws.Degrees.{component-minus, IsGraded, AreGraded, polys_graded, graded_times, graded_value, graded_component, graded_no_component, all_found, component-append, ideal_component}
use Rattle.polynomials.specs.laws.NormalForm.{IsPoly-component}

-- Terms have the degrees of their values, if ds are the degrees of the generators.
abbrev by_value : MonomialOrder → List ℕ → MonomialOrder
by_value O ds = record { places = O.places; degree = weighted_degree ds; compare = O.compare }

module _ {E : Type 0} (K : FieldOps E) (F : IsField K) (O : MonomialOrder) (L : IsMonomialOrder O) where
  -- degrees of homogeneous generators
  abbrev HasDegrees : List (Polynomial E) → Type 0
  HasDegrees fs = (ds : List ℕ) × (length ds ≡ length fs) × AreGraded K F O L ds fs

  more_degrees : (f : Polynomial E) (fs : List (Polynomial E)) → IsGenerator K O f → HasDegrees fs → HasDegrees (f ∷ fs)
  more_degrees f fs h rest = ⊎_elim none some h.homogeneous
    where
      none : ((m : Exponents) → coefficient K f m ≡ K.zero) → HasDegrees (f ∷ fs)
      none z = (1 ∷ rest.0, let e = rest.1 in omega arith, (h.poly, λ m k. absurd (k (z m)), rest.2))

      some : (d : ℕ) × (1 ≤ d) × IsHomogeneous K O d f → HasDegrees (f ∷ fs)
      some s = (s.0 ∷ rest.0, let e = rest.1 in omega arith, (h.poly, s.2.each, rest.2))

  generator_degrees : (fs : List (Polynomial E)) → AreGenerators K O fs → HasDegrees fs
  generator_degrees [] h = ([], refl, tt)
  generator_degrees (f ∷ fs) h = more_degrees f fs h.0 (generator_degrees fs h.1)

  module _ (ds : List ℕ) (fs : List (Polynomial E)) (l : length ds ≡ length fs) (g : AreGraded K F O L ds fs) (k : ℕ) where
    constant_poly : (t : Term E) → IsTerm K k t → IsPoly K O.places (constant K t.by)
    constant_poly t h = (record { monomial = record { trimmed = tt; within = omega arith }; value = h.value }, tt)

    value_poly : (m : Exponents) → IsPoly K O.places (monomial_value K m fs)
    value_poly m = IsPoly-monomial_value K F O.places m fs (polys_graded K F O L ds fs g)

    term_poly : (t : Term E) → IsTerm K k t → IsPoly K O.places (term_value K fs t)
    term_poly t h = IsPoly-times K F O.places (constant K t.by) (monomial_value K t.at fs) (constant_poly t h) (value_poly t.at)

    -- the value of a term is homogeneous
    term_graded : (t : Term E) → IsTerm K k t → IsGraded K F O L (weighted_degree ds t.at) (term_value K fs t)
    term_graded t h =
        subst (λ e. IsGraded K F O L e (term_value K fs t)) (let z : 0 + weighted_degree ds t.at ≡ weighted_degree ds t.at = omega arith in z)
        (graded_times K F O L (constant K t.by) (monomial_value K t.at fs) 0 (weighted_degree ds t.at) (constant_poly t h) (value_poly t.at)
        (λ m c. all_found K F O L (λ n. O.degree n ≡ 0) (constant K t.by) (degree_one O L, tt) m c) (graded_value K F O L t.at ds fs l g))

    -- a part of the value is the value of the terms whose values have that degree
    value_component : (d : ℕ) (h : Polynomial E) → IsPoly K k h → Same K (component O d (value K h fs)) (value K (component (by_value O ds) d h) fs)
    value_component d [] hh m = refl
    value_component d (t ∷ h) hh m =
        ap (λ x. coefficient K x m) (component-append O d (term_value K fs t) (value K h fs)) ∙
        by_test (nat_eq (weighted_degree ds t.at) d) refl (value_component d h hh.1)
      where
        by_test : (b : Bool) → nat_eq (weighted_degree ds t.at) d ≡ b → Same K (component O d (value K h fs)) (value K (component (by_value O ds) d h) fs) →
            coefficient K (component O d (term_value K fs t) ++ component O d (value K h fs)) m ≡
            coefficient K (value K (cond b (t ∷ component (by_value O ds) d h) (component (by_value O ds) d h)) fs) m
        by_test true e s =
            append_same K F (component O d (term_value K fs t)) (term_value K fs t) (component O d (value K h fs)) (value K (component (by_value O ds) d h) fs)
            (graded_component K F O L d (term_value K fs t) (term_poly t hh.0)
            (subst (λ x. IsGraded K F O L x (term_value K fs t)) (eqb-true (weighted_degree ds t.at) d e) (term_graded t hh.0))) s m
        by_test false e s =
            append_same K F (component O d (term_value K fs t)) [] (component O d (value K h fs)) (value K (component (by_value O ds) d h) fs)
            (graded_no_component K F O L d (weighted_degree ds t.at) (term_value K fs t) (term_poly t hh.0) (term_graded t hh.0)
            (λ x. true≢false (sym (eq-eqb (weighted_degree ds t.at) d x) ∙ e))) s m

  -- the part of a difference
  component_minus : (d : ℕ) (a v w : Polynomial E) → Same K (component O d v) w → Same K (component O d (minus K a v)) (minus K (component O d a) w)
  component_minus d a v w s m =
      ap (λ x. coefficient K x m) (component-minus K O d a v) ∙ minus_same K F (component O d a) (component O d a) (component O d v) w (λ i. refl) s m

module _ {E : Type 0} (P : Presented E) (H : IsPresentation P) where
  -- each degree part of a member is one
  pub sub_component : (d : ℕ) (a : Polynomial E) → InSubalgebra P a → InSubalgebra P (component P.order d a)
  sub_component d a h =
      let r = generator_degrees P.field H.field P.order H.order P.generators H.generators in
      record {
        witness = component (by_value P.order r.0) d h.witness;
        poly = IsPoly-component P.field (length P.generators) (by_value P.order r.0) d h.witness h.poly;
        inside = InIdeal_same P.field H.field P.order.places P.ideal
            (component P.order d (minus P.field a (value P.field h.witness P.generators)))
            (minus P.field (component P.order d a) (value P.field (component (by_value P.order r.0) d h.witness) P.generators))
            (component_minus P.field H.field P.order H.order d a (value P.field h.witness P.generators) (value P.field (component (by_value P.order r.0) d h.witness) P.generators)
            (value_component P.field H.field P.order H.order r.0 P.generators r.1 r.2 (length P.generators) d h.witness h.poly))
            (ideal_component P.field H.field P.order H.order P.ideal H.ideal d (minus P.field a (value P.field h.witness P.generators)) h.inside);
      }

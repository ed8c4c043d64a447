-- Homogeneous components: of a sum, of a member of a homogeneous ideal, and of a value.
use Rattle.std.proofs.Common.{◌≡◌, ◌≢◌, ℕ, zero, suc, ◌+◌, ◌*◌, ◌≤◌, refl, sym, ◌∙◌, ap, subst, List, [], ◌∷◌, ◌++◌, cond, Bool, true, false, ◌⊎◌, inl, inr, ⊎_elim, arith, append_assoc}
use Rattle.std.specs.Prelude.{nat_eq, Contains}
use Rattle.std.proofs.lemmas.Bool.{eqb-true, eq-eqb, true≢false}
use Rattle.word_field.specs.Field.{FieldOps, IsField, IsValue}
use Rattle.word_field.specs.laws.Field.{zero-plus-zero, zero-plus}
use Rattle.monomial_order.specs.declared.terms.Term.{Term}
use Rattle.monomial_order.specs.laws.Lists.{contains_cases, contains_none}
use Rattle.monomial_order.specs.Monomial.{Exponents, weighted_degree}
use Rattle.monomial_order.specs.MonomialOrder.{MonomialOrder, IsMonomialOrder}
use Rattle.monomial_order.specs.laws.Comparing.{degree_one}
use Rattle.polynomials.specs.Polynomial.{Polynomial, same_monomial, coefficient, Same, times, scaled, constant, term_of, negated, minus, IsPoly, IsDecreasing, IsLead, IsHomogeneous, IsComponent, AllAt, component}
use Rattle.polynomials.specs.Ideal.{Multiple, AreMultiples, sum_of, InIdeal}
use Rattle.polynomials.specs.Value.{power, monomial_value}
use Rattle.polynomials.specs.Subalgebra.{IsGenerator, AreGenerators}
use Rattle.polynomials.specs.laws.Ring.{coefficient_value}
use Rattle.polynomials.specs.laws.Same.{same_true, times_same, append_same}
use Rattle.polynomials.specs.laws.Decreasing.{coefficient_first}
use Rattle.polynomials.specs.laws.Canonical.{canonical}
use Rattle.polynomials.specs.laws.Membership.{IsPoly-power, IsPoly-monomial_value, ArePolys}
use Rattle.polynomials.specs.laws.Leads.{tail_zero}
use Rattle.polynomials.specs.laws.Terms.{AllAt-append}
use Rattle.polynomials.specs.laws.Ideal.{times_nil}

pub differs : (a d : ℕ) → a ≢ d → nat_eq a d ≡ false
differs a d h = elim (nat_eq a d) as (λ b. nat_eq a d ≡ b → b ≡ false) [ true ↦ λ e. absurd (h (eqb-true a d e)) | false ↦ λ e. refl ] refl

module _ {E : Type 0} where
  -- the terms whose degree with k more is d
  abbrev picked : MonomialOrder → ℕ → ℕ → Polynomial E → Polynomial E
  picked O k d [] = []
  picked O k d (t ∷ p) = cond (nat_eq (O.degree t.at + k) d) (t ∷ picked O k d p) (picked O k d p)

  component_cons : (b : Bool) (t : Term E) (p q : Polynomial E) → cond b (t ∷ (p ++ q)) (p ++ q) ≡ cond b (t ∷ p) p ++ q
  component_cons true t p q = refl
  component_cons false t p q = refl

  pub component-append : (O : MonomialOrder) (d : ℕ) (p q : Polynomial E) → component O d (p ++ q) ≡ component O d p ++ component O d q
  component-append O d [] q = refl
  component-append O d (t ∷ p) q =
      ap (λ x. cond (nat_eq (O.degree t.at) d) (t ∷ x) x) (component-append O d p q) ∙ component_cons (nat_eq (O.degree t.at) d) t (component O d p) (component O d q)

  component_all : (O : MonomialOrder) (d : ℕ) (p : Polynomial E) → AllAt (λ m. O.degree m ≡ d) p → component O d p ≡ p
  component_all O d [] h = refl
  component_all O d (t ∷ p) h =
      ap (λ b. cond b (t ∷ component O d p) (component O d p)) (eq-eqb (O.degree t.at) d h.0) ∙ ap (λ x. t ∷ x) (component_all O d p h.1)

  component_none : (O : MonomialOrder) (d e : ℕ) (p : Polynomial E) → AllAt (λ m. O.degree m ≡ e) p → e ≢ d → component O d p ≡ []
  component_none O d e [] h n = refl
  component_none O d e (t ∷ p) h n =
      ap (λ b. cond b (t ∷ component O d p) (component O d p)) (differs (O.degree t.at) d (λ x. n (sym h.0 ∙ x))) ∙ component_none O d e p h.1 n

  IsPoly-picked : (K : FieldOps E) (n : ℕ) (O : MonomialOrder) (k d : ℕ) (p : Polynomial E) → IsPoly K n p → IsPoly K n (picked O k d p)
  IsPoly-picked K n O k d [] h = tt
  IsPoly-picked K n O k d (t ∷ p) h = by_test (nat_eq (O.degree t.at + k) d) (IsPoly-picked K n O k d p h.1)
    where
      by_test : (b : Bool) → IsPoly K n (picked O k d p) → IsPoly K n (cond b (t ∷ picked O k d p) (picked O k d p))
      by_test true r = (h.0, r)
      by_test false r = r

module _ {E : Type 0} (K : FieldOps E) where
  -- the component of a difference
  pub component-minus : (O : MonomialOrder) (d : ℕ) (p q : Polynomial E) → component O d (minus K p q) ≡ minus K (component O d p) (component O d q)
  component-minus O d p q = component-append O d p (negated K q) ∙ ap (λ x. component O d p ++ x) (negated_part q)
    where
      negated_part : (q : Polynomial E) → component O d (negated K q) ≡ negated K (component O d q)
      negated_part [] = refl
      negated_part (t ∷ q) =
          ap (λ x. cond (nat_eq (O.degree t.at) d) (term_of t.at (K.negate t.by) ∷ x) x) (negated_part q) ∙
          elim (nat_eq (O.degree t.at) d) as (λ b. cond b (term_of t.at (K.negate t.by) ∷ negated K (component O d q)) (negated K (component O d q)) ≡ negated K (cond b (t ∷ component O d q) (component O d q))) [ true ↦ refl | false ↦ refl ]

pub generator_of : {E : Type 0} (K : FieldOps E) (O : MonomialOrder) (rs : List (Polynomial E)) → AreGenerators K O rs → (r : Polynomial E) → Contains rs r → IsGenerator K O r
generator_of K O [] h r k = absurd (contains_none r k)
generator_of K O (x ∷ rs) h r k = ⊎_elim (λ e. subst (IsGenerator K O) e h.0) (λ i. generator_of K O rs h.1 r i) (contains_cases x rs r k)

module _ {E : Type 0} (K : FieldOps E) (F : IsField K) (O : MonomialOrder) (L : IsMonomialOrder O) where
  -- a monomial with a nonzero coefficient is that of a term
  pub all_found : (P : List ℕ → Type 0) (p : Polynomial E) → AllAt P p → (n : Exponents) → coefficient K p n ≢ K.zero → P n
  unfolding coefficient
  all_found P [] h n k = absurd (k refl)
  all_found P (t ∷ p) h n k =
      elim (same_monomial t.at n) as (λ b. same_monomial t.at n ≡ b → P n) [
        | true ↦ λ e. subst P (same_true t.at n e) h.0
        | false ↦ λ e. all_found P p h.1 n (λ z. k (ap (λ b. K.plus (cond b t.by K.zero) (coefficient K p n)) e ∙ (ap (K.plus K.zero) z ∙ zero-plus-zero K F)))
      ] refl

  -- what holds of each monomial with a nonzero coefficient holds of each term of a decreasing list
  pub decreasing_all : (P : List ℕ → Type 0) (p : Polynomial E) → IsDecreasing K O p → ((m : Exponents) → coefficient K p m ≢ K.zero → P m) → AllAt P p
  decreasing_all P [] h k = tt
  decreasing_all P (t ∷ p) h k =
      (k t.at (λ z. h.0.nonzero (sym (coefficient_first K F O L t p h.0) ∙ z)), decreasing_all P p h.1 (λ m c. k m (λ z. c (tail_zero K F O L t p h.0 m c z))))

  coefficient_step : (b1 b2 bm : Bool) (a c : E) → IsValue K c → (b2 ≡ true → b1 ≡ bm) →
      cond b1 (K.plus (cond b2 a K.zero) (cond bm c K.zero)) (cond bm c K.zero) ≡ cond bm (K.plus (cond b2 a K.zero) c) K.zero
  coefficient_step true true true a c v h = refl
  coefficient_step true true false a c v h = absurd (true≢false (h refl))
  coefficient_step false true true a c v h = absurd (true≢false (sym (h refl)))
  coefficient_step false true false a c v h = refl
  coefficient_step true false true a c v h = refl
  coefficient_step true false false a c v h = zero-plus-zero K F
  coefficient_step false false true a c v h = sym (zero-plus K F c ∙ v)
  coefficient_step false false false a c v h = refl

  pub coefficient-component : (d : ℕ) (p : Polynomial E) (m : Exponents) → coefficient K (component O d p) m ≡ cond (nat_eq (O.degree m) d) (coefficient K p m) K.zero
  unfolding coefficient
  coefficient-component d [] m = elim (nat_eq (O.degree m) d) as (λ b. K.zero ≡ cond b K.zero K.zero) [ true ↦ refl | false ↦ refl ]
  coefficient-component d (t ∷ p) m =
      pull (nat_eq (O.degree t.at) d) ∙
      (ap (λ x. cond (nat_eq (O.degree t.at) d) (K.plus (cond (same_monomial t.at m) t.by K.zero) x) x) (coefficient-component d p m) ∙
      coefficient_step (nat_eq (O.degree t.at) d) (same_monomial t.at m) (nat_eq (O.degree m) d) t.by (coefficient K p m) (coefficient_value K F p m)
      (λ e. ap (λ k. nat_eq (O.degree k) d) (same_true t.at m e)))
    where
      pull : (b : Bool) → coefficient K (cond b (t ∷ component O d p) (component O d p)) m ≡
          cond b (K.plus (cond (same_monomial t.at m) t.by K.zero) (coefficient K (component O d p) m)) (coefficient K (component O d p) m)
      pull true = refl
      pull false = refl

  pub component_is : (d : ℕ) (p : Polynomial E) → IsComponent K O d p (component O d p)
  component_is d p = record {
    inside = λ m e. coefficient-component d p m ∙ ap (λ b. cond b (coefficient K p m) K.zero) (eq-eqb (O.degree m) d e);
    outside = λ m n. coefficient-component d p m ∙ ap (λ b. cond b (coefficient K p m) K.zero) (differs (O.degree m) d n);
  }

  pub component_nonzero : (d : ℕ) (p : Polynomial E) (m : Exponents) → coefficient K (component O d p) m ≢ K.zero → (O.degree m ≡ d) × (coefficient K p m ≢ K.zero)
  component_nonzero d p m k =
      elim (nat_eq (O.degree m) d) as (λ b. nat_eq (O.degree m) d ≡ b → (O.degree m ≡ d) × (coefficient K p m ≢ K.zero)) [
        | true ↦ λ e. (eqb-true (O.degree m) d e, λ z. k ((component_is d p).inside m (eqb-true (O.degree m) d e) ∙ z))
        | false ↦ λ e. absurd (k (coefficient-component d p m ∙ ap (λ b. cond b (coefficient K p m) K.zero) e))
      ] refl

  -- the component of the degree of a lead has that lead, and is homogeneous
  pub component_leads : (p : Polynomial E) (m : Exponents) → IsLead K O p m → IsLead K O (component O (O.degree m) p) m × IsHomogeneous K O (O.degree m) (component O (O.degree m) p)
  component_leads p m h =
      let nonzero : coefficient K (component O (O.degree m) p) m ≢ K.zero = λ z. h.nonzero (sym ((component_is (O.degree m) p).inside m refl) ∙ z) in (
        record { nonzero = nonzero; greatest = λ n k ne. h.greatest n (component_nonzero (O.degree m) p n k).1 ne },
        record { some = (m, nonzero); each = λ n k. (component_nonzero (O.degree m) p n k).0 },
      )

  pub component_same : (d : ℕ) (p q : Polynomial E) → Same K p q → Same K (component O d p) (component O d q)
  component_same d p q h m =
      coefficient-component d p m ∙ (ap (λ x. cond (nat_eq (O.degree m) d) x K.zero) (h m) ∙ sym (coefficient-component d q m))

  -- all monomials of p have the degree d
  abbrev pub IsGraded : ℕ → Polynomial E → Type 0
  IsGraded d p = (m : Exponents) → coefficient K p m ≢ K.zero → O.degree m ≡ d

  graded_form : (d : ℕ) (p : Polynomial E) → IsPoly K O.places p → IsGraded d p → (q : Polynomial E) × Same K q p × AllAt (λ m. O.degree m ≡ d) q
  graded_form d p hp hg =
      let r = canonical K F O L p hp in
      (r.0, r.1.same, decreasing_all (λ m. O.degree m ≡ d) r.0 r.1.decreasing (λ m c. hg m (λ z. c (r.1.same m ∙ z))))

  pub graded_component : (d : ℕ) (p : Polynomial E) → IsPoly K O.places p → IsGraded d p → Same K (component O d p) p
  graded_component d p hp hg m =
      let r = graded_form d p hp hg in
      sym (component_same d r.0 p r.1 m) ∙ (ap (λ x. coefficient K x m) (component_all O d r.0 r.2) ∙ r.1 m)

  pub graded_no_component : (d e : ℕ) (p : Polynomial E) → IsPoly K O.places p → IsGraded e p → e ≢ d → Same K (component O d p) []
  graded_no_component d e p hp hg n m =
      let r = graded_form e p hp hg in
      sym (component_same d r.0 p r.1 m) ∙ ap (λ x. coefficient K x m) (component_none O d e r.0 r.2 n)

  all_scaled : (t : Term E) (q : Polynomial E) (d e : ℕ) → O.degree t.at ≡ d → AllAt (λ m. O.degree m ≡ e) q → AllAt (λ m. O.degree m ≡ d + e) (scaled K t q)
  all_scaled t [] d e h k = tt
  all_scaled t (u ∷ q) d e h k = (let p = L.degree_product t.at u.at in let a = k.0 in omega arith, all_scaled t q d e h k.1)

  all_times : (p q : Polynomial E) (d e : ℕ) → AllAt (λ m. O.degree m ≡ d) p → AllAt (λ m. O.degree m ≡ e) q → AllAt (λ m. O.degree m ≡ d + e) (times K p q)
  all_times [] q d e h k = tt
  all_times (t ∷ p) q d e h k =
      AllAt-append (λ m. O.degree m ≡ d + e) (scaled K t q) (times K p q) (all_scaled t q d e h.0 k) (all_times p q d e h.1 k)

  pub graded_times : (p q : Polynomial E) (d e : ℕ) → IsPoly K O.places p → IsPoly K O.places q → IsGraded d p → IsGraded e q → IsGraded (d + e) (times K p q)
  graded_times p q d e hp hq gp gq m c =
      let r = graded_form d p hp gp in
      let s = graded_form e q hq gq in
      all_found (λ k. O.degree k ≡ d + e) (times K r.0 s.0) (all_times r.0 s.0 d e r.2 s.2) m (λ z. c (sym (times_same K F r.0 p s.0 q r.1 s.1 m) ∙ z))

  -- the component of a product with a homogeneous polynomial
  component_times : (q r : Polynomial E) (k d : ℕ) → AllAt (λ m. O.degree m ≡ k) r → component O d (times K q r) ≡ times K (picked O k d q) r
  component_times [] r k d h = refl
  component_times (t ∷ q) r k d h =
      component-append O d (scaled K t r) (times K q r) ∙
      (ap (λ x. component O d (scaled K t r) ++ x) (component_times q r k d h) ∙ by_test (nat_eq (O.degree t.at + k) d) refl)
    where
      by_test : (b : Bool) → nat_eq (O.degree t.at + k) d ≡ b → component O d (scaled K t r) ++ times K (picked O k d q) r ≡ times K (cond b (t ∷ picked O k d q) (picked O k d q)) r
      by_test true e = ap (λ x. x ++ times K (picked O k d q) r)
          (component_all O d (scaled K t r) (subst (λ x. AllAt (λ m. O.degree m ≡ x) (scaled K t r)) (eqb-true (O.degree t.at + k) d e) (all_scaled t r (O.degree t.at) k refl h)))
      by_test false e = ap (λ x. x ++ times K (picked O k d q) r)
          (component_none O d (O.degree t.at + k) (scaled K t r) (all_scaled t r (O.degree t.at) k refl h) (λ s. true≢false (sym (eq-eqb (O.degree t.at + k) d s) ∙ e)))

  part_component : (d : ℕ) (q r : Polynomial E) → IsPoly K O.places q → IsGenerator K O r → (s : Polynomial E) × IsPoly K O.places s × Same K (component O d (times K q r)) (times K s r)
  unfolding coefficient
  part_component d q r hq hr = ⊎_elim none some hr.homogeneous
    where
      none : ((m : Exponents) → coefficient K r m ≡ K.zero) → (s : Polynomial E) × IsPoly K O.places s × Same K (component O d (times K q r)) (times K s r)
      none z = ([], tt, λ m. component_same d (times K q r) [] (λ i. times_same K F q q r [] (λ j. refl) z i ∙ times_nil K F q i) m)

      some : (k : ℕ) × (1 ≤ k) × IsHomogeneous K O k r → (s : Polynomial E) × IsPoly K O.places s × Same K (component O d (times K q r)) (times K s r)
      some h =
          let f = graded_form h.0 r hr.poly h.2.each in (
            picked O h.0 d q,
            IsPoly-picked K O.places O h.0 d q hq,
            λ m.
                sym (component_same d (times K q f.0) (times K q r) (times_same K F q q f.0 r (λ j. refl) f.1) m) ∙
                (ap (λ x. coefficient K x m) (component_times q f.0 h.0 d f.2) ∙ times_same K F (picked O h.0 d q) (picked O h.0 d q) f.0 r (λ j. refl) f.1 m),
          )

  -- a homogeneous ideal has each component of its members
  pub ideal_component : (rs : List (Polynomial E)) → AreGenerators K O rs → (d : ℕ) (a : Polynomial E) → InIdeal K O.places rs a → InIdeal K O.places rs (component O d a)
  ideal_component rs g d a h =
      let r = all h.parts h.multiples in
      record { parts = r.0; multiples = r.1; sums = λ m. component_same d a (sum_of K h.parts) h.sums m ∙ r.2 m }
    where
      all : (ws : List (Multiple E)) → AreMultiples K O.places rs ws → (vs : List (Multiple E)) × AreMultiples K O.places rs vs × Same K (component O d (sum_of K ws)) (sum_of K vs)
      all [] k = ([], tt, λ m. refl)
      all (w ∷ ws) k =
          let first = part_component d w.by w.of k.0 (generator_of K O rs g w.of k.1) in
          let rest = all ws k.2 in (
            record { by = first.0; of = w.of } ∷ rest.0,
            (first.1, k.1, rest.1),
            λ m.
                ap (λ x. coefficient K x m) (component-append O d (times K w.by w.of) (sum_of K ws)) ∙
                append_same K F (component O d (times K w.by w.of)) (times K first.0 w.of) (component O d (sum_of K ws)) (sum_of K rest.0) first.2 rest.2 m,
          )

  -- polynomials that are homogeneous of the given degrees, or zero
  abbrev pub AreGraded : List ℕ → List (Polynomial E) → Type 0
  AreGraded ds [] = Unit {0}
  AreGraded [] (f ∷ fs) = ⊥
  AreGraded (d ∷ ds) (f ∷ fs) = IsPoly K O.places f × IsGraded d f × AreGraded ds fs

  pub polys_graded : (ds : List ℕ) (fs : List (Polynomial E)) → AreGraded ds fs → ArePolys K F O.places fs
  polys_graded ds [] h = tt
  polys_graded [] (f ∷ fs) h = absurd h
  polys_graded (d ∷ ds) (f ∷ fs) h = (h.0, polys_graded ds fs h.2)

  graded_one : IsGraded 0 (constant K K.one)
  graded_one m c = all_found (λ k. O.degree k ≡ 0) (constant K K.one) (degree_one O L, tt) m c

  graded_power : (f : Polynomial E) (d e : ℕ) → IsPoly K O.places f → IsGraded d f → IsGraded (d * e) (power K f e)
  graded_power f d zero hp hg = subst (λ x. IsGraded x (constant K K.one)) (let z : 0 ≡ d * 0 = omega arith in z) graded_one
  graded_power f d (suc e) hp hg =
      subst (λ x. IsGraded x (times K f (power K f e))) (let z : d + d * e ≡ d * suc e = omega arith in z)
      (graded_times f (power K f e) d (d * e) hp (IsPoly-power K F O.places f e hp) hg (graded_power f d e hp hg))

  pub graded_value : (m : Exponents) (ds : List ℕ) (fs : List (Polynomial E)) → Rattle.std.proofs.Common.length ds ≡ Rattle.std.proofs.Common.length fs → AreGraded ds fs → IsGraded (weighted_degree ds m) (monomial_value K m fs)
  graded_value [] [] fs l h = graded_one
  graded_value [] (d ∷ ds) fs l h = graded_one
  graded_value (e ∷ m) [] [] l h = graded_one
  graded_value (e ∷ m) (d ∷ ds) [] l h = absurd (omega arith)
  graded_value (e ∷ m) [] (f ∷ fs) l h = absurd h
  graded_value (e ∷ m) (d ∷ ds) (f ∷ fs) l h =
      graded_times (power K f e) (monomial_value K m fs) (d * e) (weighted_degree ds m) (IsPoly-power K F O.places f e h.0)
      (IsPoly-monomial_value K F O.places m fs (polys_graded ds fs h.2)) (graded_power f d e h.0 h.1) (graded_value m ds fs (omega arith) h.2)

-- Which witnesses are due.
use Rattle.std.proofs.Common.{◌≡◌, ◌≢◌, ℕ, ◌+◌, ◌-◌, ◌<◌, ◌≤◌, List, [], ◌∷◌, ◌++◌, length, get_or, sym, ap, subst, ◌∙◌, arith}
use Rattle.word_field.specs.Field.{IsField}
use Rattle.monomial_order.specs.Monomial.{Exponents, exponent}
use Rattle.monomial_order.specs.MonomialOrder.{MonomialOrder}
use Rattle.monomial_order.specs.Orders.{word_order}
use Rattle.monomial_order.specs.declared.word_order.WordOrder.{WordOrder}
use Rattle.poly_core.specs.laws.Text.{exponent_within}
use Rattle.polynomials.specs.Polynomial.{Polynomial, coefficient, degree_of, lead_monomial, IsCanonical, IsHomogeneous, AllAt}
use Rattle.polynomials.specs.Subalgebra.{Presented}
use Rattle.polynomials.specs.laws.Coefficients.{found_monomial}
use Rattle.polynomials.specs.laws.Decreasing.{IsDecreasing_IsPoly}
use Rattle.polynomials.specs.laws.Degrees.{all_found, decreasing_all}
use Rattle.polynomials.specs.laws.Terms.{poly_monomials}
use Rattle.witness.specs.Expansion.{UsesUpTo}
use Rattle.witness.specs.Tracking.{by_order, IsGraded, IsWitnessOrder}
use Rattle.witness.specs.laws.Letters.{by_laws, by_places, element_weight}
use Rattle.state_text.specs.Parts.{witness_order, IsDueWitness}
use Rattle.state_text.proofs.Degrees.{not_zero, lead_nonzero}

module _ {E : Type 0} (P : Presented E) (F : IsField P.field) (S : List (Polynomial E)) (w : WordOrder) (h : IsWitnessOrder P S w) where
  abbrev k : ℕ
  k = length P.generators

  pub order_is : by_order w ≡ witness_order P S
  order_is = ap (λ xs. word_order xs w.s_degrees.items) h.no_x ∙ ap (word_order []) h.degrees

  weights_are : w.s_degrees.items ≡ w.x_degrees.items ++ w.s_degrees.items
  weights_are = ap (λ xs. xs ++ w.s_degrees.items) (sym h.no_x)

  module _ (a : Polynomial E) (c : IsCanonical P.field (by_order w) a) (d : ℕ) where
    inside : (m : Exponents) → coefficient P.field a m ≢ P.field.zero → (i : ℕ) → exponent m (k + i) ≢ 0 → i < length S
    inside m n i e =
        let monomial = found_monomial P.field F (by_order w) (by_laws w) a (IsDecreasing_IsPoly P.field (by_order w) a c.decreasing) m n in
        let lt = exponent_within m (k + i) e in
        let within = monomial.within in
        omega (arith, by_places P S w h)

    weight : (i : ℕ) → i < length S → get_or w.s_degrees.items (k + i) 0 ≡ degree_of P.order (get_or S i [])
    weight i lt = ap (λ ws. get_or ws (k + i) 0) weights_are ∙ element_weight P S w h i lt

    -- the letters of elements have smaller degrees if the greatest degree of one is smaller
    lower : 1 ≤ d → AllAt (UsesUpTo k w.s_degrees.items (d - 1)) a → (m : Exponents) → coefficient P.field a m ≢ P.field.zero → (i : ℕ) → exponent m (k + i) ≢ 0 → degree_of P.order (get_or S i []) < d
    lower some all m n i e =
        let most = all_found P.field F (by_order w) (by_laws w) (UsesUpTo k w.s_degrees.items (d - 1)) a all m n i e in
        omega (arith, most, weight i (inside m n i e))

    uses : 1 ≤ d → ((m : Exponents) → coefficient P.field a m ≢ P.field.zero → (i : ℕ) → exponent m (k + i) ≢ 0 → degree_of P.order (get_or S i []) < d) → AllAt (UsesUpTo k w.s_degrees.items (d - 1)) a
    uses some low =
        decreasing_all P.field F (by_order w) (by_laws w) (UsesUpTo k w.s_degrees.items (d - 1)) a c.decreasing
        (λ m n i e. omega (arith, low m n i e, weight i (inside m n i e)))

    pub due : 1 ≤ d → IsHomogeneous P.field (by_order w) d a → AllAt (UsesUpTo k w.s_degrees.items (d - 1)) a → IsDueWitness P S d a
    due some graded all = record {
      canonical = subst (λ O. IsCanonical P.field O a) order_is c;
      nonzero = not_zero P.field F (by_order w) (by_laws w) a graded.some.0 graded.some.1;
      graded = subst (λ O. IsGraded P.field O d a) order_is graded.each;
      lower = lower some all;
    }

    pub due_graded : IsDueWitness P S d a → IsHomogeneous P.field (by_order w) d a
    due_graded t =
        let each = subst (λ O. IsGraded P.field O d a) (sym order_is) t.graded in
        record { some = (lead_monomial a, lead_nonzero P.field F (by_order w) (by_laws w) a c.decreasing t.nonzero); each = each }

    pub due_uses : 1 ≤ d → IsDueWitness P S d a → AllAt (UsesUpTo k w.s_degrees.items (d - 1)) a
    due_uses some t = uses some t.lower

-- A polynomial in which no letter of an element is left is one in the letters of the generators.
use Rattle.std.proofs.Common.{◌≡◌, ◌≢◌, ℕ, zero, suc, ◌+◌, ◌-◌, ◌<◌, ◌≤◌, sym, ◌∙◌, ap, subst, List, [], ◌∷◌, ◌++◌, length, get_or, arith, ⊎_elim}
use Rattle.std.specs.Prelude.{map}
use Rattle.std.proofs.lemmas.List.{length-map}
use Rattle.word_field.specs.Field.{IsField}
use Rattle.monomial_order.specs.Monomial.{Exponents, exponent, IsMonomial, IsTrimmed}
use Rattle.monomial_order.specs.MonomialOrder.{MonomialOrder}
use Rattle.monomial_order.specs.declared.word_order.WordOrder.{WordOrder}
use Rattle.monomial_order.specs.laws.Cofactors.{same_exponents}
use Rattle.monomial_order.specs.laws.Comparing.{le_or_not, numbers_or_not}
use Rattle.monomial_order.specs.laws.Monomial.{trimmed_tail, exponent_past}
use Rattle.monomial_order.specs.laws.Orders.{ArePositive, positive_weights}
use Rattle.polynomials.specs.Polynomial.{Polynomial, coefficient, degree_of, AllAt, IsDecreasing, IsCanonical}
use Rattle.polynomials.specs.Value.{value}
use Rattle.polynomials.specs.Subalgebra.{Presented}
use Rattle.polynomials.specs.laws.Degrees.{all_found}
use Rattle.polynomials.specs.laws.Terms.{AllAt-map}
use Rattle.poly_core.specs.Presentation.{generator_degree}
use Rattle.subalgebra_laws.specs.laws.Fronts.{value_front}
use Rattle.witness.specs.Expansion.{UsesUpTo}
use Rattle.witness.specs.Tracking.{by_order, IsWitnessOrder}
use Rattle.witness.specs.laws.Letters.{by_laws}
use Rattle.witness.specs.laws.Longer.{canonical_front, places_front, same_degree}

trimmed_within : (k : ℕ) (m : Exponents) → IsTrimmed m → ((i : ℕ) → k ≤ i → exponent m i ≡ 0) → length m ≤ k
trimmed_within k [] h z = omega arith
trimmed_within zero (a ∷ m) h z = let e : a ∷ m ≡ [] = same_exponents (a ∷ m) [] h tt (λ i. z i (omega arith)) in absurd cc
trimmed_within (suc k) (a ∷ m) h z = let r = trimmed_within k m (trimmed_tail a m h) (λ i l. z (suc i) (omega arith)) in omega arith

positive_at : (ws : List ℕ) (i : ℕ) → ArePositive ws → i < length ws → 1 ≤ get_or ws i 0
positive_at [] i h l = absurd (omega arith)
positive_at (w ∷ ws) zero h l = h.0
positive_at (w ∷ ws) (suc i) h l = positive_at ws i h.1 (omega arith)

module _ {E : Type 0} (P : Presented E) (F : IsField P.field) (S : List (Polynomial E)) (w v : WordOrder) (h : IsWitnessOrder P S w) (no_x : v.x_degrees.items ≡ [])
    (degrees : v.s_degrees.items ≡ map (generator_degree P.order) P.generators) where
  abbrev k : ℕ
  k = length P.generators

  abbrev ds : List ℕ
  ds = w.s_degrees.items

  abbrev ss : List ℕ
  ss = map (degree_of P.order) S

  abbrev W : MonomialOrder
  W = by_order w

  abbrev V : MonomialOrder
  V = by_order v

  -- w has the letters of v, and those of the elements
  more : ds ≡ v.s_degrees.items ++ ss
  more = h.degrees ∙ ap (λ xs. xs ++ ss) (sym degrees)

  places : V.places ≡ k
  places = places_front v w ss no_x h.no_x more ∙ (ap length degrees ∙ length-map P.generators (generator_degree P.order))

  module _ (e : Polynomial E) (c : IsCanonical P.field W e) (u : AllAt (UsesUpTo k ds 0) e) where
    front_monomial : (m : Exponents) → IsMonomial W.places m → UsesUpTo k ds 0 m → IsMonomial k m
    front_monomial m t x = record { trimmed = t.trimmed; within = trimmed_within k m t.trimmed no_letter }
      where
        letters : W.places ≡ length ds
        letters = ap (λ xs. length (xs ++ ds)) h.no_x

        no_letter : (i : ℕ) → k ≤ i → exponent m i ≡ 0
        no_letter i l =
            ⊎_elim (λ z. z)
            (λ n.
            let e : k + (i - k) ≡ i = omega arith in
            let a = x (i - k) (λ z. n (ap (exponent m) (sym e) ∙ z)) in
            ⊎_elim (λ past. absurd (n (exponent_past m i past)))
            (λ inside. let b = positive_at ds (k + (i - k)) (positive_weights 1 30000 ds (omega arith) w.s_in_range) (let d = t.within in let f = letters in omega (arith, inside)) in absurd (omega arith))
            (le_or_not (length m) i))
            (numbers_or_not (exponent m i) 0)

    pub fronts : AllAt (IsMonomial k) e
    fronts = all e c.decreasing u
      where
        all : (e : Polynomial E) → IsDecreasing P.field W e → AllAt (UsesUpTo k ds 0) e → AllAt (IsMonomial k) e
        all [] d u = tt
        all (t ∷ e) d u = (front_monomial t.at (let l = d.0 in l.term.monomial) u.0, all e d.1 u.1)

    pub front_canonical : IsCanonical P.field V e
    front_canonical = canonical_front v w ss no_x h.no_x more P.field F e (subst (λ n. AllAt (IsMonomial n) e) (sym places) fronts) c

    pub front_degrees : (m : Exponents) → coefficient P.field e m ≢ P.field.zero → W.degree m ≡ V.degree m
    front_degrees m n = same_degree v w ss no_x h.no_x more m (let l = all_found P.field F W (by_laws w) (IsMonomial k) e fronts m n in let a = l.within in let b = places in omega arith)

    pub front_value : value P.field e (P.generators ++ S) ≡ value P.field e P.generators
    front_value = value_front P.field e P.generators S (AllAt-map (IsMonomial k) (λ m. length m ≤ k) (λ m h. h.within) e fronts)

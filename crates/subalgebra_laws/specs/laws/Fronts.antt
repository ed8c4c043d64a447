-- Polynomials in the first places of a longer list.
use Rattle.std.proofs.Common.{◌≡◌, refl, ◌∙◌, ap, List, [], ◌∷◌, ◌++◌, length, ◌≤◌, ℕ, arith}
use Rattle.word_field.specs.Field.{FieldOps}
use Rattle.monomial_order.specs.Monomial.{IsMonomial}
use Rattle.monomial_order.specs.MonomialOrder.{MonomialOrder}
use Rattle.polynomials.specs.Polynomial.{Polynomial, times, AllAt, IsBelow, IsDecreasing, constant, IsCanonical, IsSmall}
use Rattle.polynomials.specs.Value.{power, monomial_value, term_value, value}

-- the value of a word over the first members of a list
pub monomial_value_front : {E : Type 0} (K : FieldOps E) (w : List ℕ) (fs gs : List (Polynomial E)) → length w ≤ length fs → monomial_value K w (fs ++ gs) ≡ monomial_value K w fs
monomial_value_front K [] fs gs l = refl
monomial_value_front K (e ∷ w) [] gs l = absurd (omega arith)
monomial_value_front K (e ∷ w) (f ∷ fs) gs l = ap (times K (power K f e)) (monomial_value_front K w fs gs (omega arith))

-- the value of a polynomial in the first members of a list
pub value_front : {E : Type 0} (K : FieldOps E) (e : Polynomial E) (fs gs : List (Polynomial E)) → AllAt (λ m. length m ≤ length fs) e → value K e (fs ++ gs) ≡ value K e fs
value_front K [] fs gs a = refl
value_front K (t ∷ e) fs gs a =
    ap (λ x. times K (constant K t.by) x ++ value K e (fs ++ gs)) (monomial_value_front K t.at fs gs a.0) ∙
    ap (λ x. term_value K fs t ++ x) (value_front K e fs gs a.1)

-- a list that is decreasing in one order is so in another that compares its words in the same way
pub decreasing_over : {E : Type 0} (K : FieldOps E) (O N : MonomialOrder) (Q : List ℕ → Type 0) → ((w : List ℕ) → Q w → IsMonomial N.places w) → ((v w : List ℕ) → Q v → Q w → N.compare v w ≡ O.compare v w) →
    (p : Polynomial E) → AllAt Q p → IsDecreasing K O p → IsDecreasing K N p
decreasing_over K O N Q word same [] h f = tt
decreasing_over {E} K O N Q word same (t ∷ p) h f =
    (record { term = record { monomial = word t.at h.0; value = f.0.term.value }; nonzero = f.0.nonzero; above = below p h.1 f.0.above }, decreasing_over K O N Q word same p h.1 f.1)
  where
    below : (p : Polynomial E) → AllAt Q p → IsBelow K O t.at p → IsBelow K N t.at p
    below [] k b = tt
    below (u ∷ p) k b = (same u.at t.at k.0 h.0 ∙ b.0, below p k.1 b.1)

-- and it is canonical, if the degrees are the same too
pub canonical_over : {E : Type 0} (K : FieldOps E) (O N : MonomialOrder) (Q : List ℕ → Type 0) → ((w : List ℕ) → Q w → IsMonomial N.places w) → ((v w : List ℕ) → Q v → Q w → N.compare v w ≡ O.compare v w) →
    ((w : List ℕ) → Q w → N.degree w ≡ O.degree w) → (p : Polynomial E) → AllAt Q p → IsCanonical K O p → IsCanonical K N p
canonical_over {E} K O N Q word same degree p h c = record { decreasing = decreasing_over K O N Q word same p h c.decreasing; small = small p h c.small }
  where
    small : (p : Polynomial E) → AllAt Q p → IsSmall O p → IsSmall N p
    small [] h s = tt
    small (t ∷ p) h s = (let d = degree t.at h.0 in let x = s.0 in omega arith, small p h.1 s.1)

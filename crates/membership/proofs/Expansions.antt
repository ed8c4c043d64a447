-- The words that were taken away, as a witness of a polynomial of which nothing is left.
use Rattle.std.proofs.Common.{◌≡◌, ℕ, ◌≤◌, sym, ◌∙◌, ap, subst, List, [], ◌++◌, append-nil, length}
use Rattle.std.proofs.lemmas.List.{length-map}
use Rattle.word_field.specs.Field.{FieldOps}
use Rattle.word_field.specs.laws.Field.{negate-negate, negate-zero}
use Rattle.monomial_order.specs.Monomial.{Exponents}
use Rattle.monomial_order.specs.MonomialOrder.{MonomialOrder}
use Rattle.word_laws.specs.Words.{word_order_of, IsSWord}
use Rattle.polynomials.specs.Polynomial.{Polynomial, coefficient, negated, minus, AllAt, Same}
use Rattle.polynomials.specs.Ideal.{Congruent}
use Rattle.polynomials.specs.Value.{value}
use Rattle.polynomials.specs.Subalgebra.{Presented, IsPresentation}
use Rattle.polynomials.specs.laws.Congruence.{congruent_same, congruent_trans}
use Rattle.polynomials.specs.laws.Degrees.{all_found, decreasing_all}
use Rattle.polynomials.specs.laws.Ring.{coefficient_value}
use Rattle.polynomials.specs.laws.Same.{coefficient-negated}
use Rattle.polynomials.specs.laws.Value.{value_same}
use Rattle.poly_core.specs.declared.presentations.Presentation.{Presentation}
use Rattle.poly_core.specs.Presentation.{generator_degree, IsValid}
use Rattle.subalgebra_laws.specs.Words.{combination_value, letters}
use Rattle.witness.specs.declared.tracked.Tracked.{Tracked}
use Rattle.witness.specs.Tracking.{by_order, values_of, Expands, HasDegreesUpTo}
use Rattle.subduction.specs.Basis.{BasisState, IsBasisOf}
use Rattle.subduction.specs.declared.subduction.Subduced.{Subduced}
use Rattle.subduction.specs.Subduced.{witness_sum, IsSubduced}
use Rattle.subduction.specs.laws.WitnessWords.{witness_value}
use Rattle.subduction.specs.laws.Degrees.{letters_laws, moved_degrees}

-- the order of the generators has a place for each of them
pub gen_places : {F O E : Type 0} (ops : F → FieldOps E) (order : O → MonomialOrder) (p : Presentation F O E) →
    IsValid ops order p →
    (let W : MonomialOrder = by_order p.gen_order in W.places) ≡ length p.generators.items
gen_places ops order p v =
    ap (λ xs. length (xs ++ p.gen_order.s_degrees.items)) v.no_x ∙
    (ap length v.degrees ∙ length-map p.generators.items (generator_degree (order p.order)))

module _ {E : Type 0} (P : Presented E) (H : IsPresentation P) where
  open P use {field as K, order as O, generators as fs}

  -- zero less h is h negated
  pub less_same : (r z h : Polynomial E) → z ≡ [] → Same K r (minus K z h) → Same K r (negated K h)
  less_same r z h e s m = s m ∙ ap (λ p. coefficient K (minus K p h) m) e

  -- with the same monomials
  pub negated_degrees : (W : MonomialOrder) (r h : Polynomial E) → Same K r (negated K h) → (d : ℕ) →
      HasDegreesUpTo K W d h → HasDegreesUpTo K W d r
  negated_degrees W r h s d g m n = g m (λ z. n (s m ∙ (coefficient-negated K H.field h m ∙
      (ap K.negate z ∙ negate-zero K H.field))))

  -- what is expanded counts by its coefficients alone
  pub expands_same : (S : List (Polynomial E)) (r h x : Polynomial E) → Same K r h → Expands P S r x → Expands P S h x
  expands_same S r h x s expands =
      congruent_trans K H.field O.places P.ideal (value K h (fs ++ S)) (value K r (fs ++ S)) (value K x fs)
      (congruent_same K H.field O.places P.ideal (value K h (fs ++ S)) (value K r (fs ++ S))
      (λ m. sym (value_same K H.field r h (fs ++ S) s m)))
      expands

module _ {F E : Type 0} (P : Presented E) (H : IsPresentation P) (b : BasisState F E) (B : IsBasisOf P b)
    (t : Tracked F E) (none : t.by ≡ []) (r : Subduced F E) (h : IsSubduced P b t r) where
  open P use {field as K, order as O, generators as fs}
  open H use {field as F', order as L}

  abbrev S : List (Polynomial E)
  S = values_of b.elements

  abbrev W : MonomialOrder
  W = by_order b.by_order

  abbrev M : MonomialOrder
  M = word_order_of (letters P S)

  abbrev e : Polynomial E
  e = r.word_sum

  s_words : AllAt (IsSWord (letters P S)) e
  s_words = decreasing_all K F' M (letters_laws P H b B)
      (IsSWord (letters P S)) e h.parts.sum.decreasing h.parts.sum.words

  -- the witness of what is left is that of the words times -1
  by_words : (m : Exponents) → coefficient K r.rest.by m ≡ K.negate (coefficient K (witness_sum P e) m)
  by_words m =
      h.by m ∙ (ap (λ p. coefficient K (minus K p (witness_sum P e)) m) none ∙
      coefficient-negated K F' (witness_sum P e) m)

  back : Same K (negated K r.rest.by) (witness_sum P e)
  back m =
      coefficient-negated K F' r.rest.by m ∙ (ap K.negate (by_words m) ∙
      (negate-negate K F' (coefficient K (witness_sum P e) m) ∙ coefficient_value K F' (witness_sum P e) m))

  -- its degrees are those of the value
  pub by_degrees : (d : ℕ) → HasDegreesUpTo K O d t.value → HasDegreesUpTo K W d r.rest.by
  by_degrees d g m n =
      let words = subst (λ N. HasDegreesUpTo K (word_order_of N) d e) B.letters (h.degrees d g).1 in
      all_found K F' O L (λ x. W.degree x ≤ d) (witness_sum P e)
      (moved_degrees P H b B (λ x. x ≤ d) e (decreasing_all K F' M (letters_laws P H b B)
      (λ w. M.degree w ≤ d) e h.parts.sum.decreasing words) s_words) m
      (λ z. n (by_words m ∙ (ap K.negate z ∙ negate-zero K F')))

  -- if nothing is left, what it is expanded to has the value
  pub expansion_value : r.rest.value ≡ [] → (x : Polynomial E) → Expands P S (negated K r.rest.by) x →
      Congruent K O.places P.ideal t.value (value K x fs)
  expansion_value zero x expands =
      let V = combination_value P S e in
      congruent_trans K F' O.places P.ideal t.value V (value K x fs)
      (subst (Congruent K O.places P.ideal t.value) (append-nil V)
      (subst (λ p. Congruent K O.places P.ideal t.value (V ++ p)) zero h.parts.equal))
      (congruent_trans K F' O.places P.ideal V (value K (negated K r.rest.by) (fs ++ S)) (value K x fs)
      (congruent_same K F' O.places P.ideal V (value K (negated K r.rest.by) (fs ++ S))
      (λ m. sym (value_same K F' (negated K r.rest.by) (witness_sum P e) (fs ++ S) back m ∙
      witness_value P H S e s_words m)))
      expands)

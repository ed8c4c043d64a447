-- Letters as polynomials, and their degrees in an order of witnesses.
use Rattle.std.proofs.Common.{◌≡◌, ◌≢◌, ℕ, zero, suc, ◌+◌, ◌-◌, ◌*◌, ◌<◌, ⊎_elim, refl, sym, ◌∙◌, ap, subst, List, [], ◌∷◌, ◌++◌, length, get_or, length-append, arith}
use Rattle.std.specs.Prelude.{map}
use Rattle.std.proofs.lemmas.List.{length-map, get_or-map, get_or_append_left, get_or-append-add}
use Rattle.word_field.specs.Field.{FieldOps, IsField}
use Rattle.monomial_order.specs.Monomial.{Exponents, exponent, variable, weighted_degree}
use Rattle.monomial_order.specs.MonomialOrder.{MonomialOrder, IsMonomialOrder, HasSmallDegrees}
use Rattle.monomial_order.specs.declared.word_order.WordOrder.{WordOrder}
use Rattle.monomial_order.specs.laws.Comparing.{le_or_not}
use Rattle.monomial_order.specs.laws.Monomial.{variable_monomial, variable_off, weighted_nil}
use Rattle.monomial_order.specs.laws.Orders.{word_laws, word_small}
use Rattle.polynomials.specs.Polynomial.{Polynomial, coefficient, IsPoly, IsCanonical, degree_of}
use Rattle.polynomials.specs.Subalgebra.{Presented}
use Rattle.polynomials.specs.laws.Coefficients.{single_term}
use Rattle.polynomials.specs.laws.Decreasing.{coefficient_first}
use Rattle.poly_core.specs.Presentation.{generator_degree, IsCanonicalGenerator, AreCanonicalGenerators}
use Rattle.witness.specs.Tracking.{by_order, letter_poly, IsGraded, IsWitnessOrder}

module _ {E : Type 0} (K : FieldOps E) (F : IsField K) where
  pub letter_is_poly : (n i : ℕ) → i < n → IsPoly K n (letter_poly K i)
  letter_is_poly n i l = (record { monomial = variable_monomial n i l; value = F.one_value }, tt)

  -- the letter of a generator uses no letters after those of the k generators
  pub letter_uses_none : (k i : ℕ) → i < k → (m : Exponents) → coefficient K (letter_poly K i) m ≢ K.zero → (j : ℕ) → exponent m (k + j) ≡ 0
  letter_uses_none k i l m n j = subst (λ v. exponent v (k + j) ≡ 0) (single_term K F (variable i) K.one m n) (variable_off i (k + j) (λ e. omega arith))

  module _ (W : MonomialOrder) where
    pub canonical_letter : HasSmallDegrees W → (i : ℕ) → i < W.places → IsCanonical K W (letter_poly K i)
    canonical_letter S i l =
        let d = S i l in
        record {
          decreasing = (record { term = record { monomial = variable_monomial W.places i l; value = F.one_value }; nonzero = F.one_not_zero; above = tt }, tt);
          small = (omega arith, tt);
        }

    pub graded_letter : (d i : ℕ) → W.degree (variable i) ≡ d → IsGraded K W d (letter_poly K i)
    graded_letter d i e m n = subst (λ v. W.degree v ≡ d) (single_term K F (variable i) K.one m n) e

module _ {E : Type 0} (K : FieldOps E) (F : IsField K) (O : MonomialOrder) (L : IsMonomialOrder O) where
  -- a generator is zero or homogeneous of its degree
  pub generator_graded : (f : Polynomial E) → IsCanonicalGenerator K O f → IsGraded K O (generator_degree O f) f
  unfolding coefficient
  generator_graded [] h m n = absurd (n refl)
  generator_graded (t ∷ f) h m n =
      ⊎_elim (λ e. absurd cc)
      (λ r. r.3.each m n ∙ sym (r.3.each t.at (λ z. (let l = h.canonical.decreasing.0 in l.nonzero) (sym (coefficient_first K F O L t f h.canonical.decreasing.0) ∙ z)))) h.homogeneous

  pub generators_are : (fs : List (Polynomial E)) (i : ℕ) → i < length fs → AreCanonicalGenerators K O fs → IsCanonicalGenerator K O (get_or fs i [])
  generators_are [] i l h = absurd (omega arith)
  generators_are (f ∷ fs) zero l h = h.0
  generators_are (f ∷ fs) (suc i) l h = generators_are fs i (omega arith) h.1

-- a place is one of the first k, or one of n after them
pub by_place : (k n : ℕ) (Q : ℕ → Type 0) → ((i : ℕ) → i < k → Q i) → ((j : ℕ) → j < n → Q (k + j)) → (i : ℕ) → i < k + n → Q i
by_place k n Q first after i l =
    ⊎_elim (λ h. let e : k + (i - k) ≡ i = omega arith in subst Q e (after (i - k) (omega arith))) (λ h. first i (omega arith)) (le_or_not k i)

-- a single letter has its weight as its degree
pub weighted_letter : (ws : List ℕ) (i : ℕ) → i < length ws → weighted_degree ws (variable i) ≡ get_or ws i 0
weighted_letter [] i l = absurd (omega arith)
weighted_letter (w ∷ ws) zero l = let z = weighted_nil ws in let e : w * 1 + weighted_degree ws [] ≡ w = omega arith in e
weighted_letter (w ∷ ws) (suc i) l = let r = weighted_letter ws i (omega arith) in let e : w * 0 + weighted_degree ws (variable i) ≡ weighted_degree ws (variable i) = omega arith in e ∙ r

pub by_laws : (w : WordOrder) → IsMonomialOrder (by_order w)
by_laws w = word_laws w.x_degrees.items w.s_degrees.items w.x_in_range w.s_in_range

pub by_small : (w : WordOrder) → HasSmallDegrees (by_order w)
by_small w = word_small w.x_degrees.items w.s_degrees.items w.x_in_range w.s_in_range

module _ {E : Type 0} (P : Presented E) (S : List (Polynomial E)) (w : WordOrder) (h : IsWitnessOrder P S w) where
  abbrev gs : List ℕ
  gs = map (generator_degree P.order) P.generators

  abbrev ss : List ℕ
  ss = map (degree_of P.order) S

  length_gs : length gs ≡ length P.generators
  length_gs = length-map P.generators (generator_degree P.order)

  length_ss : length ss ≡ length S
  length_ss = length-map S (degree_of P.order)

  pub by_weights : w.x_degrees.items ++ w.s_degrees.items ≡ gs ++ ss
  by_weights = ap (λ xs. xs ++ w.s_degrees.items) h.no_x ∙ h.degrees

  pub by_places : (let W : MonomialOrder = by_order w in W.places) ≡ length P.generators + length S
  by_places = ap length by_weights ∙ (let a = length-append gs ss in let b = length_gs in let c = length_ss in omega arith)

  -- the weights of the letters
  pub generator_weight : (i : ℕ) → i < length P.generators → get_or (w.x_degrees.items ++ w.s_degrees.items) i 0 ≡ generator_degree P.order (get_or P.generators i [])
  generator_weight i l =
      ap (λ ws. get_or ws i 0) by_weights ∙
      (get_or_append_left gs ss 0 i (let b = length_gs in omega arith) ∙ get_or-map (generator_degree P.order) P.generators i [] 0 l)

  pub element_weight : (i : ℕ) → i < length S → get_or (w.x_degrees.items ++ w.s_degrees.items) (length P.generators + i) 0 ≡ degree_of P.order (get_or S i [])
  element_weight i l =
      ap (λ ws. get_or ws (length P.generators + i) 0) by_weights ∙
      (ap (λ n. get_or (gs ++ ss) (n + i) 0) (sym length_gs) ∙
      (get_or-append-add gs ss i 0 ∙ get_or-map (degree_of P.order) S i [] 0 l))

  pub generator_letter : (i : ℕ) → i < length P.generators → (let W : MonomialOrder = by_order w in W.degree (variable i)) ≡ generator_degree P.order (get_or P.generators i [])
  generator_letter i l = weighted_letter (w.x_degrees.items ++ w.s_degrees.items) i (let p = by_places in omega arith) ∙ generator_weight i l

  pub element_letter : (i : ℕ) → i < length S → (let W : MonomialOrder = by_order w in W.degree (variable (length P.generators + i))) ≡ degree_of P.order (get_or S i [])
  element_letter i l = weighted_letter (w.x_degrees.items ++ w.s_degrees.items) (length P.generators + i) (let p = by_places in omega arith) ∙ element_weight i l

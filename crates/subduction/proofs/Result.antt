-- What is left at the end of a subduction.
use Rattle.std.proofs.Common.{◌≡◌, ◌≢◌, ℕ, ◌≤◌, refl, sym, ◌∙◌, ap, subst, List, [], ◌∷◌, ◌++◌, Bool, true, ⊎_elim, arith}
use Rattle.std.specs.Prelude.{nat_eq}
use Rattle.std.proofs.lemmas.Bool.{eqb-true, eq-eqb}
use Rattle.word_field.specs.Field.{FieldOps, IsField}
use Rattle.monomial_order.specs.Monomial.{Exponents}
use Rattle.monomial_order.specs.MonomialOrder.{MonomialOrder}
use Rattle.word_laws.specs.Words.{word_order_of, IsSWord}
use Rattle.polynomials.specs.Polynomial.{Polynomial, coefficient, degree_of, minus, negated, AllAt, IsCanonical, IsPoly, IsSmall, Same}
use Rattle.polynomials.specs.Ideal.{Congruent}
use Rattle.polynomials.specs.Value.{value}
use Rattle.polynomials.specs.Subalgebra.{Presented, IsNormalForm, IsPresentation}
use Rattle.polynomials.specs.laws.Canonical.{zero_or_lead}
use Rattle.polynomials.specs.laws.Coefficients.{nothing_at}
use Rattle.polynomials.specs.laws.Congruence.{congruent_negated, congruent_plus, congruent_same, congruent_sym, congruent_trans, minus_nonzero}
use Rattle.polynomials.specs.laws.Decreasing.{IsDecreasing_IsPoly}
use Rattle.polynomials.specs.laws.Degrees.{all_found, decreasing_all}
use Rattle.polynomials.specs.laws.NormalForm.{normal_form_bounded, normal_form_homogeneous, normal_form_unique}
use Rattle.polynomials.specs.laws.Membership.{value-negated}
use Rattle.polynomials.specs.laws.Ring.{coefficient-append, coefficient_value}
use Rattle.polynomials.specs.laws.Same.{append_same, coefficient-negated}
use Rattle.polynomials.specs.laws.Terms.{canonical_left, AllAt-left}
use Rattle.polynomials.specs.laws.Value.{value-append, value_same}
use Rattle.subalgebra_laws.specs.Words.{combination_value, letters, HasSumAndRest}
use Rattle.witness.specs.declared.tracked.Tracked.{Tracked}
use Rattle.witness.specs.Tracking.{by_order, values_of, HasDegreesUpTo, IsGraded, Tracks}
use Rattle.subduction.specs.Basis.{BasisState, IsBasisOf}
use Rattle.subduction.specs.Steps.{IsIrreducibleWord, IsSubducing}
use Rattle.subduction.specs.Subduced.{witness_sum, CanSubduce, IsSubduced}
use Rattle.subduction.specs.laws.Degrees.{degrees_to, letters_laws, moved_degree, moved_degrees}
use Rattle.subduction.specs.laws.WitnessWords.{s_word_monomial, witness_value}
use Rattle.subduction.proofs.Loop.{up_to, up_to_le, up_to_true}
use Rattle.subduction.proofs.Steps.{finished}

small_at : {E : Type 0} (O : MonomialOrder) (d : ℕ) (p : Polynomial E) → d ≤ 65535 → AllAt (λ m. up_to d (O.degree m) ≡ true) p → IsSmall O p
small_at O d [] l h = tt
small_at O d (t ∷ p) l h = (let u = up_to_le d (O.degree t.at) h.0 in omega arith, small_at O d p l h.1)

module _ {E : Type 0} (K : FieldOps E) (F : IsField K) where
  less_front : (p q : Polynomial E) → Same K (minus K (p ++ q) p) q
  less_front p q m =
      let a = coefficient K p m in
      let d = coefficient K q m in
      coefficient-append K F (p ++ q) (negated K p) m ∙
      (ap (λ x. K.plus x (coefficient K (negated K p) m)) (coefficient-append K F p q m ∙ F.plus_comm a d) ∙
      (ap (K.plus (K.plus d a)) (coefficient-negated K F p m) ∙
      (F.plus_assoc d a (K.negate a) ∙
      (ap (K.plus d) (F.plus_negate a) ∙ (F.plus_zero d ∙ coefficient_value K F q m)))))

module _ {F E : Type 0} (P : Presented E) (H : IsPresentation P) (b : BasisState F E) (B : IsBasisOf P b) where
  open P use {field as K, order as O, generators as fs}
  open H use {field as F', order as L}

  abbrev S : List (Polynomial E)
  S = values_of b.elements

  abbrev W : MonomialOrder
  W = by_order b.by_order

  abbrev M : MonomialOrder
  M = word_order_of (letters P S)

  moved_poly : (e : Polynomial E) → IsPoly K M.places e → AllAt (IsSWord (letters P S)) e → IsPoly K W.places (witness_sum P e)
  moved_poly [] h s = tt
  moved_poly (t ∷ e) h s = (record { monomial = s_word_monomial P H S b.by_order B.by_order t.at s.0; value = h.0.value }, moved_poly e h.1 s.1)

  moved_small : (e : Polynomial E) → IsSmall M e → AllAt (IsSWord (letters P S)) e → IsSmall W (witness_sum P e)
  moved_small [] h s = tt
  moved_small (t ∷ e) h s = (subst (λ n. n ≤ 65535) (sym (moved_degree P H b B t.at s.0)) h.0, moved_small e h.1 s.1)

  module _ (t : Tracked F E) (can : CanSubduce P b t) (a : Polynomial E) (n : IsNormalForm P t.value a) where
    -- a normal form has the degree of what it is of
    form_graded : (d : ℕ) → IsGraded K O d t.value → IsGraded K O d a
    form_graded d g m k =
        ⊎_elim
        (λ z. absurd (k (normal_form_unique P H t.value a [] n (record { poly = tt; inside = congruent_same K F' O.places P.ideal t.value [] z; standard = λ i c. absurd (c (sym (nothing_at K i))) }) m ∙ sym (nothing_at K m))))
        (λ l. ⊎_elim (λ z. absurd (k (z m ∙ sym (nothing_at K m)))) (λ h. h.each m k)
        (normal_form_homogeneous P H t.value a n d (record { some = (l.0, l.1.nonzero); each = g })))
        (zero_or_lead K F' O L t.value (IsDecreasing_IsPoly K O t.value can.canonical.value.decreasing))

    module _ (words done : Polynomial E) (h : IsSubducing P S a words done []) where
      pub words_small : IsCanonical K O a → degree_of O a ≤ degree_of O t.value → IsSmall M words
      words_small ka l =
          small_at M (degree_of O a) words (let s = can.small in omega arith)
          (h.degrees (up_to (degree_of O a)) (λ m k. up_to_true (degree_of O a) (O.degree m) (degrees_to P H a ka m k))).1

      module _ (e : Polynomial E) (ke : IsCanonical K M e) (same : Same K e words) where
        s_words : AllAt (IsSWord (letters P S)) e
        s_words =
            decreasing_all K F' M (letters_laws P H b B) (IsSWord (letters P S)) e ke.decreasing
            (λ w k. (all_found K F' O L (IsIrreducibleWord P S) words h.irreducible w (λ z. k (same w ∙ z))).word)

        pub moved_is_poly : IsPoly K W.places (witness_sum P e)
        moved_is_poly = moved_poly e (IsDecreasing_IsPoly K M e ke.decreasing) s_words

        pub moved_is_small : IsSmall W (witness_sum P e)
        moved_is_small = moved_small e ke.small s_words

        module _ (Q : ℕ → Bool) (q : (m : Exponents) → coefficient K a m ≢ K.zero → Q (O.degree m) ≡ true) where
          rest_has : (m : Exponents) → coefficient K done m ≢ K.zero → Q (O.degree m) ≡ true
          rest_has m k = all_found K F' O L (λ m. Q (O.degree m) ≡ true) done (AllAt-left (λ m. Q (O.degree m) ≡ true) done [] (h.degrees Q q).0) m k

          sum_has : (w : Exponents) → coefficient K e w ≢ K.zero → Q (M.degree w) ≡ true
          sum_has w k = all_found K F' O L (λ w. Q (M.degree w) ≡ true) words (h.degrees Q q).1 w (λ z. k (same w ∙ z))

        module _ (d : ℕ) where
          abbrev equals : ℕ → Bool
          equals x = nat_eq x d

          form_equals : IsGraded K O d t.value → (m : Exponents) → coefficient K a m ≢ K.zero → equals (O.degree m) ≡ true
          form_equals g m k = eq-eqb (O.degree m) d (form_graded d g m k)

          form_up_to : HasDegreesUpTo K O d t.value → (m : Exponents) → coefficient K a m ≢ K.zero → up_to d (O.degree m) ≡ true
          form_up_to g m k = up_to_true d (O.degree m) (normal_form_bounded P H t.value a n d g m k)

          rest_graded : IsGraded K O d t.value → IsGraded K O d done
          rest_graded g m k = eqb-true (O.degree m) d (rest_has equals (form_equals g) m k)

          sum_graded : IsGraded K O d t.value → IsGraded K M d e
          sum_graded g w k = eqb-true (M.degree w) d (sum_has equals (form_equals g) w k)

          rest_up_to : HasDegreesUpTo K O d t.value → HasDegreesUpTo K O d done
          rest_up_to g m k = up_to_le d (O.degree m) (rest_has (up_to d) (form_up_to g) m k)

          sum_up_to : HasDegreesUpTo K O d t.value → HasDegreesUpTo K M d e
          sum_up_to g w k = up_to_le d (M.degree w) (sum_has (up_to d) (form_up_to g) w k)

        parts : HasSumAndRest P S t.value e done
        parts = finished P H S t.value a words done e n.inside h ke same

        module _ (by : Polynomial E) (kb : IsCanonical K W by) (eq : Same K by (minus K t.by (witness_sum P e))) where
          by_graded : (d : ℕ) → IsGraded K O d t.value → IsGraded K W d t.by → IsGraded K W d by
          by_graded d g gb m k =
              ⊎_elim (gb m)
              (all_found K F' O L (λ m. W.degree m ≡ d) (witness_sum P e)
              (moved_degrees P H b B (λ n. n ≡ d) e
              (decreasing_all K F' M (letters_laws P H b B) (λ w. M.degree w ≡ d) e ke.decreasing (sum_graded d g)) s_words) m)
              (minus_nonzero K F' t.by (witness_sum P e) m (λ z. k (eq m ∙ z)))

          tracks : Tracks P S t → Congruent K O.places P.ideal done (value K by (fs ++ S))
          tracks h =
              let C = combination_value P S e in
              let V = value K t.by (fs ++ S) in
              let N = value K (witness_sum P e) (fs ++ S) in
              congruent_trans K F' O.places P.ideal done (minus K (C ++ done) C) (value K by (fs ++ S))
              (congruent_same K F' O.places P.ideal done (minus K (C ++ done) C) (λ m. sym (less_front K F' C done m)))
              (congruent_trans K F' O.places P.ideal (minus K (C ++ done) C) (minus K V N) (value K by (fs ++ S))
              (congruent_plus K F' O.places P.ideal (C ++ done) V (negated K C) (negated K N)
              (congruent_trans K F' O.places P.ideal (C ++ done) t.value V (congruent_sym K F' O.places P.ideal t.value (C ++ done) parts.equal) h)
              (congruent_negated K F' O.places P.ideal C N (congruent_same K F' O.places P.ideal C N (λ m. sym (witness_value P H S e s_words m)))))
              (congruent_same K F' O.places P.ideal (minus K V N) (value K by (fs ++ S)) (λ m.
              sym (value_same K F' by (minus K t.by (witness_sum P e)) (fs ++ S) eq m ∙
              (ap (λ p. coefficient K p m) (value-append K F' t.by (negated K (witness_sum P e)) (fs ++ S)) ∙
              append_same K F' V V (value K (negated K (witness_sum P e)) (fs ++ S)) (negated K N) (λ i. refl) (value-negated K F' (witness_sum P e) (fs ++ S)) m)))))

          pub subduced : IsSubduced P b t (record { rest = record { value = done; by = by }; word_sum = e })
          subduced =
              let back = λ (Q : MonomialOrder → Type 0) (x : Q M). subst (λ L. Q (word_order_of L)) (sym B.letters) x in
              record {
                parts = parts;
                by = eq;
                canonical = record { value = canonical_left K O done [] h.canonical; by = kb };
                canonical_sum = back (λ N. IsCanonical K N e) ke;
                tracks = tracks;
                graded = λ d g. record { value = rest_graded d g.value; by = by_graded d g.value g.by };
                graded_sum = λ d g. back (λ N. IsGraded K N d e) (sum_graded d g);
                degrees = λ d g. (rest_up_to d g, back (λ N. HasDegreesUpTo K N d e) (sum_up_to d g));
              }

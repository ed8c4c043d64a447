-- The steps of a subduction.
use Rattle.std.proofs.Common.{◌≡◌, ◌≢◌, sym, ◌∙◌, ap, subst, List, [], ◌∷◌, ◌++◌, true, cond, ⊎_elim, append-nil, append_assoc}
use Rattle.std.specs.Prelude.{map}
use Rattle.word_field.specs.Field.{FieldOps, IsField, IsValue}
use Rattle.word_field.specs.laws.Field.{plus_four, negate-times}
use Rattle.monomial_order.specs.declared.terms.Term.{Term}
use Rattle.monomial_order.specs.Monomial.{Exponents}
use Rattle.word_laws.specs.Words.{word_order_of, image_of, IsLeast, IsSWord}
use Rattle.polynomials.specs.Polynomial.{Polynomial, coefficient, constant, first_coefficient, lead_monomial, scaled, term_of, times, AllAt, IsCanonical, Same}
use Rattle.polynomials.specs.Ideal.{Congruent}
use Rattle.polynomials.specs.Subalgebra.{Presented, IsGenerated, IsNormalForm, IsPresentation, IsStandard}
use Rattle.polynomials.specs.laws.Coefficients.{append_nonzero, leads_is, nothing_at, single_term}
use Rattle.polynomials.specs.laws.Congruence.{congruent_plus, congruent_refl, congruent_same, congruent_sym, congruent_times_left, congruent_trans}
use Rattle.polynomials.specs.laws.Decreasing.{IsDecreasing_IsPoly, coefficient_first}
use Rattle.polynomials.specs.laws.Degrees.{all_found, decreasing_all}
use Rattle.polynomials.specs.laws.Ideal.{IsPoly-append, constant_poly}
use Rattle.polynomials.specs.laws.Ring.{coefficient-append}
use Rattle.polynomials.specs.laws.Same.{append_same, same_refl}
use Rattle.polynomials.specs.laws.Terms.{AllAt-append, canonical_left, canonical_right, AllAt-left, AllAt-right}
use Rattle.polynomials.specs.laws.Value.{coefficient-scaled, coefficient-constant_times, one_times, value-append, value_same}
use Rattle.polynomials.specs.laws.Lowering.{replaced}
use Rattle.subalgebra_laws.specs.Words.{combination_value, letters, letter_values, word_value, HasSumAndRest, IsIrreducibleSum, IsReducibleWord, IsTopWord}
use Rattle.subalgebra_laws.specs.Bases.{AreMonicElements}
use Rattle.subalgebra_laws.specs.Statements.{LeastWordsAreIrreducible, TopImagesLeadNormalForms}
use Rattle.word_values.specs.Values.{IsWordValue, word_degree}
use Rattle.subduction.specs.Steps.{HasValueTaken, IsIrreducibleWord, IsMonicAt, IsSubducing}

-- a term by itself
coefficient_single : {E : Type 0} (K : FieldOps E) (F : IsField K) (w : Exponents) (c : E) → IsValue K c → coefficient K (term_of w c ∷ []) w ≡ c
unfolding coefficient
coefficient_single K F w c v = ap (λ b. K.plus (cond b c K.zero) K.zero) (same_refl w) ∙ (F.plus_zero c ∙ v)

module _ {E : Type 0} (P : Presented E) (H : IsPresentation P) (S : List (Polynomial E)) where
  open P use {field as K, order as O}
  open H use {field as F, order as L}

  pub start : (a : Polynomial E) → IsCanonical K O a → ((m : Exponents) → coefficient K a m ≢ K.zero → IsStandard P m) → IsSubducing P S a [] [] a
  start a k h = record {
    canonical = k;
    standard = decreasing_all K F O L (IsStandard P) a k.decreasing h;
    fresh = tt;
    terms = tt;
    irreducible = tt;
    degrees = λ Q q. (decreasing_all K F O L (λ m. Q (O.degree m) ≡ true) a k.decreasing q, tt);
    equal = congruent_refl K F O.places P.ideal a;
  }

  pub after_rest : (a words done : Polynomial E) (t : Term E) (w : Polynomial E) → IsSubducing P S a words done (t ∷ w) → ¬ IsGenerated (map lead_monomial S) t.at →
      IsSubducing P S a words (done ++ (t ∷ [])) w
  after_rest a words done t w h n =
      let e : done ++ (t ∷ w) ≡ (done ++ (t ∷ [])) ++ w = sym (append_assoc done (t ∷ []) w) in
      record {
        canonical = subst (IsCanonical K O) e h.canonical;
        standard = subst (AllAt (IsStandard P)) e h.standard;
        fresh = AllAt-append (λ m. ¬ IsGenerated (map lead_monomial S) m) done (t ∷ []) h.fresh (n, tt);
        terms = h.terms;
        irreducible = h.irreducible;
        degrees = λ Q q. let r = h.degrees Q q in (subst (AllAt (λ m. Q (O.degree m) ≡ true)) e r.0, r.1);
        equal = subst (λ x. Congruent K O.places P.ideal a (combination_value P S words ++ x)) e h.equal;
      }

  -- the value of a word has the degree of its lead
  lead_degree : (u m : Exponents) (v : Polynomial E) → IsWordValue P S u v → IsMonicAt P m v → O.degree m ≡ word_degree P S u
  lead_degree u m [] h k = absurd (F.one_not_zero (sym k.monic))
  lead_degree u m (x ∷ v) h k =
      ap O.degree (sym k.lead) ∙ h.graded x.at (λ z. F.one_not_zero (sym k.monic ∙ (sym (coefficient_first K F O L x v k.canonical.decreasing.0) ∙ z)))

  module _ (a words done : Polynomial E) (t : Term E) (w : Polynomial E) (h : IsSubducing P S a words done (t ∷ w)) (u : Exponents) (r : Polynomial E) (k : HasValueTaken P S t w u r) where
    of_next : (Q : Exponents → Type 0) → AllAt Q (done ++ (t ∷ w)) → ((m : Exponents) → coefficient K k.value m ≢ K.zero → Q m) → AllAt Q (done ++ r)
    of_next Q old new =
        AllAt-append Q done r (AllAt-left Q done (t ∷ w) old)
        (decreasing_all K F O L Q r k.taken.canonical.decreasing (λ m n.
        ⊎_elim (all_found K F O L Q (t ∷ w) (AllAt-right Q done (t ∷ w) old) m)
        (λ z. new m (λ y. z (coefficient-scaled K F (K.negate t.by) k.value m ∙ (ap (K.times (K.negate t.by)) y ∙ Rattle.word_field.specs.laws.Field.times-zero K F (K.negate t.by)))))
        (append_nonzero K F (t ∷ w) (scaled K (term_of [] (K.negate t.by)) k.value) m (λ z. n (k.taken.sum m ∙ z)))))

    term_value : IsValue K t.by
    term_value = (canonical_right K O done (t ∷ w) h.canonical).decreasing.0.term.value

    abbrev pub one_more : Polynomial E
    one_more = words ++ (term_of u t.by ∷ [])

    same : Same K (combination_value P S words ++ (times K (constant K t.by) k.value ++ (done ++ r))) (combination_value P S words ++ (done ++ (t ∷ w)))
    same m =
        let A = coefficient K (combination_value P S words) m in
        let D = coefficient K done m in
        let T = coefficient K (t ∷ w) m in
        let V = coefficient K k.value m in
        let rest : coefficient K r m ≡ K.plus T (K.negate (K.times t.by V)) =
        k.taken.sum m ∙ (coefficient-append K F (t ∷ w) (scaled K (term_of [] (K.negate t.by)) k.value) m ∙ ap (K.plus T) (coefficient-scaled K F (K.negate t.by) k.value m ∙ negate-times K F t.by V)) in
        let first : coefficient K (times K (constant K t.by) k.value ++ (done ++ r)) m ≡ K.plus (K.times t.by V) (K.plus D (K.plus T (K.negate (K.times t.by V)))) =
        coefficient-append K F (times K (constant K t.by) k.value) (done ++ r) m ∙
        (ap (λ x. K.plus x (coefficient K (done ++ r) m)) (coefficient-constant_times K F t.by k.value m) ∙
        ap (K.plus (K.times t.by V)) (coefficient-append K F done r m ∙ ap (K.plus D) rest)) in
        let second : K.plus (K.times t.by V) (K.plus D (K.plus T (K.negate (K.times t.by V)))) ≡ coefficient K (done ++ (t ∷ w)) m =
        ap (K.plus (K.times t.by V)) (sym (F.plus_assoc D T (K.negate (K.times t.by V)))) ∙
        (F.plus_comm (K.times t.by V) (K.plus (K.plus D T) (K.negate (K.times t.by V))) ∙
        (F.plus_assoc (K.plus D T) (K.negate (K.times t.by V)) (K.times t.by V) ∙
        (ap (K.plus (K.plus D T)) (F.plus_comm (K.negate (K.times t.by V)) (K.times t.by V) ∙ F.plus_negate (K.times t.by V)) ∙
        (F.plus_zero (K.plus D T) ∙ (F.plus_value D T ∙ sym (coefficient-append K F done (t ∷ w) m)))))) in
        coefficient-append K F (combination_value P S words) (times K (constant K t.by) k.value ++ (done ++ r)) m ∙
        (ap (K.plus A) (first ∙ second) ∙ sym (coefficient-append K F (combination_value P S words) (done ++ (t ∷ w)) m))

    grown : combination_value P S one_more ++ (done ++ r) ≡ combination_value P S words ++ (times K (constant K t.by) (word_value P S u) ++ (done ++ r))
    grown =
        ap (λ x. x ++ (done ++ r)) (value-append K F words (term_of u t.by ∷ []) (letter_values P S) ∙ ap (λ x. combination_value P S words ++ x) (append-nil (times K (constant K t.by) (word_value P S u)))) ∙
        append_assoc (combination_value P S words) (times K (constant K t.by) (word_value P S u)) (done ++ r)

    equal : Congruent K O.places P.ideal a (combination_value P S one_more ++ (done ++ r))
    equal =
        let X = combination_value P S words in
        let V = times K (constant K t.by) k.value in
        let W = times K (constant K t.by) (word_value P S u) in
        let R = done ++ r in
        subst (Congruent K O.places P.ideal a) (sym grown)
        (congruent_trans K F O.places P.ideal a (X ++ (done ++ (t ∷ w))) (X ++ (W ++ R)) h.equal
        (congruent_trans K F O.places P.ideal (X ++ (done ++ (t ∷ w))) (X ++ (V ++ R)) (X ++ (W ++ R))
        (congruent_same K F O.places P.ideal (X ++ (done ++ (t ∷ w))) (X ++ (V ++ R)) (λ m. sym (same m)))
        (congruent_plus K F O.places P.ideal X X (V ++ R) (W ++ R) (congruent_refl K F O.places P.ideal X)
        (congruent_plus K F O.places P.ideal V W R R
        (congruent_times_left K F O.places P.ideal (constant K t.by) k.value (word_value P S u) (constant_poly K F O.places t.by term_value)
        (congruent_sym K F O.places P.ideal (word_value P S u) k.value k.word_value.normal.inside))
        (congruent_refl K F O.places P.ideal R)))))

    pub after_word : IsSubducing P S a one_more done r
    after_word = record {
      canonical = replaced K F O L t w done r h.canonical k.taken.canonical k.taken.below;
      standard = of_next (IsStandard P) h.standard k.word_value.normal.standard;
      fresh = h.fresh;
      terms = IsPoly-append K F (word_order_of (letters P S)).places words (term_of u t.by ∷ []) h.terms (record { monomial = k.irreducible.word.0; value = term_value }, tt);
      irreducible = AllAt-append (IsIrreducibleWord P S) words (term_of u t.by ∷ []) h.irreducible (k.irreducible, tt);
      degrees = λ Q q.
          let o = h.degrees Q q in
          let e = lead_degree u t.at k.value k.word_value k.monic in
          let here : Q (O.degree t.at) ≡ true = (AllAt-right (λ m. Q (O.degree m) ≡ true) done (t ∷ w) o.0).0 in
          let word : Q (word_degree P S u) ≡ true = subst (λ d. Q d ≡ true) e here in (
            of_next (λ m. Q (O.degree m) ≡ true) o.0 (λ m n. subst (λ d. Q d ≡ true) (sym (k.word_value.graded m n)) word),
            AllAt-append (λ x. Q (word_degree P S x) ≡ true) words (term_of u t.by ∷ []) o.1 (word, tt),
          );
      equal = equal;
    }

  module _ (M : AreMonicElements P S) (u m : Exponents) (s : IsSWord (letters P S) u) (l : IsLeast (letters P S) m u) (st : IsStandard P m) (law : LeastWordsAreIrreducible P S) where
    pub irreducible_word : IsIrreducibleWord P S u
    irreducible_word = record { word = s; irreducible = law m u l st }

    abbrev alone : Polynomial E
    alone = term_of u K.one ∷ []

    alone_sum : IsIrreducibleSum P S alone
    alone_sum = record {
      decreasing = (record { term = record { monomial = s.0; value = F.one_value }; nonzero = F.one_not_zero; above = tt }, tt);
      words = λ w n. subst (IsSWord (letters P S)) (single_term K F u K.one w n) s;
      irreducible = λ w n. subst (λ x. ¬ IsReducibleWord P S x) (single_term K F u K.one w n) (law m u l st);
    }

    alone_one : coefficient K alone u ≡ K.one
    alone_one = coefficient_single K F u K.one F.one_value

    alone_top : IsTopWord P S alone u
    alone_top = record {
      nonzero = λ z. F.one_not_zero (sym alone_one ∙ z);
      greatest = λ v n ne. absurd (ne (sym (single_term K F u K.one v n)));
    }

    alone_value : Same K (combination_value P S alone) (word_value P S u)
    alone_value i = ap (λ x. coefficient K x i) (append-nil (times K (constant K K.one) (word_value P S u))) ∙ one_times K F (word_value P S u) i

    pub monic_value : TopImagesLeadNormalForms P S → (v : Polynomial E) → IsWordValue P S u v → IsMonicAt P m v
    monic_value tops v h =
        let n : IsNormalForm P (combination_value P S alone) v = record {
          poly = h.normal.poly;
          inside = congruent_trans K F O.places P.ideal (combination_value P S alone) (word_value P S u) v (congruent_same K F O.places P.ideal (combination_value P S alone) (word_value P S u) alone_value) h.normal.inside;
          standard = h.normal.standard;
        } in
        let r = tops alone v u alone_sum alone_top n in
        let lead : lead_monomial v ≡ m = leads_is K F O L v h.canonical.decreasing (image_of (letters P S) u) r.0 ∙ l.image in
        record {
          canonical = h.canonical;
          lead = lead;
          monic = first v h.canonical (ap (coefficient K v) (lead ∙ sym l.image) ∙ (r.1 ∙ alone_one));
        }
      where
        first : (v : Polynomial E) → IsCanonical K O v → coefficient K v (lead_monomial v) ≡ K.one → first_coefficient K v ≡ K.one
        first [] c e = absurd (F.one_not_zero (sym e ∙ sym (nothing_at K [])))
        first (x ∷ v) c e = sym (coefficient_first K F O L x v c.decreasing.0) ∙ e

  -- what is left at the end
  pub finished : (b a words done e : Polynomial E) → Congruent K O.places P.ideal b a → IsSubducing P S a words done [] →
      IsCanonical K (word_order_of (letters P S)) e → Same K e words → HasSumAndRest P S b e done
  finished b a words done e n h c s = record {
    sum = record {
      decreasing = c.decreasing;
      words = λ w k. (word w k).word;
      irreducible = λ w k. (word w k).irreducible;
    };
    poly = IsDecreasing_IsPoly K O done (canonical_left K O done [] h.canonical).decreasing;
    reduced = λ m k. (all_found K F O L (IsStandard P) done (AllAt-left (IsStandard P) done [] h.standard) m k, all_found K F O L (λ x. ¬ IsGenerated (map lead_monomial S) x) done h.fresh m k);
    equal = congruent_trans K F O.places P.ideal b a (combination_value P S e ++ done) n
        (congruent_trans K F O.places P.ideal a (combination_value P S words ++ (done ++ [])) (combination_value P S e ++ done) h.equal
        (congruent_same K F O.places P.ideal (combination_value P S words ++ (done ++ [])) (combination_value P S e ++ done)
        (append_same K F (combination_value P S words) (combination_value P S e) (done ++ []) done (value_same K F words e (letter_values P S) (λ m. sym (s m))) (λ m. ap (λ x. coefficient K x m) (append-nil done)))));
  }
    where
      word : (w : Exponents) → coefficient K e w ≢ K.zero → IsIrreducibleWord P S w
      word w k = all_found K F O L (IsIrreducibleWord P S) words h.irreducible w (λ z. k (s w ∙ z))

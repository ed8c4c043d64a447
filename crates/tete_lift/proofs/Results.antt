-- What subduction leaves of the value of a word.
use Rattle.std.proofs.Common.{◌≡◌, ◌≢◌, ℕ, sym, ◌∙◌, ap, subst, List, [], ◌++◌, append-nil, length, ⊎_elim}
use Rattle.monomial_order.specs.Monomial.{Exponents}
use Rattle.word_laws.specs.Words.{word_order_of}
use Rattle.polynomials.specs.Polynomial.{Polynomial, coefficient, minus, negated, AllAt, IsCanonical}
use Rattle.polynomials.specs.Ideal.{Congruent}
use Rattle.polynomials.specs.Subalgebra.{Presented, IsPresentation}
use Rattle.polynomials.specs.laws.Congruence.{congruent_plus, congruent_refl, congruent_same, congruent_trans, minus_nonzero}
use Rattle.polynomials.specs.laws.Decreasing.{IsDecreasing_unique}
use Rattle.polynomials.specs.laws.Degrees.{all_found}
use Rattle.subalgebra_laws.specs.Statements.{ForMonicElements, RestsDecideCombinations}
use Rattle.subalgebra_laws.specs.Words.{combination_value, word_value, HasSumAndRest, IsCombination}
use Rattle.witness.specs.declared.tracked.Tracked.{Tracked}
use Rattle.witness.specs.Tracking.{values_of, IsGraded}
use Rattle.witness.specs.laws.Short.{short_elements}
use Rattle.word_values.specs.Values.{word_degree}
use Rattle.subduction.specs.Basis.{BasisState, IsBasisOf}
use Rattle.subduction.specs.declared.subduction.Subduced.{Subduced}
use Rattle.subduction.specs.Subduced.{witness_sum, IsSubduced}
use Rattle.subduction.specs.laws.Elements.{monic_elements}
use Rattle.subduction.specs.laws.Rests.{less_back}
use Rattle.subduction.specs.laws.WitnessWords.{sum_letters, HasNoLetterBefore}
use Rattle.tete_lift.specs.Lifting.{CanLift, IsFresh, IsRightSide, IsTrackedWord}
use Rattle.tete_lift.proofs.Words.{single, word_graded, word_tracks}

module _ {F E : Type 0} (P : Presented E) (H : IsPresentation P) (b : BasisState F E) (B : IsBasisOf P b)
    (u : Exponents) (can : CanLift P b u) (t : Tracked F E) (h : IsTrackedWord P b u t)
    (s : Subduced F E) (q : IsSubduced P b t s) where
  open P use {field as K, order as O, generators as fs}
  open H use {field as F', order as L}

  abbrev S : List (Polynomial E)
  S = values_of b.elements

  abbrev d : ℕ
  d = word_degree P S u

  abbrev v : Polynomial E
  v = word_value P S u

  abbrev e : Polynomial E
  e = s.word_sum

  abbrev r : Polynomial E
  r = s.rest.value

  sum_and_rest : HasSumAndRest P S v e r
  sum_and_rest = record {
    sum = q.parts.sum;
    poly = q.parts.poly;
    reduced = q.parts.reduced;
    equal =
        congruent_trans K F' O.places P.ideal v t.value (combination_value P S e ++ r) h.value.normal.inside
        q.parts.equal;
  }

  pub relation : r ≡ [] → IsRightSide P (values_of b.elements) u e
  relation z = record {
    sum = q.parts.sum;
    canonical = subst (λ l. IsCanonical K (word_order_of l) e) B.letters q.canonical_sum;
    graded = subst (λ l. IsGraded K (word_order_of l) d e) B.letters (q.graded_sum d h.value.graded);
    equal =
        subst (Congruent K O.places P.ideal v)
        (ap (λ x. combination_value P S e ++ x) z ∙ append-nil (combination_value P S e)) sum_and_rest.equal;
  }

  elements_alone : (m : Exponents) → coefficient K s.rest.by m ≢ K.zero → HasNoLetterBefore (length fs) m
  elements_alone m n =
      let Q = HasNoLetterBefore (length fs) in
      let word : AllAt Q t.by = subst (AllAt Q) (sym h.by) (sum_letters P (single P H b B u can)) in
      ⊎_elim (all_found K F' O L Q t.by word m) (all_found K F' O L Q (witness_sum P e) (sum_letters P e) m)
      (minus_nonzero K F' t.by (witness_sum P e) m (λ z. n (q.by m ∙ z)))

  difference : IsCombination P S (minus K v r)
  difference = record {
    sum = e;
    irreducible = q.parts.sum;
    equal =
        let C = combination_value P S e in
        congruent_trans K F' O.places P.ideal (minus K v r) (minus K (C ++ r) r) C
        (congruent_plus K F' O.places P.ideal v (C ++ r) (negated K r) (negated K r) sum_and_rest.equal
        (congruent_refl K F' O.places P.ideal (negated K r)))
        (congruent_same K F' O.places P.ideal (minus K (C ++ r) r) C (less_back K F' C r));
  }

  pub fresh : ForMonicElements E RestsDecideCombinations → r ≢ [] → IsFresh P b u s.rest
  fresh law n = record {
    canonical = q.canonical;
    nonzero = n;
    graded = q.graded d (word_graded P H b B u can t h);
    reduced = q.parts.reduced;
    tracks = q.tracks (word_tracks P H b B u can t h);
    elements_alone = elements_alone;
    short = short_elements K F' (length fs) s.rest.by elements_alone;
    difference = difference;
    no_combination = λ c.
        n (IsDecreasing_unique K F' O L r [] q.canonical.value.decreasing tt
        ((law P S H (monic_elements P H b B) v e r sum_and_rest).0 c));
  }

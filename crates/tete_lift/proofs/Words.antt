-- The value of a word can be subduced.
use Rattle.std.proofs.Common.{◌≡◌, ℕ, ◌≤◌, inl, inr, sym, ◌∙◌, ap, subst, List, [], ◌∷◌, ◌++◌, append-nil, length, ⊎_elim, arith}
use Rattle.monomial_order.specs.Monomial.{Exponents}
use Rattle.monomial_order.specs.MonomialOrder.{MonomialOrder}
use Rattle.polynomials.specs.Polynomial.{Polynomial, coefficient, constant, degree_of, term_of, times, IsCanonical, Same}
use Rattle.polynomials.specs.Value.{value}
use Rattle.polynomials.specs.Subalgebra.{Presented, IsPresentation}
use Rattle.polynomials.specs.laws.Coefficients.{single_term}
use Rattle.polynomials.specs.laws.Congruence.{congruent_same, congruent_sym, congruent_trans}
use Rattle.polynomials.specs.laws.Decreasing.{coefficient_first}
use Rattle.polynomials.specs.laws.Value.{one_times}
use Rattle.subalgebra_laws.specs.Words.{word_value}
use Rattle.witness.specs.declared.tracked.Tracked.{Tracked}
use Rattle.witness.specs.Tracking.{by_order, values_of, IsGraded, IsGradedPair, Tracks}
use Rattle.word_values.specs.Values.{word_degree, IsWordValue}
use Rattle.subduction.specs.Basis.{BasisState, IsBasisOf}
use Rattle.subduction.specs.Subduced.{witness_sum, witness_word, CanSubduce}
use Rattle.subduction.specs.laws.Elements.{leads_monomials}
use Rattle.subduction.specs.laws.WitnessWords.{s_word_degree, s_word_monomial, witness_value}
use Rattle.tete_lift.specs.Lifting.{CanLift, IsTrackedWord}

module _ {F E : Type 0} (P : Presented E) (H : IsPresentation P) (b : BasisState F E) (B : IsBasisOf P b)
    (u : Exponents) (can : CanLift P b u) where
  open P use {field as K, order as O, generators as fs}
  open H use {field as F', order as L}

  abbrev S : List (Polynomial E)
  S = values_of b.elements

  abbrev W : MonomialOrder
  W = by_order b.by_order

  -- the word alone, as a sum of words
  abbrev pub single : Polynomial E
  single = term_of u K.one ∷ []

  no_degree : O.degree [] ≡ 0
  no_degree = let d = L.degree_product [] [] in omega arith

  value_degree : (v : Polynomial E) → IsWordValue P S u v → degree_of O v ≤ word_degree P S u
  value_degree [] h = let d = no_degree in omega arith
  value_degree (t ∷ v) h =
      let l = h.canonical.decreasing.0 in
      let g = h.graded t.at (λ z. l.nonzero (sym (coefficient_first K F' O L t v l) ∙ z)) in omega arith

  moved_degree : W.degree (witness_word O.places (length fs) u) ≡ word_degree P S u
  moved_degree = s_word_degree P H S b.by_order B.by_order (leads_monomials P H b B) u can.word

  witness_canonical : IsCanonical K W (witness_sum P single)
  witness_canonical = record {
    decreasing = (
      record {
        term = record { monomial = s_word_monomial P H S b.by_order B.by_order u can.word; value = F'.one_value };
        nonzero = F'.one_not_zero;
        above = tt;
      },
      tt,
    );
    small = (let d = moved_degree in let s = can.small in omega arith, tt);
  }

  witness_graded : IsGraded K W (word_degree P S u) (witness_sum P single)
  witness_graded m n =
      subst (λ v. W.degree v ≡ word_degree P S u) (single_term K F' (witness_word O.places (length fs) u) K.one m n)
      moved_degree

  single_value : Same K (value K (witness_sum P single) (fs ++ S)) (word_value P S u)
  single_value m =
      witness_value P H S single (can.word, tt) m ∙
      (ap (λ p. coefficient K p m) (append-nil (times K (constant K K.one) (word_value P S u))) ∙
      one_times K F' (word_value P S u) m)

  module _ (t : Tracked F E) (h : IsTrackedWord P b u t) where
    pub degree_to : (n : ℕ) → word_degree P S u ≤ n → degree_of O t.value ≤ n
    degree_to n l = let v = value_degree t.value h.value in omega arith

    pub can_subduce : CanSubduce P b t
    can_subduce = record {
      canonical = record { value = h.value.canonical; by = subst (IsCanonical K W) (sym h.by) witness_canonical };
      reach = ⊎_elim (λ l. inl (degree_to b.words.degree l)) inr can.reach;
      small = degree_to 30000 can.small;
    }

    pub word_graded : IsGradedPair K O W (word_degree P S u) t
    word_graded = record {
      value = h.value.graded;
      by = subst (IsGraded K W (word_degree P S u)) (sym h.by) witness_graded;
    }

    pub word_tracks : Tracks P S t
    word_tracks =
        congruent_trans K F' O.places P.ideal t.value (word_value P S u) (value K t.by (fs ++ S))
        (congruent_sym K F' O.places P.ideal (word_value P S u) t.value h.value.normal.inside)
        (congruent_same K F' O.places P.ideal (word_value P S u) (value K t.by (fs ++ S))
        (subst (λ w. Same K (word_value P S u) (value K w (fs ++ S))) (sym h.by) (λ m. sym (single_value m))))

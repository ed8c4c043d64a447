-- The relations of the elements to a smaller degree: those of the words of at most that degree.
use Rattle.std.proofs.Common.{◌≡◌, ◌≢◌, ℕ, suc, ◌+◌, ◌-◌, ◌<◌, ◌≤◌, get_or, sym, ◌∙◌, ap, subst, List, [], ◌∷◌, ◌++◌, length, length-append, ⊎_elim, arith}
use Rattle.std.specs.Prelude.{All, Contains, map}
use Rattle.std.proofs.lemmas.List.{get_or-append-add, map-append}
use Rattle.std.proofs.lemmas.List.Elements.{All-contains}
use Rattle.monomial_order.specs.Monomial.{Exponents, variable}
use Rattle.monomial_order.specs.MonomialOrder.{MonomialOrder, IsIncreasing, IsMonomialOrder}
use Rattle.monomial_order.specs.laws.Comparing.{divisor_degree, le_or_not}
use Rattle.monomial_order.specs.laws.Lists.{contains_at, contains_either, contains_left, contains_map, map_contains}
use Rattle.monomial_order.specs.laws.Monomial.{last_exponent, variable_divides, variable_trimmed}
use Rattle.word_laws.specs.Words.{word_order_of, IsWord}
use Rattle.polynomials.specs.Polynomial.{Polynomial, coefficient, lead_monomial, AllAt, IsSmall}
use Rattle.polynomials.specs.Ideal.{Congruent}
use Rattle.polynomials.specs.Subalgebra.{Presented, IsPresentation}
use Rattle.polynomials.specs.laws.Degrees.{decreasing_all}
use Rattle.subalgebra_laws.specs.Bases.{AreStandardAfter, HaveLeadsFrom}
use Rattle.subalgebra_laws.specs.Statements.{ForStandardElements, MinimalWordsStay, SumsWithoutNewLettersStay, ValuesStay}
use Rattle.subalgebra_laws.specs.Words.{combination_value, letters, word_value, IsMinimalWord}
use Rattle.subalgebra_laws.specs.laws.Letters.{places_letters, places_x}
use Rattle.word_values.specs.Values.{word_degree, AreHomogeneousElements}
use Rattle.word_values.specs.laws.Letters.{letter_degree}
use Rattle.tete_lift.specs.Lifting.{IsRightSide}
use Rattle.completion.specs.declared.relations.Relation.{Relation}
use Rattle.completion.specs.Relations.{AreRelations}
use Rattle.completion.proofs.LongerWords.{same_compare, same_degree}
use Rattle.completion.proofs.NextRelations.{increasing_over}
use Rattle.subduction.specs.laws.Parts.{contains-All}

increasing_front : (O : MonomialOrder) (ms ns : List Exponents) → IsIncreasing O (ms ++ ns) → IsIncreasing O ms
increasing_front O [] ns h = tt
increasing_front O (m ∷ []) ns h = tt
increasing_front O (m ∷ (n ∷ ms)) ns h = (h.0, increasing_front O (n ∷ ms) ns h.1)

module _ {E : Type 0} (P : Presented E) (H : IsPresentation P) (S T : List (Polynomial E)) (elements : AreHomogeneousElements P (S ++ T)) (L : IsMonomialOrder (word_order_of (letters P (S ++ T))))
    (d : ℕ) (high : HaveLeadsFrom P (suc d) T) where
  abbrev V : MonomialOrder
  V = word_order_of (letters P S)

  abbrev W : MonomialOrder
  W = word_order_of (letters P (S ++ T))

  -- a word of at most that degree has no letter of a later element
  pub low_word : (w : Exponents) → IsWord (letters P (S ++ T)) w → word_degree P (S ++ T) w ≤ d → IsWord (letters P S) w
  low_word w h low = ⊎_elim (λ l. record { trimmed = h.trimmed; within = l }) (λ n. absurd (beyond (omega (arith, n)))) (le_or_not (length w) V.places)
    where
      beyond : V.places < length w → ⊥
      beyond late =
          let p = places_letters P S in
          let q = places_letters P (S ++ T) in
          let x = places_x P S in
          let y = places_x P (S ++ T) in
          let a = length-append S T in
          let most = h.within in
          let k : ℕ = length w - 1 in
          let j : ℕ = k - (P.order.places + length S) in
          let l : j < length T = omega arith in
          let at : P.order.places + (length S + j) ≡ k = omega arith in
          let some = last_exponent w k h.trimmed (omega arith) in
          let up = divisor_degree W L (variable k) w (variable_trimmed k) h.trimmed (variable_divides k w (omega arith)) in
          let letter = ap W.degree (ap variable (sym at)) ∙ (letter_degree P (S ++ T) H elements (length S + j) (omega arith) ∙ ap (λ s. P.order.degree (lead_monomial s)) (get_or-append-add S T j [])) in
          let least = high (get_or T j []) (contains_at T j [] l) in
          omega arith

  module _ (values : ValuesStay P S T) (sums : SumsWithoutNewLettersStay P S T) where
    small_front : (p : Polynomial E) → AllAt (IsWord (letters P S)) p → IsSmall W p → IsSmall V p
    small_front [] a h = tt
    small_front (t ∷ p) a h = (let x = same_degree P S T t.at a.0 in let y = h.0 in omega arith, small_front p a.1 h.1)

    -- a right side of at most that degree is one over the first elements
    pub right_front : (u : Exponents) (e : Polynomial E) → IsWord (letters P S) u → word_degree P (S ++ T) u ≤ d → IsRightSide P (S ++ T) u e → IsRightSide P S u e
    right_front u e word low right =
        let over : (w : Exponents) → coefficient P.field e w ≢ P.field.zero → IsWord (letters P S) w = λ w n. low_word w (right.sum.words w n).0 (let g = right.graded w n in omega arith) in
        let q = sums e right.sum over in
        record {
          sum = q.0;
          canonical = record {
            decreasing = (q.0).decreasing;
            small = small_front e (decreasing_all P.field H.field W L (IsWord (letters P S)) e right.sum.decreasing over) right.canonical.small;
          };
          graded = λ w n. sym (same_degree P S T w (over w n)) ∙ (right.graded w n ∙ same_degree P S T u word);
          equal = subst (λ x. Congruent P.field P.order.places P.ideal x (combination_value P S e)) (values u word)
              (subst (λ x. Congruent P.field P.order.places P.ideal (word_value P (S ++ T) u) x) q.1 right.equal);
        }

    module _ {F : Type 0} (A : AreStandardAfter P (suc d) S T) (minimal : ForStandardElements E MinimalWordsStay) (c : ℕ) (less : d ≤ c) (old new rest : List (Relation F E)) (whole : old ≡ new ++ rest)
        (R : AreRelations P (S ++ T) c old) (at_most : All (λ r. word_degree P (S ++ T) r.word ≤ d) new) (above : All (λ r. d < word_degree P (S ++ T) r.word) rest) where
      abbrev word_of : Relation F E → Exponents
      word_of r = r.word

      words_split : map word_of old ≡ map word_of new ++ map word_of rest
      words_split = ap (map word_of) whole ∙ map-append word_of new rest

      degree_low : (u : Exponents) → Contains (map word_of new) u → word_degree P (S ++ T) u ≤ d
      degree_low u k =
          let r = map_contains word_of new u k in
          let a = All-contains (λ (x : Relation F E). word_degree P (S ++ T) x.word ≤ d) new r.0 at_most r.1 in
          subst (λ x. word_degree P (S ++ T) x ≤ d) r.2 a

      among : (u : Exponents) → Contains (map word_of new) u → IsMinimalWord P S u × (word_degree P S u ≤ d)
      among u k =
          let l = degree_low u k in
          let m = (minimal P S T (suc d) H A u (omega arith)).0 ((R.exactly u).0 (subst (λ ms. Contains ms u) (sym words_split) (contains_left (map word_of new) (map word_of rest) u k))).0 in
          let e = same_degree P S T u m.0.word in
          (m, omega arith)

      all : (u : Exponents) → IsMinimalWord P S u × (word_degree P S u ≤ d) → Contains (map word_of new) u
      all u h =
          let l = h.1 in
          let e = same_degree P S T u h.0.0.word in
          let m = (minimal P S T (suc d) H A u (omega arith)).1 h.0 in
          ⊎_elim (λ k. k)
          (λ k.
          let r = map_contains word_of rest u k in
          let a = All-contains (λ (x : Relation F E). d < word_degree P (S ++ T) x.word) rest r.0 above r.1 in
          let b = ap (word_degree P (S ++ T)) r.2 in absurd (omega arith))
          (contains_either (map word_of new) (map word_of rest) u (subst (λ ms. Contains ms u) words_split ((R.exactly u).1 (m, omega arith))))

      pub front_relations : AreRelations P S d new
      front_relations = record {
        increasing = increasing_over W V (map word_of new)
            (λ v w a b. sym (same_compare P S T v w ((among v a).0.0.word) ((among w b).0.0.word)))
            (increasing_front W (map word_of new) (map word_of rest) (subst (IsIncreasing W) words_split R.increasing));
        exactly = λ u. (among u, all u);
        rights = contains-All (λ (r : Relation F E). IsRightSide P S r.word r.right) new
            (λ r k.
            let i = contains_map word_of new r k in
            right_front r.word r.right ((among r.word i).0.0.word) (degree_low r.word i)
            (All-contains (λ (q : Relation F E). IsRightSide P (S ++ T) q.word q.right) old r R.rights (subst (λ xs. Contains xs r) (sym whole) (contains_left new rest r k))));
      }

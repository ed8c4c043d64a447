-- The parts of the line of a relation.
use Rattle.std.proofs.Common.{◌≡◌, ◌≢◌, ℕ, zero, suc, ◌+◌, ◌-◌, ◌<◌, ◌≤◌, ◌^◌, Bool, true, false, cond, ltb, List, [], ◌∷◌, ◌++◌, length, codes, None, Some, IsSome, refl, sym, ap, subst, ◌∙◌, append_assoc, ⊎_elim, arith}
use Rattle.std.specs.Prelude.{◌==◌, if◌then◌else◌}
use Rattle.std.specs.Fmt.{decimal}
use Rattle.std.proofs.lemmas.Bool.{lt-ltb}
use Rattle.std.proofs.lemmas.List.{append_cancel_right, length-map}
use Rattle.word_field.specs.Field.{IsField}
use Rattle.monomial_order.specs.Monomial.{Exponents, exponent, IsMonomial}
use Rattle.monomial_order.specs.MonomialOrder.{MonomialOrder, IsMonomialOrder}
use Rattle.monomial_order.specs.Orders.{word_order}
use Rattle.monomial_order.specs.declared.word_order.WordOrder.{WordOrder}
use Rattle.word_laws.specs.Words.{variables, lead_degrees, word_order_of, IsSWord}
use Rattle.word_laws.specs.laws.Images.{length-variables}
use Rattle.poly_core.specs.declared.place_names.Names.{Names}
use Rattle.poly_core.specs.Names.{is_name_byte, name_at, IsNamed}
use Rattle.poly_core.specs.Text.{monomial_text, poly_text, AreNamed}
use Rattle.polynomials.specs.Polynomial.{Polynomial, coefficient, AllAt, IsCanonical}
use Rattle.polynomials.specs.Subalgebra.{Presented, IsPresentation}
use Rattle.polynomials.specs.laws.Coefficients.{found_monomial}
use Rattle.polynomials.specs.laws.Decreasing.{IsDecreasing_IsPoly}
use Rattle.polynomials.specs.laws.Degrees.{all_found}
use Rattle.subalgebra_laws.specs.Words.{letters}
use Rattle.polynomial_text.specs.Bytes.{is_blank}
use Rattle.polynomial_text.specs.Canonical.{AreDifferent, IsCanonicalText}
use Rattle.polynomial_text.specs.Grammar.{sign_byte}
use Rattle.polynomial_text.specs.laws.CanonicalParts.{Lack, differs, lack_append}
use Rattle.polynomial_text.specs.laws.CanonicalPoly.{canonical_lacks, canonical_one}
use Rattle.polynomial_text.specs.laws.GrammarReads.{IsApart}
use Rattle.witness.specs.Tracking.{by_order, IsGraded}
use Rattle.witness.specs.laws.Letters.{by_laws}
use Rattle.word_values.specs.Values.{word_degree}
use Rattle.completion.specs.LetterNames.{element_names}
use Rattle.completion.specs.RelationLines.{IsPrintable}
use Rattle.completion.specs.declared.relations.Relation.{Relation}
use Rattle.completion.specs.laws.Printing.{none_first, relation_printable}
use Rattle.state_text.specs.Limits.{bound_max}
use Rattle.state_text.specs.LineReadings.{IsLetterOrder, IsNamedWord, IsParted, IsRelationText}
use Rattle.state_text.specs.Parts.{IsDueRelation}
use Rattle.state_text.proofs.Degrees.{low}
use Rattle.state_text.proofs.Parting.{lacks, parted_same, with_feed, without_feed}
use Rattle.state_text.proofs.Words.{alone, alone_is, alone_same, alone_text}

equal_apart : IsApart (λ b. b == 61)
equal_apart = record { blank = differs is_blank 61 refl; name = differs is_name_byte 61 refl; raised = refl }

signs : (next : Bool) → (sign_byte next == 61) ≡ false
signs true = refl
signs false = refl

-- a word with names for its places has no letter of a variable
named_apart : (places : ℕ) (m : Exponents) → IsNamed (element_names places) m → (i : ℕ) → i < places → exponent m i ≡ 0
named_apart places m h i lt = by (exponent m i) refl
  where
    by : (e : ℕ) → exponent m i ≡ e → exponent m i ≡ 0
    by zero is = is
    by (suc e) is =
        let nonzero : exponent m i ≢ 0 = λ z. omega (arith, is, z) in
        let some = subst (λ (b : Bool). IsSome (if b then None else Some (115 ∷ decimal (i + 1 - places)))) (lt-ltb i places lt) (h i nonzero) in
        absurd cc

named_monomials : {E : Type 0} (names : Names) (p : Polynomial E) → AreNamed names p → AllAt (IsNamed names) p
named_monomials names [] h = tt
named_monomials names (t ∷ p) h = (h.0, named_monomials names p h.1)

module _ {E : Type 0} (P : Presented E) (H : IsPresentation P) (few : P.field.size ≤ 2 ^ 32) (S : List (Polynomial E)) (w : WordOrder) (h : IsLetterOrder P S w)
    (c : ℕ) (bound : c ≤ bound_max) (different : (let W : MonomialOrder = by_order w in AreDifferent W.places (element_names P.order.places))) (line : List ℕ) where
  abbrev names : Names
  names = element_names P.order.places

  order_is : by_order w ≡ word_order_of (letters P S)
  order_is = ap (λ xs. word_order xs w.s_degrees.items) h.x ∙ ap (word_order (letters P S).degrees) h.s

  letters_laws : IsMonomialOrder (word_order_of (letters P S))
  letters_laws = subst IsMonomialOrder order_is (by_laws w)

  count : length (letters P S).degrees ≡ P.order.places
  count = length-map (variables 0 P.order.places) P.order.degree ∙ length-variables 0 P.order.places

  s_word : (n : Exponents) → IsMonomial (let W : MonomialOrder = by_order w in W.places) n → IsNamed names n → IsSWord (letters P S) n
  s_word n monomial named = (
    subst (λ (W : MonomialOrder). IsMonomial W.places n) order_is monomial,
    none_first (length (letters P S).degrees) n (λ i lt. named_apart P.order.places n named i (omega (arith, count))),
  )

  module _ {F : Type 0} where
    module _ (r : Relation F E) (k : IsRelationText P c S line r) where
      printable : IsPrintable P.field names r
      printable = relation_printable P S H letters_laws r k.due.word k.due.canonical.decreasing k.due.words

      word_is : IsNamedWord (by_order w) names c r.word
      word_is = subst (λ W. IsNamedWord W names c r.word) (sym order_is) (record { monomial = k.due.word.0; named = printable.word; not_one = k.due.not_one; degree = k.due.degree })

      right_graded : IsGraded P.field (by_order w) (let W : MonomialOrder = by_order w in W.degree r.word) r.right
      right_graded = subst (λ (W : MonomialOrder). IsGraded P.field W (W.degree r.word) r.right) (sym order_is) k.due.graded

      right_canonical : IsCanonical P.field (by_order w) r.right
      right_canonical = subst (λ W. IsCanonical P.field W r.right) (sym order_is) k.due.canonical

      right_is : IsCanonicalText P.field (by_order w) names (poly_text P.field names r.right) r.right
      right_is = record {
        canonical = right_canonical;
        named = printable.named;
        small = low P.field H.field (by_order w) (by_laws w) r.right right_canonical.decreasing (let W : MonomialOrder = by_order w in W.degree r.word) (let most = word_is.degree in omega arith) right_graded;
        text = refl;
      }

      -- the first equals sign is between the word and the right side
      pub relation_parted : IsParted 61 line (monomial_text names r.word) (poly_text P.field names r.right)
      relation_parted =
          let one = alone_is P.field H.field (by_order w) names c bound r.word word_is (monomial_text names r.word) refl in
          record {
            whole = without_feed 61 line (monomial_text names r.word) (poly_text P.field names r.right) k.text;
            first = lacks 61 (monomial_text names r.word ++ 32 ∷ []) (lack_append (λ b. b == 61) (monomial_text names r.word) (32 ∷ [])
                (subst (λ l. Lack (λ b. b == 61) l) (alone_text P.field H.field names r.word k.due.not_one)
                (canonical_lacks P.field H.field few (by_order w) (by_laws w) names different (λ b. b == 61) equal_apart refl signs (alone P.field H.field r.word) one.canonical one.named one.small)) (refl, tt));
          }

      module _ (a b : List ℕ) (parted : IsParted 61 line a b) where
        parts_are : (monomial_text names r.word ≡ a) × (poly_text P.field names r.right ≡ b)
        parts_are = parted_same 61 line (monomial_text names r.word) (poly_text P.field names r.right) a b relation_parted parted

        pub word_text : IsNamedWord (by_order w) names c r.word × (a ≡ monomial_text names r.word)
        word_text = (word_is, sym parts_are.0)

        pub right_text : IsCanonicalText P.field (by_order w) names b r.right
        right_text = subst (λ l. IsCanonicalText P.field (by_order w) names l r.right) parts_are.1 right_is

    module _ (a b : List ℕ) (parted : IsParted 61 line a b) (m : Exponents) (is : IsNamedWord (by_order w) names c m) (text : a ≡ monomial_text names m) where
      pub word_same : (r : Relation F E) → IsRelationText P c S line r → m ≡ r.word
      word_same r k =
          let t = word_text r k a b parted in
          alone_same P.field H.field m r.word
          (canonical_one P.field H.field few (by_order w) (by_laws w) names different a (alone P.field H.field m) (alone P.field H.field r.word)
          (alone_is P.field H.field (by_order w) names c bound m is a text) (alone_is P.field H.field (by_order w) names c bound r.word t.0 a t.1))

      pub no_right : ((q : Polynomial E) → IsCanonicalText P.field (by_order w) names b q → IsGraded P.field (by_order w) (let W : MonomialOrder = by_order w in W.degree m) q → ⊥) →
          (r : Relation F E) → IsRelationText P c S line r → ⊥
      no_right never r k =
          never r.right (right_text r k a b parted)
          (subst (λ n. IsGraded P.field (by_order w) (let W : MonomialOrder = by_order w in W.degree n) r.right) (sym (word_same r k)) (right_graded r k))

      pub relation_text : (q : Polynomial E) → IsCanonicalText P.field (by_order w) names b q → IsGraded P.field (by_order w) (let W : MonomialOrder = by_order w in W.degree m) q →
          IsRelationText {F = F} P c S line (record { word = m; right = q })
      relation_text q right graded = record {
        due = record {
          word = s_word m is.monomial is.named;
          not_one = is.not_one;
          degree = subst (λ (W : MonomialOrder). W.degree m ≤ c) order_is is.degree;
          canonical = subst (λ W. IsCanonical P.field W q) order_is right.canonical;
          words = λ n e.
              s_word n (found_monomial P.field H.field (by_order w) (by_laws w) q (IsDecreasing_IsPoly P.field (by_order w) q right.canonical.decreasing) n e)
              (all_found P.field H.field (by_order w) (by_laws w) (IsNamed names) q (named_monomials names q right.named) n e);
          graded = subst (λ (W : MonomialOrder). IsGraded P.field W (W.degree m) q) order_is graded;
        };
        text = with_feed 61 line (monomial_text names m) (poly_text P.field names q)
            (parted.whole ∙ (ap (λ l. l ++ 32 ∷ (61 ∷ (32 ∷ b))) text ∙ ap (λ l. monomial_text names m ++ 32 ∷ (61 ∷ (32 ∷ l))) right.text));
      }

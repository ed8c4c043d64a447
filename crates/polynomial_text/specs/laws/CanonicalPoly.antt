-- The canonical text of a polynomial is one line that is not skipped, and is read as the polynomial.
use Rattle.std.proofs.Common.{◌≡◌, ℕ, ◌≤◌, ◌^◌, Bool, cond, List, [], ◌∷◌, ◌++◌, map, ◌==◌, true, false, Ok, codes, refl, sym, ap, ◌∙◌, inl, append_assoc, arith}
use Rattle.std.specs.Fmt.{decimal}
use Rattle.std.proofs.lemmas.Fmt.{decimal_digit}
use Rattle.word_field.specs.Field.{FieldOps, IsField}
use Rattle.word_field.specs.laws.Field.{zero-plus-zero}
use Rattle.monomial_order.specs.declared.terms.Term.{Term}
use Rattle.monomial_order.specs.MonomialOrder.{MonomialOrder, IsMonomialOrder}
use Rattle.monomial_order.specs.laws.Comparing.{degree_one}
use Rattle.poly_core.specs.declared.place_names.Names.{Names}
use Rattle.poly_core.specs.Names.{is_name_byte}
use Rattle.polynomials.specs.Polynomial.{Polynomial, same_monomial, coefficient, term_of, Same, IsDecreasing, IsCanonical}
use Rattle.polynomials.specs.laws.Decreasing.{IsDecreasing_unique}
use Rattle.poly_core.specs.Text.{join, term_text, poly_text, AreNamed}
use Rattle.polynomial_text.specs.Bytes.{is_skipped, behind}
use Rattle.polynomial_text.specs.Degrees.{IsLow}
use Rattle.polynomial_text.specs.PolyLine.{terms_of}
use Rattle.polynomial_text.specs.Canonical.{AreDifferent, IsCanonicalText}
use Rattle.polynomial_text.specs.Grammar.{AreBlanks, sign_byte, IsSum, one_term, terms}
use Rattle.polynomial_text.specs.laws.CanonicalParts.{Lack, Begins, begins_append, differs, name_no_blank}
use Rattle.polynomial_text.specs.laws.GrammarReads.{IsApart, feed_apart, line_derived, sum_lacks}
use Rattle.polynomial_text.specs.laws.Steps.{same_ok}
use Rattle.polynomial_text.specs.laws.CanonicalTerms.{IsTextOfTerm, blanks_before, blanks_after, text_of_term}

begins_join : (x : List ℕ) (xs : List (List ℕ)) → Begins is_name_byte x → Begins is_name_byte (join (codes " + ") (x ∷ xs))
begins_join x [] h = h
begins_join x (y ∷ ys) h = begins_append is_name_byte x (codes " + " ++ join (codes " + ") (y ∷ ys)) h

not_skipped : (bytes : List ℕ) → Begins is_name_byte bytes → is_skipped bytes ≡ false
unfolding behind
not_skipped [] h = absurd h
not_skipped (b ∷ bytes) h = rw (name_no_blank b h, differs is_name_byte 35 refl b h) refl

module _ {E : Type 0} (K : FieldOps E) (O : MonomialOrder) (names : Names) where
  -- each term has a text that is read as the term
  abbrev AreTexts : Polynomial E → Type 0
  AreTexts [] = Unit {0}
  AreTexts (t ∷ p) = IsTextOfTerm K O names (term_text K names t) t × AreTexts p

  -- the texts with signs between them are the sum, also behind blanks
  sum_of_texts : (lead : List ℕ) (t : Term E) (p : Polynomial E) → AreBlanks lead → AreTexts (t ∷ p) → IsSum K O names false (lead ++ join (codes " + ") (map (term_text K names) (t ∷ p))) (t ∷ p)
  sum_of_texts lead t [] l h = one_term false (lead ++ term_text K names t) t (blanks_before K O names lead l (term_of [] K.one) t (term_text K names t) h.0.derived)
  sum_of_texts lead t (u ∷ p) l h =
      let text : List ℕ = term_text K names t in
      let others : List ℕ = join (codes " + ") (map (term_text K names) (u ∷ p)) in
      let spaced = blanks_after K O names (32 ∷ []) refl (term_of [] K.one) t text h.0.derived in
      let regroup : lead ++ (text ++ 32 ∷ (43 ∷ (32 ∷ others))) ≡ (lead ++ (text ++ 32 ∷ [])) ++ 43 ∷ (32 ∷ others) =
      ap (λ z. lead ++ z) (sym (append_assoc text (32 ∷ []) (43 ∷ (32 ∷ others)))) ∙ sym (append_assoc lead (text ++ 32 ∷ []) (43 ∷ (32 ∷ others))) in
      terms false false (lead ++ (text ++ 32 ∷ (43 ∷ (32 ∷ others)))) (lead ++ (text ++ 32 ∷ [])) (32 ∷ others) t (u ∷ p) regroup
      (blanks_before K O names lead l (term_of [] K.one) t (text ++ 32 ∷ []) spaced) (sum_of_texts (32 ∷ []) u p refl h.1)

  derived : (t : Term E) (p : Polynomial E) → AreTexts (t ∷ p) → IsSum K O names false (poly_text K names (t ∷ p)) (t ∷ p)
  derived t p h = sum_of_texts [] t p refl h

module _ {E : Type 0} (K : FieldOps E) (F : IsField K) (few : K.size ≤ 2 ^ 32) (O : MonomialOrder) (L : IsMonomialOrder O) (names : Names) (D : AreDifferent O.places names) where
  texts : (p : Polynomial E) → IsDecreasing K O p → AreNamed names p → IsLow O p → AreTexts K O names p
  texts [] decreasing named small = tt
  texts (t ∷ p) decreasing named small =
      (text_of_term K F few O L names D t (record { term = decreasing.0.term; named = named.0; small = small.0 }), texts p decreasing.1 named.1 small.1)

  -- zero is written as its constant
  zero_text : IsTextOfTerm K O names (term_text K names (term_of [] K.zero)) (term_of [] K.zero)
  zero_text = text_of_term K F few O L names D (term_of [] K.zero) (record {
    term = record { monomial = record { trimmed = tt; within = omega arith }; value = F.zero_value };
    named = λ i ne. absurd (ne refl);
    small = let d : O.degree [] ≡ 0 = degree_one O L in omega arith;
  })

  zero_is : poly_text K names (term_of [] K.zero ∷ []) ≡ codes "0"
  zero_is = ap decimal F.word_zero ∙ decimal_digit 0 (omega arith)

  zero_same : Same K [] (term_of [] K.zero ∷ [])
  unfolding coefficient
  zero_same m = by_test (same_monomial [] m)
    where
      by_test : (b : Bool) → K.zero ≡ K.plus (cond b K.zero K.zero) K.zero
      by_test true = sym (zero-plus-zero K F)
      by_test false = sym (zero-plus-zero K F)

  -- it is read as terms whose sum is the polynomial
  pub canonical_terms : (p : Polynomial E) → IsCanonical K O p → AreNamed names p → IsLow O p →
      (ts : Polynomial E) × (terms_of K O names (poly_text K names p) ≡ Ok ts) × Same K p ts
  canonical_terms [] canonical named small = (term_of [] K.zero ∷ [], ap (terms_of K O names) (sym zero_is) ∙ line_derived K O names D (poly_text K names (term_of [] K.zero ∷ [])) (term_of [] K.zero ∷ []) (inl (derived K O names (term_of [] K.zero) [] (zero_text, tt))), zero_same)
  canonical_terms (t ∷ p) canonical named small = (t ∷ p, line_derived K O names D (poly_text K names (t ∷ p)) (t ∷ p) (inl (derived K O names t p (texts (t ∷ p) canonical.decreasing named small))), λ m. refl)

  -- a line is the canonical text of one polynomial
  pub canonical_one : (line : List ℕ) (p q : Polynomial E) → IsCanonicalText K O names line p → IsCanonicalText K O names line q → p ≡ q
  canonical_one line p q h k =
      let first = canonical_terms p h.canonical h.named h.small in
      let second = canonical_terms q k.canonical k.named k.small in
      let same : first.0 ≡ second.0 = same_ok first.0 second.0 (sym first.1 ∙ (ap (terms_of K O names) (sym h.text ∙ k.text) ∙ second.1)) in
      IsDecreasing_unique K F O L p q h.canonical.decreasing k.canonical.decreasing (λ m. first.2 m ∙ (ap (λ ts. coefficient K ts m) same ∙ sym (second.2 m)))

  -- it has no byte that is neither in a factor nor between factors or terms
  pub canonical_lacks : (q : ℕ → Bool) → IsApart q → q 42 ≡ false → ((next : Bool) → q (sign_byte next) ≡ false) →
      (p : Polynomial E) → IsCanonical K O p → AreNamed names p → IsLow O p → Lack q (poly_text K names p)
  canonical_lacks q A star signs [] canonical named small = (A.name 48 refl, tt)
  canonical_lacks q A star signs (t ∷ p) canonical named small =
      sum_lacks K O names D q A star signs false (poly_text K names (t ∷ p)) (t ∷ p) (derived K O names t p (texts (t ∷ p) canonical.decreasing named small))

  -- it has no line feed
  pub canonical_line : (p : Polynomial E) → IsCanonical K O p → AreNamed names p → IsLow O p →
      Lack (λ b. b == 10) (poly_text K names p)
  canonical_line = canonical_lacks (λ b. b == 10) feed_apart refl signs
    where
      signs : (next : Bool) → (sign_byte next == 10) ≡ false
      signs true = refl
      signs false = refl

  -- it is not skipped
  pub canonical_not_skipped : (p : Polynomial E) → IsCanonical K O p → AreNamed names p → IsLow O p →
      is_skipped (poly_text K names p) ≡ false
  canonical_not_skipped [] canonical named small = not_skipped (codes "0") refl
  canonical_not_skipped (t ∷ p) canonical named small = not_skipped (poly_text K names (t ∷ p)) (begins_join (term_text K names t) (map (term_text K names) p) (texts (t ∷ p) canonical.decreasing named small).0.begins)

-- The canonical text of a term is derived for the term.
use Rattle.std.proofs.Common.{◌≡◌, ◌≢◌, ℕ, zero, suc, ◌≤◌, ◌+◌, ◌^◌, true, false, cond, eqb, List, [], ◌∷◌, ◌++◌, length, replicate, Option, Some, None, IsSome, refl, sym, ap, subst, ◌∙◌, append_assoc, append-nil, add-zero, ⊎_elim, le_trans, arith}
use Rattle.std.specs.List.{list_all, join_with_byte, AllByRecursion}
use Rattle.std.specs.Fmt.{decimal}
use Rattle.std.proofs.lemmas.Bool.{eqb-true, cases_lt}
use Rattle.word_field.specs.Field.{FieldOps, IsField, IsValue}
use Rattle.word_field.specs.laws.Field.{one-times}
use Rattle.monomial_order.specs.declared.terms.Term.{Term}
use Rattle.monomial_order.specs.Monomial.{product, exponent, IsTrimmed}
use Rattle.monomial_order.specs.laws.Monomial.{product_assoc, product-one, exponent_past, trimmed_tail}
use Rattle.monomial_order.specs.MonomialOrder.{MonomialOrder, IsMonomialOrder}
use Rattle.poly_core.specs.declared.place_names.Names.{Names}
use Rattle.poly_core.specs.Names.{name_at, name_of, is_name_byte, IsNamed}
use Rattle.polynomials.specs.Polynomial.{Polynomial, term_of, term_times, IsTerm}
use Rattle.poly_core.specs.Text.{factors, factors_text, term_text}
use Rattle.polynomial_text.specs.Bytes.{is_blank}
use Rattle.polynomial_text.specs.PolyLine.{power}
use Rattle.polynomial_text.specs.Canonical.{AreDifferent}
use Rattle.polynomial_text.specs.laws.CanonicalParts.{Begins, begins_append, all_append, IsWritten}
use Rattle.polynomial_text.specs.laws.GrammarReads.{factor_begins}
use Rattle.polynomial_text.specs.Grammar.{AreBlanks, IsSpacedFactor, IsProduct, one_factor, IsTermOf}
use Rattle.polynomial_text.specs.Grammar.{factors as product_factors}
use Rattle.monomial_order.specs.Limits.{degree_max}
use Rattle.polynomial_text.specs.laws.CanonicalFactors.{IsPieceOf, number_piece, power_piece}

-- ---- powers and their products

pub zeros_more : (i : ℕ) → replicate {A = ℕ} (suc i) 0 ≡ replicate i 0 ++ 0 ∷ []
zeros_more zero = refl
zeros_more (suc i) = ap (λ (z : List ℕ). 0 ∷ z) (zeros_more i)

-- the exponents from a place on
abbrev pub shifted : ℕ → List ℕ → List ℕ
shifted i [] = []
shifted i (e ∷ m) = replicate i 0 ++ (e ∷ m)

shifted-zero : (i : ℕ) (f : ℕ) (m : List ℕ) → shifted i (0 ∷ (f ∷ m)) ≡ shifted (suc i) (f ∷ m)
shifted-zero i f m = sym (append_assoc (replicate i 0) (0 ∷ []) (f ∷ m)) ∙ ap (λ z. z ++ (f ∷ m)) (sym (zeros_more i))

power-product : (i e : ℕ) (m : List ℕ) → product (replicate i 0 ++ (suc e ∷ [])) (shifted (suc i) m) ≡ replicate i 0 ++ (suc e ∷ m)
power-product i e [] = product-one (replicate i 0 ++ (suc e ∷ []))
power-product i e (f ∷ m) = step i
  where
    step : (i : ℕ) → product (replicate i 0 ++ (suc e ∷ [])) (replicate (suc i) 0 ++ (f ∷ m)) ≡ replicate i 0 ++ (suc e ∷ (f ∷ m))
    step zero = ap (λ n. n ∷ (f ∷ m)) (add-zero (suc e))
    step (suc i) = ap (λ z. 0 ∷ z) (step i)

module _ {E : Type 0} (K : FieldOps E) where
  -- the powers from a place on
  abbrev pub powers : ℕ → List ℕ → Polynomial E
  powers i [] = []
  powers i (zero ∷ m) = powers (suc i) m
  powers i (suc e ∷ m) = term_of (power i (suc e)) K.one ∷ powers (suc i) m

  abbrev pub product_of : Term E → Polynomial E → Term E
  product_of t [] = t
  product_of t (f ∷ fs) = product_of (term_times K t f) fs

  pub product_powers : (F : IsField K) (k : List ℕ) (c : E) (i : ℕ) (m : List ℕ) → IsValue K c → IsTrimmed m → product_of (term_of k c) (powers i m) ≡ term_of (product k (shifted i m)) c
  product_powers F k c i [] v h = ap (λ n. term_of n c) (sym (product-one k))
  product_powers F k c i (zero ∷ []) v h = absurd (h refl)
  product_powers F k c i (zero ∷ (f ∷ m)) v h = product_powers F k c (suc i) (f ∷ m) v h ∙ ap (λ n. term_of (product k n) c) (sym (shifted-zero i f m))
  product_powers F k c i (suc e ∷ m) v h =
      ap (λ a. product_of (term_of (product k (power i (suc e))) a) (powers (suc i) m)) (F.times_one c ∙ v)
      ∙ product_powers F (product k (power i (suc e))) c (suc i) m v (trimmed_tail (suc e) m h)
      ∙ ap (λ n. term_of n c) (product_assoc k (power i (suc e)) (shifted (suc i) m) ∙ ap (product k) (power-product i e m))

module _ {E : Type 0} (K : FieldOps E) (O : MonomialOrder) (L : IsMonomialOrder O) where
  -- a product has no smaller degree than its first factor
  pub degree_grows : (t : Term E) (fs : Polynomial E) → O.degree t.at ≤ O.degree (product_of K t fs).at
  degree_grows t [] = omega arith
  degree_grows t (f ∷ fs) = omega (arith, L.degree_product t.at f.at, degree_grows (term_times K t f) fs)

-- ---- products

module _ {E : Type 0} (K : FieldOps E) (O : MonomialOrder) (names : Names) where
  -- each text is a factor
  abbrev pub ArePieces : List (List ℕ) → Polynomial E → Type 0
  ArePieces [] [] = Unit {0}
  ArePieces [] (f ∷ fs) = ⊥
  ArePieces (x ∷ xs) [] = ⊥
  ArePieces (x ∷ xs) (f ∷ fs) = IsPieceOf K O names x f × ArePieces xs fs

  without_blanks : (x : List ℕ) (f : Term E) → IsPieceOf K O names x f → IsSpacedFactor K O names x f
  without_blanks x f h = record { before = []; factor = x; behind = []; is = sym (append-nil x); blank_before = refl; blank_behind = refl; reads = h }

  -- factors joined by `*` are their product
  product_of_pieces : (L : IsMonomialOrder O) (t : Term E) (x : List ℕ) (xs : List (List ℕ)) (f : Term E) (fs : Polynomial E) → ArePieces (x ∷ xs) (f ∷ fs) → O.degree (product_of K t (f ∷ fs)).at ≤ degree_max →
      IsProduct K O names t (join_with_byte 42 (x ∷ xs)) (product_of K t (f ∷ fs))
  product_of_pieces L t x [] f [] h small = one_factor t (term_times K t f) f x (without_blanks x f h.0) (record { is = refl; small = small })
  product_of_pieces L t x [] f (g ∷ fs) h small = absurd h.1
  product_of_pieces L t x (y ∷ ys) f [] h small = absurd h.1
  product_of_pieces L t x (y ∷ ys) f (g ∷ fs) h small =
      let low : O.degree (product t.at f.at) ≤ degree_max = omega (arith, small, degree_grows K O L (term_times K t f) (g ∷ fs)) in
      product_factors t (term_times K t f) (product_of K (term_times K t f) (g ∷ fs)) f (x ++ 42 ∷ join_with_byte 42 (y ∷ ys)) x (join_with_byte 42 (y ∷ ys)) refl (without_blanks x f h.0) (record { is = refl; small = low })
      (product_of_pieces L (term_times K t f) y ys g fs h.1 small)

  -- blanks before and behind a product
  pub blanks_before : (lead : List ℕ) → AreBlanks lead → (t v : Term E) (bytes : List ℕ) → IsProduct K O names t bytes v → IsProduct K O names t (lead ++ bytes) v
  blanks_before lead l t v bytes p = by p
    where
      spaced : (part : List ℕ) (x : Term E) → IsSpacedFactor K O names part x → IsSpacedFactor K O names (lead ++ part) x
      spaced part x h = record {
        before = lead ++ h.before;
        factor = h.factor;
        behind = h.behind;
        is = ap (λ (l : List ℕ). lead ++ l) h.is ∙ sym (append_assoc lead h.before (h.factor ++ h.behind));
        blank_before = all_append is_blank lead h.before l h.blank_before;
        blank_behind = h.blank_behind;
        reads = h.reads;
      }

      by : IsProduct K O names t bytes v → IsProduct K O names t (lead ++ bytes) v
      by (one_factor _ _ x _ h n) = one_factor t v x (lead ++ bytes) (spaced bytes x h) n
      by (product_factors _ u _ x _ part rest is h n more) =
          product_factors t u v x (lead ++ bytes) (lead ++ part) rest (ap (λ (l : List ℕ). lead ++ l) is ∙ sym (append_assoc lead part (42 ∷ rest))) (spaced part x h) n more

  pub blanks_after : (back : List ℕ) → AreBlanks back → (t v : Term E) (bytes : List ℕ) → IsProduct K O names t bytes v → IsProduct K O names t (bytes ++ back) v
  blanks_after back b t v bytes (one_factor _ _ x _ h n) = one_factor t v x (bytes ++ back) (record {
    before = h.before;
    factor = h.factor;
    behind = h.behind ++ back;
    is = ap (λ (l : List ℕ). l ++ back) h.is ∙ append_assoc h.before (h.factor ++ h.behind) back ∙ ap (λ (l : List ℕ). h.before ++ l) (append_assoc h.factor h.behind back);
    blank_before = h.blank_before;
    blank_behind = all_append is_blank h.behind back h.blank_behind b;
    reads = h.reads;
  }) n
  blanks_after back b t v bytes (product_factors _ u _ x _ part rest is h n more) =
      product_factors t u v x (bytes ++ back) part (rest ++ back) (ap (λ (l : List ℕ). l ++ back) is ∙ append_assoc part (42 ∷ rest) back) h n (blanks_after back b u v rest more)

  -- a text of a term that begins with a name or a number
  pub record IsTextOfTerm (text : List ℕ) (t : Term E) : Type 0 where
    pub begins : Begins is_name_byte text
    pub derived : IsTermOf K O names false text t

-- ---- terms

module _ {E : Type 0} (K : FieldOps E) (O : MonomialOrder) (names : Names) (D : AreDifferent O.places names) where
  -- the name of a place of nonzero exponent
  named_place : (i : ℕ) → IsSome (name_at names i) → name_at names i ≡ Some (name_of names i)
  named_place i h = given (name_at names i) h
    where
      given : (r : Option (List ℕ)) → IsSome r → r ≡ Some (Rattle.std.specs.Prelude.unwrap_or r [])
      given None h = absurd cc
      given (Some x) h = refl

  pub factor_pieces : (i : ℕ) (m : List ℕ) → ((j : ℕ) → exponent m j ≢ 0 → IsSome (name_at names (i + j))) → ((j : ℕ) → exponent m j ≤ degree_max) → i + length m ≤ O.places → ArePieces K O names (factors names i m) (powers K i m)
  factor_pieces i [] named small le = tt
  factor_pieces i (zero ∷ m) named small le = factor_pieces (suc i) m (λ j ne. subst (λ k. IsSome (name_at names k)) (omega arith) (named (suc j) ne)) (λ j. small (suc j)) (omega arith)
  factor_pieces i (suc e ∷ m) named small le =
      let at : name_at names i ≡ Some (name_of names i) = named_place i (subst (λ k. IsSome (name_at names k)) (omega arith) (named 0 (λ z. absurd (omega arith)))) in
      (power_piece K O names i (suc e) (name_of names i) (omega arith) at (let s : suc e ≤ degree_max = small 0 in omega arith), factor_pieces (suc i) m (λ j ne. subst (λ k. IsSome (name_at names k)) (omega arith) (named (suc j) ne)) (λ j. small (suc j)) (omega arith))

module _ {E : Type 0} (K : FieldOps E) (O : MonomialOrder) (L : IsMonomialOrder O) (names : Names) (D : AreDifferent O.places names) where
  some_pieces : (xs : List (List ℕ)) (fs : Polynomial E) → 1 ≤ length xs → ArePieces K O names xs fs → O.degree (product_of K (term_of [] K.one) fs).at ≤ degree_max →
      IsTextOfTerm K O names (join_with_byte 42 xs) (product_of K (term_of [] K.one) fs)
  some_pieces [] fs some h small = absurd (omega arith)
  some_pieces (x ∷ xs) [] some h small = absurd h
  some_pieces (x ∷ xs) (f ∷ fs) some h small = record { begins = begins x xs (factor_begins K O names D x f h.0); derived = product_of_pieces K O names L (term_of [] K.one) x xs f fs h small }
    where
      begins : (x : List ℕ) (xs : List (List ℕ)) → Begins is_name_byte x → Begins is_name_byte (join_with_byte 42 (x ∷ xs))
      begins x [] h = h
      begins x (y ∷ ys) h = begins_append is_name_byte x (42 ∷ join_with_byte 42 (y ∷ ys)) h

join_more : (x : List ℕ) (xs : List (List ℕ)) → 1 ≤ length xs → join_with_byte 42 (x ∷ xs) ≡ x ++ (42 ∷ join_with_byte 42 xs)
join_more x [] h = absurd (omega arith)
join_more x (y ∷ ys) h = refl

factors_some : (names : Names) (i e : ℕ) (m : List ℕ) → IsTrimmed (e ∷ m) → 1 ≤ length (factors names i (e ∷ m))
factors_some names i zero [] h = absurd (h refl)
factors_some names i (suc e) [] h = omega arith
factors_some names i zero (f ∷ m) h = factors_some names (suc i) f m h
factors_some names i (suc e) (f ∷ m) h = omega arith

-- a term that has a text
pub record IsPrintable {E : Type 0} (K : FieldOps E) (O : MonomialOrder) (names : Names) (t : Term E) : Type 0 where
  pub term : IsTerm K O.places t
  pub named : IsNamed names t.at
  pub small : O.degree t.at ≤ degree_max

module _ {E : Type 0} (K : FieldOps E) (F : IsField K) (few : K.size ≤ 2 ^ 32) (O : MonomialOrder) (L : IsMonomialOrder O) (names : Names) (D : AreDifferent O.places names) where
  exponents_small : (m : List ℕ) → length m ≤ O.places → O.degree m ≤ degree_max → (j : ℕ) → exponent m j ≤ degree_max
  exponents_small m le small j = ⊎_elim (λ lt. le_trans (L.exponent_at_most m j lt) small) (λ ge. let past : exponent m j ≡ 0 = exponent_past m j (omega arith) in omega arith) (cases_lt j O.places)

  all_factors : (m : List ℕ) (c : E) → IsPrintable K O names (term_of m c) → ArePieces K O names (factors names 0 m) (powers K 0 m)
  all_factors m c h =
      factor_pieces K O names D 0 m (λ j ne. subst (λ k. IsSome (name_at names k)) (omega arith) (h.named j ne)) (exponents_small m h.term.monomial.within h.small) (let w : length m ≤ O.places = h.term.monomial.within in omega arith)

  first_factor : (c : E) → IsValue K c → term_times K (term_of [] K.one) (term_of [] (K.of_word (K.word c))) ≡ term_of [] c
  first_factor c v = ap (term_of []) (one-times K F (K.of_word (K.word c)) ∙ F.of_word_value (K.word c) ∙ F.of_word_word c v)

  word_written : (c : E) → IsValue K c → IsWritten (K.word c)
  word_written c v = omega (arith, F.word_below c v, few)

  text_of : (m : List ℕ) (c : E) → IsPrintable K O names (term_of m c) → IsTextOfTerm K O names (term_text K names (term_of m c)) (term_of m c)
  text_of [] c h =
      let piece = number_piece K O names (K.word c) (word_written c h.term.value) in
      let is = first_factor c h.term.value in
      subst (IsTextOfTerm K O names (decimal (K.word c))) is
      (some_pieces K O L names D (decimal (K.word c) ∷ []) (term_of [] (K.of_word (K.word c)) ∷ []) (omega arith) (piece, tt) h.small)
  text_of (e ∷ m) c h =
      elim (eqb (K.word c) 1) as (λ t. eqb (K.word c) 1 ≡ t → IsTextOfTerm K O names (cond t (factors_text names (e ∷ m)) (decimal (K.word c) ++ (42 ∷ factors_text names (e ∷ m)))) (term_of (e ∷ m) c)) [
        | true ↦ λ t.
            let one : c ≡ K.one = sym (F.of_word_word c h.term.value) ∙ (ap K.of_word (eqb-true (K.word c) 1 t ∙ sym F.word_one) ∙ F.of_word_word K.one F.one_value) in
            let is : product_of K (term_of [] K.one) (powers K 0 (e ∷ m)) ≡ term_of (e ∷ m) c = product_powers K F [] K.one 0 (e ∷ m) F.one_value h.term.monomial.trimmed ∙ ap (term_of (e ∷ m)) (sym one) in
            subst (IsTextOfTerm K O names (factors_text names (e ∷ m))) is
            (some_pieces K O L names D (factors names 0 (e ∷ m)) (powers K 0 (e ∷ m)) (factors_some names 0 e m h.term.monomial.trimmed) (all_factors (e ∷ m) c h) (low is))
        | false ↦ λ t.
            let piece = number_piece K O names (K.word c) (word_written c h.term.value) in
            let number : Term E = term_of [] (K.of_word (K.word c)) in
            let is : product_of K (term_of [] K.one) (number ∷ powers K 0 (e ∷ m)) ≡ term_of (e ∷ m) c =
            ap (λ f. product_of K f (powers K 0 (e ∷ m))) (first_factor c h.term.value) ∙ product_powers K F [] c 0 (e ∷ m) h.term.value h.term.monomial.trimmed in
            let text = join_more (decimal (K.word c)) (factors names 0 (e ∷ m)) (factors_some names 0 e m h.term.monomial.trimmed) in
            subst (λ w. IsTextOfTerm K O names w (term_of (e ∷ m) c)) text
            (subst (IsTextOfTerm K O names (join_with_byte 42 (decimal (K.word c) ∷ factors names 0 (e ∷ m)))) is
            (some_pieces K O L names D (decimal (K.word c) ∷ factors names 0 (e ∷ m)) (number ∷ powers K 0 (e ∷ m)) (omega arith) (piece, all_factors (e ∷ m) c h) (low is)))
      ] refl
    where
      low : {t : Term E} → t ≡ term_of (e ∷ m) c → O.degree t.at ≤ degree_max
      low {t} is = subst (λ (u : Term E). O.degree u.at ≤ degree_max) (sym is) h.small

  pub text_of_term : (t : Term E) → IsPrintable K O names t → IsTextOfTerm K O names (term_text K names t) t
  text_of_term t h = text_of t.at t.by h

-- A line with a first fault by the grammar is not read, and reading stops with that fault.
use Rattle.std.proofs.Common.{◌≡◌, ℕ, ◌<◌, ◌≤◌, Bool, true, false, not, eqb, List, [], ◌∷◌, ◌++◌, length, Some, Err, nat_le, refl, sym, ap, ◌∙◌, append_assoc, inl, inr, le-leb, arith}
use Rattle.std.specs.Prelude.{◌⊎◌}
use Rattle.std.specs.List.{list_all, slice_split}
use Rattle.std.proofs.lemmas.Bool.{and_parts, lt-leb, false_from_ne_true, true≢false}
use Rattle.std.proofs.lemmas.List.Elements.{All-from_recursion}
use Rattle.std.proofs.lemmas.List.Splits.{slice_split_at}
use Rattle.word_field.specs.Field.{FieldOps}
use Rattle.monomial_order.specs.declared.terms.Term.{Term}
use Rattle.monomial_order.specs.Limits.{degree_max}
use Rattle.monomial_order.specs.Monomial.{product}
use Rattle.monomial_order.specs.MonomialOrder.{MonomialOrder}
use Rattle.polynomials.specs.Polynomial.{term_of}
use Rattle.poly_core.specs.declared.place_names.Names.{Names}
use Rattle.poly_core.specs.Names.{name_at, is_letter, is_name_byte, has_name_form}
use Rattle.polynomial_text.specs.declared.line_fault.LineKind.{LineKind}
use Rattle.polynomial_text.specs.declared.line_fault.LineKind.TheVariants.{PolySyntax, UnknownName, NumberTooLong, DegreeTooLarge}
use Rattle.polynomial_text.specs.Results.{along, each}
use Rattle.polynomial_text.specs.Bytes.{is_blank, is_digit, is_sign, front, behind, Stops}
use Rattle.polynomial_text.specs.Canonical.{AreDifferent}
use Rattle.polynomial_text.specs.PolyLine.{number_at, exponent_at, place_of, power_at, factor_at, with_factor, sign, term_at, behind_sign, signed_parts, terms_of}
use Rattle.polynomial_text.specs.Grammar.{AreBlanks}
use Rattle.polynomial_text.specs.GrammarFaults.{IsLongNumber, IsBase, IsFrontFactor, IsFactorFault, no_factor, long_number, unknown_name, no_exponent, long_exponent, high_degree, no_end, IsProductFault, in_factor, in_later_factor, IsSumFault, in_term, in_later_term, IsUnsigned, IsLineFault}
use Rattle.polynomial_text.specs.laws.CanonicalParts.{Begins, lack_from, begins_append, begins_stops, front_all, behind_all, digit_in_name, name_no_blank, blank_no_sign, letter_no_digit, is_star}
use Rattle.polynomial_text.specs.laws.Fronts.{parts_split, terms_behind, terms_split, sign_left_out, no_sign}
use Rattle.polynomial_text.specs.laws.Names.{name_bytes, place_found}
use Rattle.polynomial_text.specs.laws.GrammarReads.{name_begins, begins_digit, blank_then, raised_at, star_apart, sign_apart, name_form, factor_begins, factor_derived, with_derived, spaced_lacks, product_lacks, term_derived, next_parts}
use Rattle.polynomial_text.proofs.LinePlaces.{no_place}

-- ---- numbers

number_none : (bytes : List ℕ) → Stops is_digit bytes → number_at bytes ≡ Err PolySyntax
unfolding number_at front
number_none [] stop = refl
number_none (b ∷ bytes) stop = rw stop refl

number_long : (number rest : List ℕ) → IsLongNumber number → Stops is_digit rest → number_at (number ++ rest) ≡ Err NumberTooLong
unfolding number_at
number_long [] rest h stop = let many = h.many in absurd (omega arith)
number_long (d ∷ ds) rest h stop =
    let long : nat_le (length (d ∷ ds)) 18 ≡ false = lt-leb (length (d ∷ ds)) 18 h.many in
    rw (front_all is_digit (d ∷ ds) rest h.digits stop, long) refl

long_begins : (number : List ℕ) → IsLongNumber number → Begins is_digit number
long_begins number h = let many = h.many in begins_digit number h.digits (omega arith)

digits_show : (number rest : List ℕ) → Begins is_digit number → Stops is_blank (number ++ rest)
digits_show number rest h = begins_stops is_digit is_blank (λ c d. name_no_blank c (digit_in_name c d)) (number ++ rest) (begins_append is_digit number rest h)

module _ {E : Type 0} (K : FieldOps E) (O : MonomialOrder) (names : Names) (D : AreDifferent O.places names) where
  -- ---- factors

  -- a factor that is not read, behind blanks
  with_stopped : (t : Term E) (bytes before rest : List ℕ) (kind : LineKind) → bytes ≡ before ++ rest → AreBlanks before → Stops is_blank rest → factor_at K O names rest ≡ Err kind → with_factor K O names t bytes ≡ Err kind
  unfolding with_factor
  with_stopped t bytes before rest kind is blank stop e = rw (is, behind_all is_blank before rest blank stop, e) refl

  factor_none : (rest : List ℕ) → Stops is_digit rest → Stops is_letter rest → factor_at K O names rest ≡ Err PolySyntax
  unfolding factor_at
  factor_none [] d l = refl
  factor_none (b ∷ rest) d l = rw (d, l) refl

  factor_digit : (ds rest : List ℕ) (kind : LineKind) → Begins is_digit ds → number_at (ds ++ rest) ≡ Err kind → factor_at K O names (ds ++ rest) ≡ Err kind
  unfolding factor_at
  factor_digit [] rest kind b e = absurd b
  factor_digit (d ∷ ds) rest kind b e = rw (b, e) refl

  factor_long : (number rest : List ℕ) → IsLongNumber number → Stops is_digit rest → factor_at K O names (number ++ rest) ≡ Err NumberTooLong
  factor_long number rest h stop = factor_digit number rest NumberTooLong (long_begins number h) (number_long number rest h stop)

  -- a name, by its first byte
  name_first : (name tail : List ℕ) → has_name_form name ≡ true → Stops is_name_byte tail → factor_at K O names (name ++ tail) ≡ power_at K O names (name ++ tail)
  unfolding factor_at
  name_first [] tail form stop = absurd cc
  name_first (b ∷ bytes) tail form stop =
      let a = and_parts (is_letter b) (list_all is_name_byte bytes) form in
      rw (letter_no_digit b a.0, a.0) refl

  name_unknown : (name rest : List ℕ) → has_name_form name ≡ true → Stops is_name_byte rest → ((i : ℕ) → i < O.places → name_at names i ≡ Some name → ⊥) → power_at K O names (name ++ rest) ≡ Err UnknownName
  unfolding power_at
  name_unknown name rest form stop never = rw (front_all is_name_byte name rest (name_bytes name form) stop, sym (no_place O.places names name never)) refl

  power_stopped : (name tail : List ℕ) (i : ℕ) (kind : LineKind) → has_name_form name ≡ true → Stops is_name_byte tail → place_of names O.places name ≡ Some i → exponent_at tail ≡ Err kind → power_at K O names (name ++ tail) ≡ Err kind
  unfolding power_at
  power_stopped name tail i kind form stop place e =
      let all = name_bytes name form in
      rw (front_all is_name_byte name tail all stop, place, behind_all is_name_byte name tail all stop, e) refl

  name_shows : (name rest : List ℕ) → has_name_form name ≡ true → Stops is_blank (name ++ rest)
  name_shows name rest form = begins_stops is_name_byte is_blank name_no_blank (name ++ rest) (begins_append is_name_byte name rest (name_begins name form))

  -- the exponent behind a name and `^` is not read
  base_stopped : (t : Term E) (bytes before base rest : List ℕ) (kind : LineKind) → bytes ≡ before ++ (base ++ rest) → AreBlanks before → IsBase K O names base → Stops is_blank rest → number_at rest ≡ Err kind → with_factor K O names t bytes ≡ Err kind
  base_stopped t bytes before base rest kind is blank b stop e =
      let tail : List ℕ = b.between ++ (94 ∷ (b.after ++ rest)) in
      let form = name_form K O names D b.place b.name b.inside b.named in
      let place : place_of names O.places b.name ≡ Some b.place = place_found O.places names D O.places b.place b.name b.inside (omega arith) b.named in
      let ends : Stops is_name_byte tail = blank_then b.between (94 ∷ (b.after ++ rest)) b.blank_between refl in
      let up : exponent_at tail ≡ Err kind = raised_at b.between b.after rest b.blank_between b.blank_after stop ∙ e in
      let regroup : base ++ rest ≡ b.name ++ tail =
      ap (λ (l : List ℕ). l ++ rest) b.is ∙ (append_assoc b.name (b.between ++ (94 ∷ b.after)) rest ∙ ap (λ (l : List ℕ). b.name ++ l) (append_assoc b.between (94 ∷ b.after) rest)) in
      let whole : bytes ≡ before ++ (b.name ++ tail) = is ∙ ap (λ (l : List ℕ). before ++ l) regroup in
      with_stopped t bytes before (b.name ++ tail) kind whole blank (name_shows b.name tail form) (name_first b.name tail form ends ∙ power_stopped b.name tail b.place kind form ends place up)

  front_shows : (bytes : List ℕ) (x : Term E) (h : IsFrontFactor K O names bytes x) → Stops is_blank (h.factor ++ h.rest)
  front_shows bytes x h = begins_stops is_name_byte is_blank name_no_blank (h.factor ++ h.rest) (begins_append is_name_byte h.factor h.rest (factor_begins K O names D h.factor x h.reads))

  with_high : (t x : Term E) (bytes : List ℕ) → IsFrontFactor K O names bytes x → degree_max < O.degree (product t.at x.at) → with_factor K O names t bytes ≡ Err DegreeTooLarge
  unfolding with_factor
  with_high t x bytes h high =
      let r = factor_derived K O names D h.factor h.rest x h.reads h.ends in
      let low = lt-leb (O.degree (product t.at x.at)) degree_max high in
      rw (h.is, behind_all is_blank h.before (h.factor ++ h.rest) h.blank_before (front_shows bytes x h), r.1, low) refl

  with_more : (t x : Term E) (bytes : List ℕ) (h : IsFrontFactor K O names bytes x) → O.degree (product t.at x.at) ≤ degree_max → list_all is_blank h.rest ≡ false → with_factor K O names t bytes ≡ Err PolySyntax
  unfolding with_factor
  with_more t x bytes h small shows =
      let r = factor_derived K O names D h.factor h.rest x h.reads h.ends in
      let low = le-leb (O.degree (product t.at x.at)) degree_max small in
      let left : list_all is_blank r.0 ≡ false = false_from_ne_true (list_all is_blank r.0) (λ b. true≢false (sym (r.2.blank_back b) ∙ shows)) in
      rw (h.is, behind_all is_blank h.before (h.factor ++ h.rest) h.blank_before (front_shows bytes x h), r.1, low, left) refl

  factor_fault : (t : Term E) (bytes : List ℕ) (kind : LineKind) → IsFactorFault K O names t bytes kind → with_factor K O names t bytes ≡ Err kind
  factor_fault t bytes kind (no_factor _ _ before rest is blank stop d l) = with_stopped t bytes before rest PolySyntax is blank stop (factor_none rest d l)
  factor_fault t bytes kind (long_number _ _ before number rest is blank long stop) =
      with_stopped t bytes before (number ++ rest) NumberTooLong is blank (digits_show number rest (long_begins number long)) (factor_long number rest long stop)
  factor_fault t bytes kind (unknown_name _ _ before name rest is blank form stop never) =
      with_stopped t bytes before (name ++ rest) UnknownName is blank (name_shows name rest form) (name_first name rest form stop ∙ name_unknown name rest form stop never)
  factor_fault t bytes kind (no_exponent _ _ before base rest is blank b stop d) = base_stopped t bytes before base rest PolySyntax is blank b stop (number_none rest d)
  factor_fault t bytes kind (long_exponent _ _ before base number rest is blank b long stop) =
      base_stopped t bytes before base (number ++ rest) NumberTooLong is blank b (digits_show number rest (long_begins number long)) (number_long number rest long stop)
  factor_fault t bytes kind (high_degree _ x _ h high) = with_high t x bytes h high
  factor_fault t bytes kind (no_end _ x _ h small shows) = with_more t x bytes h small shows

  -- ---- terms

  product_fault : (t : Term E) (bytes : List ℕ) (kind : LineKind) → IsProductFault K O names t bytes kind → along (with_factor K O names) t (slice_split is_star bytes) ≡ Err kind
  unfolding along
  product_fault t bytes kind (in_factor _ _ _ h) = rw (parts_split is_star bytes, factor_fault t (front (λ b. not (is_star b)) bytes) kind h) refl
  product_fault t bytes kind (in_later_factor _ u x _ part rest _ is h n later) =
      let parts : slice_split is_star bytes ≡ part ∷ slice_split is_star rest =
      ap (slice_split is_star) is ∙ slice_split_at is_star part 42 rest (All-from_recursion (λ c. is_star c ≡ false) part (spaced_lacks K O names D is_star star_apart part x h)) refl in
      rw (parts, with_derived K O names D t u x part h n) (product_fault u rest kind later)

  term_fault : (minus : Bool) (bytes : List ℕ) (kind : LineKind) → IsProductFault K O names (term_of [] (sign K O names minus)) bytes kind → term_at K O names (minus, bytes) ≡ Err kind
  unfolding term_at
  term_fault minus bytes kind h = product_fault (term_of [] (sign K O names minus)) bytes kind h

  -- ---- sums

  sum_fault : (minus : Bool) (bytes : List ℕ) (kind : LineKind) → IsSumFault K O names minus bytes kind → each (term_at K O names) (signed_parts minus bytes) ≡ Err kind
  unfolding each
  sum_fault minus bytes kind (in_term _ _ _ h) = rw (terms_split minus bytes, term_fault minus (front (λ b. not (is_sign b)) bytes) kind h) refl
  sum_fault minus bytes kind (in_later_term _ next _ part rest t _ is h later) =
      let parts : signed_parts minus bytes ≡ (minus, part) ∷ signed_parts next rest =
      ap (signed_parts minus) is ∙ next_parts K O names D minus next part rest (product_lacks K O names D is_sign sign_apart refl (term_of [] (sign K O names minus)) t part h) in
      rw (parts, term_derived K O names D minus part t h, sum_fault next rest kind later) refl

  unsigned : (line : List ℕ) → IsUnsigned K O names line → behind_sign (signed_parts false line) ≡ signed_parts false line
  unsigned line h = by (behind (λ b. not (is_sign b)) line) refl h
    where
      split : (rest : List ℕ) → behind (λ b. not (is_sign b)) line ≡ rest → signed_parts false line ≡ (false, front (λ b. not (is_sign b)) line) ∷ terms_behind rest
      split rest is = terms_split false line ∙ ap (λ (l : List ℕ). (false, front (λ b. not (is_sign b)) line) ∷ terms_behind l) is

      by : (rest : List ℕ) → behind (λ b. not (is_sign b)) line ≡ rest → (behind (λ b. not (is_sign b)) line ≡ []) ⊎ (list_all is_blank (front (λ b. not (is_sign b)) line) ≡ false) → behind_sign (signed_parts false line) ≡ signed_parts false line
      by [] is h = rw (split [] is) refl
      by (b ∷ rest) is (inl none) = let clash : (b ∷ rest) ≡ [] = sym is ∙ none in absurd cc
      by (b ∷ rest) is (inr shows) = no_sign line (front (λ b. not (is_sign b)) line) rest (eqb b 45) (split (b ∷ rest) is) shows

  pub fault_stops : (line : List ℕ) (kind : LineKind) → IsLineFault K O names line kind → terms_of K O names line ≡ Err kind
  unfolding terms_of
  fault_stops line kind (inl h) = ap (each (term_at K O names)) (unsigned line h.0) ∙ sum_fault false line kind h.1
  fault_stops line kind (inr s) =
      let parts = ap (signed_parts false) s.is ∙ next_parts K O names D false s.minus s.before s.rest (lack_from is_blank is_sign blank_no_sign s.before s.blank_before) in
      ap (each (term_at K O names)) (sign_left_out line s.before s.rest s.minus parts s.blank_before) ∙ sum_fault s.minus s.rest kind s.fault

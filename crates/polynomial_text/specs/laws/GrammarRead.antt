-- What a line is read as is derived from it by the grammar, and the fault with which reading stops is its first fault.
use Rattle.std.proofs.Common.{◌≡◌, ℕ, zero, suc, ◌<◌, ◌≤◌, Bool, true, false, cond, not, ◌||◌, eqb, List, [], ◌∷◌, ◌++◌, length, Option, Some, None, Result, Ok, Err, nat_le, refl, sym, ap, subst, ◌∙◌, append_assoc, append-nil, inl, inr, arith}
use Rattle.std.specs.Prelude.{◌⊎◌}
use Rattle.std.specs.List.{list_all, slice_split}
use Rattle.std.specs.Str.Parse.{digits_value}
use Rattle.std.proofs.lemmas.Bool.{leb-true, leb-false, eqb-true, and_parts, not-false, false_from_ne_true, true≢false}
use Rattle.std.proofs.lemmas.List.{length-append}
use Rattle.word_field.specs.Field.{FieldOps}
use Rattle.monomial_order.specs.declared.terms.Term.{Term}
use Rattle.monomial_order.specs.Limits.{degree_max}
use Rattle.monomial_order.specs.Monomial.{product}
use Rattle.monomial_order.specs.MonomialOrder.{MonomialOrder}
use Rattle.polynomials.specs.Polynomial.{Polynomial, term_of, term_times}
use Rattle.poly_core.specs.declared.place_names.Names.{Names}
use Rattle.poly_core.specs.Names.{is_letter, is_name_byte, has_name_form}
use Rattle.polynomial_text.specs.declared.line_fault.LineKind.{LineKind}
use Rattle.polynomial_text.specs.declared.line_fault.LineKind.TheVariants.{PolySyntax, NumberTooLong, DegreeTooLarge}
use Rattle.polynomial_text.specs.Results.{◌>>=◌, along, each}
use Rattle.polynomial_text.specs.Bytes.{is_blank, is_digit, is_sign, front, behind, Stops}
use Rattle.polynomial_text.specs.PolyLine.{number_at, exponent_at, power, place_of, power_at, factor_at, with_factor, sign, term_at, behind_sign, signed_parts, terms_of}
use Rattle.polynomial_text.specs.Grammar.{AreBlanks, IsNumber, IsExponent, sign_byte, IsConstant, IsPower, IsSpacedFactor, IsNextProduct, IsProduct, one_factor, factors, IsTermOf, IsSum, one_term, terms, IsLine}
use Rattle.polynomial_text.specs.GrammarFaults.{IsLongNumber, EndsExponent, EndsFactor, IsBase, IsFrontFactor, IsFactorFault, no_factor, long_number, unknown_name, no_exponent, long_exponent, high_degree, no_end, IsProductFault, in_factor, in_later_factor, IsSumFault, in_term, in_later_term, IsUnsigned, IsLineFault}
use Rattle.polynomial_text.specs.laws.CanonicalParts.{all_append}
use Rattle.polynomial_text.specs.laws.Fronts.{behind_stops, parts_split, terms_split, sign_left_out, no_sign, front_passes}
use Rattle.polynomial_text.specs.laws.Names.{IsPlaceResult, place_result, letter_in_name}

-- ---- fronts

pub front_behind : (p : ℕ → Bool) (bytes : List ℕ) → bytes ≡ front p bytes ++ behind p bytes
unfolding front behind
front_behind p [] = refl
front_behind p (b ∷ bytes) =
    elim (p b) as (λ t. (b ∷ bytes) ≡ cond t (b ∷ front p bytes) [] ++ cond t (behind p bytes) (b ∷ bytes)) [
      | true ↦ ap (λ (r : List ℕ). b ∷ r) (front_behind p bytes)
      | false ↦ refl
    ]

-- the front, and what is known to be behind it
front_then : (p : ℕ → Bool) (bytes rest : List ℕ) → behind p bytes ≡ rest → bytes ≡ front p bytes ++ rest
front_then p bytes rest is = front_behind p bytes ∙ ap (λ (l : List ℕ). front p bytes ++ l) is

front_none : (p : ℕ → Bool) (bytes : List ℕ) → front p bytes ≡ [] → Stops p bytes
unfolding front
front_none p [] e = tt
front_none p (b ∷ bytes) e = elim (p b) as (λ t. p b ≡ t → cond t (b ∷ front p bytes) [] ≡ [] → p b ≡ false) [ true ↦ λ k h. absurd cc | false ↦ λ k h. k ] refl e

pub blanks_behind : (xs ys : List ℕ) → AreBlanks (xs ++ ys) → AreBlanks ys
blanks_behind [] ys h = h
blanks_behind (x ∷ xs) ys h = blanks_behind xs ys (and_parts (is_blank x) (list_all is_blank (xs ++ ys)) h).1

-- a text with a separator, and what is behind the first one
record IsCut (p : ℕ → Bool) (text : List ℕ) (b : ℕ) (rest : List ℕ) : Type 0 where
  is : behind (λ b. not (p b)) text ≡ b ∷ rest
  separator : p b ≡ true
  whole : text ≡ front (λ b. not (p b)) text ++ b ∷ rest
  shorter : length rest < length text

-- a text without a separator
record IsUncut (p : ℕ → Bool) (text : List ℕ) : Type 0 where
  is : behind (λ b. not (p b)) text ≡ []
  whole : front (λ b. not (p b)) text ≡ text

cut : (p : ℕ → Bool) (text : List ℕ) → IsUncut p text ⊎ ((b : ℕ) × (rest : List ℕ) × IsCut p text b rest)
cut p text = by (behind (λ b. not (p b)) text) refl (behind_stops (λ b. not (p b)) text)
  where
    by : (left : List ℕ) → behind (λ b. not (p b)) text ≡ left → Stops (λ b. not (p b)) left → IsUncut p text ⊎ ((b : ℕ) × (rest : List ℕ) × IsCut p text b rest)
    by [] is stop = inl (record { is = is; whole = sym (front_then (λ b. not (p b)) text [] is ∙ append-nil (front (λ b. not (p b)) text)) })
    by (b ∷ rest) is stop =
        let whole = front_then (λ b. not (p b)) text (b ∷ rest) is in
        inr (b, rest, record { is = is; separator = not-false (p b) stop; whole = whole; shorter = omega (arith, ap length whole, length-append (front (λ b. not (p b)) text) (b ∷ rest)) })

sign_is : (b : ℕ) → is_sign b ≡ true → b ≡ sign_byte (eqb b 45)
sign_is b h = elim (eqb b 45) as (λ t. eqb b 45 ≡ t → (eqb b 43 || t) ≡ true → b ≡ sign_byte t) [
  | true ↦ λ e k. eqb-true b 45 e
  | false ↦ λ e k. plus (eqb b 43) refl k
] refl h
  where
    plus : (t : Bool) → eqb b 43 ≡ t → (t || false) ≡ true → b ≡ 43
    plus true e k = eqb-true b 43 e
    plus false e k = absurd cc

-- ---- tokens

-- a token at the front, what is behind it, and what was left when it was read, which differ by blanks alone
record IsRead (Q : List ℕ → List ℕ → Type 0) (bytes left : List ℕ) : Type 0 where
  token : List ℕ
  back : List ℕ
  is : bytes ≡ token ++ back
  reads : Q token back
  blank : AreBlanks left → AreBlanks back
  blank_left : AreBlanks back → AreBlanks left

-- a token with a front before it, as another token
read_behind : {Q R : List ℕ → List ℕ → Type 0} {bytes rest left : List ℕ} (before : List ℕ) → bytes ≡ before ++ rest → ((token back : List ℕ) → Q token back → R (before ++ token) back) → IsRead Q rest left → IsRead R bytes left
read_behind before is f r = record {
  token = before ++ r.token;
  back = r.back;
  is = is ∙ ap (λ (l : List ℕ). before ++ l) r.is ∙ sym (append_assoc before r.token r.back);
  reads = f r.token r.back r.reads;
  blank = r.blank;
  blank_left = r.blank_left;
}

-- ---- numbers and exponents

abbrev IsNumberRead : ℕ → List ℕ → List ℕ → Type 0
IsNumberRead n digits back = IsNumber digits n × Stops is_digit back

-- the fault of bytes that are to begin with a number
data IsNumberFault : List ℕ → LineKind → Type 0 where
  no_number : (bytes : List ℕ) → Stops is_digit bytes → IsNumberFault bytes PolySyntax
  too_long : (bytes number rest : List ℕ) → bytes ≡ number ++ rest → IsLongNumber number → Stops is_digit rest → IsNumberFault bytes NumberTooLong

abbrev IsNumberResult : List ℕ → Result (ℕ × List ℕ) LineKind → Type 0
IsNumberResult bytes (Ok x) = IsRead (IsNumberRead x.0) bytes x.1
IsNumberResult bytes (Err kind) = IsNumberFault bytes kind

number_result : (bytes : List ℕ) → IsNumberResult bytes (number_at bytes)
unfolding number_at
number_result bytes = by_digits (front is_digit bytes) refl
  where
    by_length : (ds : List ℕ) → front is_digit bytes ≡ ds → 1 ≤ length ds → (few : Bool) → nat_le (length ds) 18 ≡ few → IsNumberResult bytes (cond few (Ok (digits_value 10 ds, behind is_digit bytes)) (Err NumberTooLong))
    by_length ds is some true few = record {
      token = ds;
      back = behind is_digit bytes;
      is = rw is at (front_behind is_digit bytes);
      reads = (record { digits = rw is at (front_passes is_digit bytes); some = some; few = leb-true (length ds) 18 few; value = refl }, behind_stops is_digit bytes);
      blank = λ h. h;
      blank_left = λ h. h;
    }
    by_length ds is some false few =
        too_long bytes ds (behind is_digit bytes) (rw is at (front_behind is_digit bytes)) (record { digits = rw is at (front_passes is_digit bytes); many = leb-false (length ds) 18 few }) (behind_stops is_digit bytes)

    by_digits : (ds : List ℕ) → front is_digit bytes ≡ ds → IsNumberResult bytes (number_at bytes)
    by_digits [] is = rw is (no_number bytes (front_none is_digit bytes is))
    by_digits (d ∷ ds) is = rw is (by_length (d ∷ ds) is (omega arith) (nat_le (length (d ∷ ds)) 18) refl)

abbrev IsExponentRead : ℕ → List ℕ → List ℕ → Type 0
IsExponentRead n token back = (e : IsExponent token n) × EndsExponent e back

-- the fault behind `^`
record IsExponentFault (bytes : List ℕ) (kind : LineKind) : Type 0 where
  between : List ℕ
  after : List ℕ
  rest : List ℕ
  is : bytes ≡ between ++ (94 ∷ (after ++ rest))
  blank_between : AreBlanks between
  blank_after : AreBlanks after
  stop : Stops is_blank rest
  fault : IsNumberFault rest kind

abbrev IsExponentResult : List ℕ → Result (ℕ × List ℕ) LineKind → Type 0
IsExponentResult bytes (Ok x) = IsRead (IsExponentRead x.0) bytes x.1
IsExponentResult bytes (Err kind) = IsExponentFault bytes kind

exponent_result : (bytes : List ℕ) → Stops is_name_byte bytes → IsExponentResult bytes (exponent_at bytes)
unfolding exponent_at
exponent_result bytes stop = by_rest (behind is_blank bytes) refl
  where
    none : (rest : List ℕ) → behind is_blank bytes ≡ rest → Stops (λ b. eqb b 94) rest → IsExponentResult bytes (Ok (1, rest))
    none rest is other =
        let whole = front_then is_blank bytes rest is in
        record {
          token = [];
          back = bytes;
          is = refl;
          reads = (inl (refl, refl), (stop, rw (← is) at other));
          blank = λ h. subst AreBlanks (sym whole) (all_append is_blank (front is_blank bytes) rest (front_passes is_blank bytes) h);
          blank_left = λ h. blanks_behind (front is_blank bytes) rest (subst AreBlanks whole h);
        }

    some : (rest : List ℕ) → behind is_blank bytes ≡ 94 ∷ rest → (r : Result (ℕ × List ℕ) LineKind) → IsNumberResult (behind is_blank rest) r → IsExponentResult bytes r
    some rest is (Ok n) r =
        let first : List ℕ = front is_blank bytes in
        let second : List ℕ = front is_blank rest in
        let whole : bytes ≡ (first ++ (94 ∷ second)) ++ behind is_blank rest =
        front_then is_blank bytes (94 ∷ rest) is ∙ ap (λ (l : List ℕ). first ++ (94 ∷ l)) (front_behind is_blank rest) ∙ sym (append_assoc first (94 ∷ second) (behind is_blank rest)) in
        read_behind (first ++ (94 ∷ second)) whole
        (λ token back q. (inr (record { before = first; between = second; number = token; is = append_assoc first (94 ∷ second) token; blank_before = front_passes is_blank bytes; blank_between = front_passes is_blank rest; exponent = q.0 }), q.1)) r
    some rest is (Err kind) fault = record {
      between = front is_blank bytes;
      after = front is_blank rest;
      rest = behind is_blank rest;
      is = front_then is_blank bytes (94 ∷ rest) is ∙ ap (λ (l : List ℕ). front is_blank bytes ++ (94 ∷ l)) (front_behind is_blank rest);
      blank_between = front_passes is_blank bytes;
      blank_after = front_passes is_blank rest;
      stop = behind_stops is_blank rest;
      fault = fault;
    }

    by_first : (b : ℕ) (rest : List ℕ) → behind is_blank bytes ≡ b ∷ rest → (t : Bool) → eqb b 94 ≡ t → IsExponentResult bytes (cond t (number_at (behind is_blank rest)) (Ok (1, b ∷ rest)))
    by_first b rest is true t = some rest (is ∙ ap (λ (c : ℕ). c ∷ rest) (eqb-true b 94 t)) (number_at (behind is_blank rest)) (number_result (behind is_blank rest))
    by_first b rest is false t = none (b ∷ rest) is t

    by_rest : (rest : List ℕ) → behind is_blank bytes ≡ rest → IsExponentResult bytes (exponent_at bytes)
    by_rest [] is = rw is (none [] is tt)
    by_rest (b ∷ rest) is = rw is (by_first b rest is (eqb b 94) refl)

-- ---- names

letter_form : (b : ℕ) (bytes : List ℕ) → is_letter b ≡ true → has_name_form (front is_name_byte (b ∷ bytes)) ≡ true
unfolding front
letter_form b bytes h = rw (letter_in_name b h, h) (front_passes is_name_byte bytes)

-- the longest name at the front, and the bytes before the first `*` and before the first sign
abbrev name_front : List ℕ → List ℕ
name_front bytes = front is_name_byte bytes

abbrev star_front : List ℕ → List ℕ
star_front text = front (λ b. not (eqb b 42)) text

abbrev sign_front : List ℕ → List ℕ
sign_front text = front (λ b. not (is_sign b)) text

module _ {E : Type 0} (K : FieldOps E) (O : MonomialOrder) (names : Names) where
  -- ---- factors

  -- the bytes behind the blanks of a part
  record IsBehindBlanks (part bytes : List ℕ) : Type 0 where
    before : List ℕ
    is : part ≡ before ++ bytes
    blank : AreBlanks before
    ends : Stops is_blank bytes

  abbrev IsFactorRead : Term E → List ℕ → List ℕ → Type 0
  IsFactorRead x token back = (f : IsConstant K O names token x ⊎ IsPower K O names token x) × EndsFactor K O names f back

  -- a factor at the front of the bytes, or the fault of each part that they are left of, behind its blanks
  abbrev IsFactorResult : List ℕ → Result (Term E × List ℕ) LineKind → Type 0
  IsFactorResult bytes (Ok x) = IsRead (IsFactorRead x.0) bytes x.1
  IsFactorResult bytes (Err kind) = (t : Term E) (part : List ℕ) → IsBehindBlanks part bytes → IsFactorFault K O names t part kind

  constant_result : (bytes : List ℕ) → (Stops is_digit bytes → ⊥) → (r : Result (ℕ × List ℕ) LineKind) → IsNumberResult bytes r → IsFactorResult bytes (r >>= λ n. Ok (term_of [] (K.of_word n.0), n.1))
  constant_result bytes begins (Ok n) r = read_behind [] refl (λ token back q. (inl (record { number = n.0; is = q.0; means = refl }), q.1)) r
  constant_result bytes begins (Err kind) fault = λ t part at. by kind fault t part at
    where
      by : (kind : LineKind) → IsNumberFault bytes kind → (t : Term E) (part : List ℕ) → IsBehindBlanks part bytes → IsFactorFault K O names t part kind
      by kind (no_number _ stop) t part at = absurd (begins stop)
      by kind (too_long _ number rest is long stop) t part at = long_number t part at.before number rest (at.is ∙ ap (λ (l : List ℕ). at.before ++ l) is) at.blank long stop

  -- the fault of a number behind the name of a variable and `^`
  base_fault : (t : Term E) (part before base rest : List ℕ) (kind : LineKind) → part ≡ before ++ (base ++ rest) → AreBlanks before → IsBase K O names base → Stops is_blank rest → IsNumberFault rest kind → IsFactorFault K O names t part kind
  base_fault t part before base rest kind is blank h stop (no_number _ none) = no_exponent t part before base rest is blank h stop none
  base_fault t part before base rest kind is blank h stop (too_long _ number tail e long ends) =
      long_exponent t part before base number tail (is ∙ ap (λ (l : List ℕ). before ++ (base ++ l)) e) blank h long ends

  power_result : (bytes : List ℕ) → has_name_form (front is_name_byte bytes) ≡ true → IsFactorResult bytes (power_at K O names bytes)
  unfolding power_at
  power_result bytes form = by_place (place_of names O.places (name_front bytes)) refl (place_result names O.places (name_front bytes))
    where
      by_exponent : (i : ℕ) → IsPlaceResult names O.places (name_front bytes) (Some i) → (r : Result (ℕ × List ℕ) LineKind) → IsExponentResult (behind is_name_byte bytes) r → IsFactorResult bytes (r >>= λ e. Ok (term_of (power i e.0) K.one, e.1))
      by_exponent i found (Ok e) r = read_behind (name_front bytes) (front_behind is_name_byte bytes)
          (λ token back q. (
            inr (record { name = name_front bytes; behind = token; place = i; exponent = e.0; is = refl; inside = found.0; named = found.1; raised = q.0; means = refl }),
            q.1,
          )) r
      by_exponent i found (Err kind) f = λ t part at.
          let base : List ℕ = name_front bytes ++ (f.between ++ (94 ∷ f.after)) in
          let regroup : bytes ≡ base ++ f.rest =
          front_then is_name_byte bytes _ f.is ∙ ap (λ (l : List ℕ). name_front bytes ++ l) (sym (append_assoc f.between (94 ∷ f.after) f.rest)) ∙ sym (append_assoc (name_front bytes) (f.between ++ (94 ∷ f.after)) f.rest) in
          base_fault t part at.before base f.rest kind (at.is ∙ ap (λ (l : List ℕ). at.before ++ l) regroup) at.blank
          (record { name = name_front bytes; between = f.between; after = f.after; place = i; is = refl; blank_between = f.blank_between; blank_after = f.blank_after; inside = found.0; named = found.1 })
          f.stop f.fault

      by_place : (r : Option ℕ) → place_of names O.places (name_front bytes) ≡ r → IsPlaceResult names O.places (name_front bytes) r → IsFactorResult bytes (power_at K O names bytes)
      by_place None is never = rw is (λ t part at. unknown_name t part at.before (name_front bytes) (behind is_name_byte bytes) (at.is ∙ ap (λ (l : List ℕ). at.before ++ l) (front_behind is_name_byte bytes)) at.blank form (behind_stops is_name_byte bytes) never)
      by_place (Some i) is found = rw is (by_exponent i found (exponent_at (behind is_name_byte bytes)) (exponent_result (behind is_name_byte bytes) (behind_stops is_name_byte bytes)))

  factor_result : (bytes : List ℕ) → IsFactorResult bytes (factor_at K O names bytes)
  unfolding factor_at
  factor_result [] = λ t part at. no_factor t part at.before [] at.is at.blank tt tt tt
  factor_result (b ∷ bytes) = by_class (is_digit b) refl (is_letter b) refl
    where
      by_class : (digit : Bool) → is_digit b ≡ digit → (letter : Bool) → is_letter b ≡ letter →
          IsFactorResult (b ∷ bytes) (cond digit (number_at (b ∷ bytes) >>= λ n. Ok (term_of [] (K.of_word n.0), n.1)) (cond letter (power_at K O names (b ∷ bytes)) (Err PolySyntax)))
      by_class true digit letter l = constant_result (b ∷ bytes) (λ stop. true≢false (sym digit ∙ stop)) (number_at (b ∷ bytes)) (number_result (b ∷ bytes))
      by_class false digit true letter = power_result (b ∷ bytes) (letter_form b bytes letter)
      by_class false digit false letter = λ t part at. no_factor t part at.before (b ∷ bytes) at.is at.blank at.ends digit letter

  -- one more factor
  record IsMore (t : Term E) (part : List ℕ) (u : Term E) : Type 0 where
    factor : Term E
    text : IsSpacedFactor K O names part factor
    product : IsNextProduct K O names t factor u

  abbrev IsMoreResult : Term E → List ℕ → Result (Term E) LineKind → Type 0
  IsMoreResult t part (Ok u) = IsMore t part u
  IsMoreResult t part (Err kind) = IsFactorFault K O names t part kind

  more_result : (t : Term E) (part : List ℕ) → IsMoreResult t part (with_factor K O names t part)
  unfolding with_factor
  more_result t part = by_factor (factor_at K O names (behind is_blank part)) (factor_result (behind is_blank part))
    where
      front_factor : (x : Term E × List ℕ) → IsRead (IsFactorRead x.0) (behind is_blank part) x.1 → IsFrontFactor K O names part x.0
      front_factor x r = record { before = front is_blank part; factor = r.token; rest = r.back; is = front_then is_blank part (r.token ++ r.back) r.is; blank_before = front_passes is_blank part; reads = r.reads.0; ends = r.reads.1 }

      by_rest : (x : Term E × List ℕ) → IsRead (IsFactorRead x.0) (behind is_blank part) x.1 → (low : Bool) → nat_le (O.degree (product t.at x.0.at)) degree_max ≡ low → (blank : Bool) → list_all is_blank x.1 ≡ blank →
          IsMoreResult t part (cond low (cond blank (Ok (term_times K t x.0)) (Err PolySyntax)) (Err DegreeTooLarge))
      by_rest x r false is blank rest = high_degree t x.0 part (front_factor x r) (leb-false (O.degree (product t.at x.0.at)) degree_max is)
      by_rest x r true is false rest =
          no_end t x.0 part (front_factor x r) (leb-true (O.degree (product t.at x.0.at)) degree_max is) (false_from_ne_true (list_all is_blank r.back) (λ b. true≢false (sym (r.blank_left b) ∙ rest)))
      by_rest x r true is true rest = record {
        factor = x.0;
        text = record { before = front is_blank part; factor = r.token; behind = r.back; is = front_then is_blank part (r.token ++ r.back) r.is; blank_before = front_passes is_blank part; blank_behind = r.blank rest; reads = r.reads.0 };
        product = record { is = refl; small = leb-true (O.degree (product t.at x.0.at)) degree_max is };
      }

      by_factor : (r : Result (Term E × List ℕ) LineKind) → IsFactorResult (behind is_blank part) r →
          IsMoreResult t part (r >>= λ x. cond (nat_le (O.degree (product t.at x.0.at)) degree_max) (cond (list_all is_blank x.1) (Ok (term_times K t x.0)) (Err PolySyntax)) (Err DegreeTooLarge))
      by_factor (Ok x) r = by_rest x r (nat_le (O.degree (product t.at x.0.at)) degree_max) refl (list_all is_blank x.1) refl
      by_factor (Err kind) fault = fault t part (record { before = front is_blank part; is = front_behind is_blank part; blank = front_passes is_blank part; ends = behind_stops is_blank part })

  -- ---- terms

  abbrev IsProductResult : Term E → List ℕ → Result (Term E) LineKind → Type 0
  IsProductResult t text (Ok v) = IsProduct K O names t text v
  IsProductResult t text (Err kind) = IsProductFault K O names t text kind

  product_step : (t : Term E) (text : List ℕ) → ((rest : List ℕ) → length rest < length text → (u : Term E) → IsProductResult u rest (along (with_factor K O names) u (slice_split (λ b. eqb b 42) rest))) →
      IsProductResult t text (along (with_factor K O names) t (slice_split (λ b. eqb b 42) text))
  unfolding along
  product_step t text again = by_cut (cut (λ b. eqb b 42) text)
    where
      last : text ≡ star_front text → (r : Result (Term E) LineKind) → IsMoreResult t (star_front text) r → IsProductResult t text (r >>= λ u. Ok u)
      last whole (Ok u) m = one_factor t u m.factor text (subst (λ (l : List ℕ). IsSpacedFactor K O names l m.factor) (sym whole) m.text) m.product
      last whole (Err kind) fault = in_factor t text kind fault

      later : (rest : List ℕ) → text ≡ star_front text ++ 42 ∷ rest → (u : Term E) → IsMore t (star_front text) u → (r : Result (Term E) LineKind) → IsProductResult u rest r → IsProductResult t text r
      later rest whole u m (Ok v) p = factors t u v m.factor text (star_front text) rest whole m.text m.product p
      later rest whole u m (Err kind) fault = in_later_factor t u m.factor text (star_front text) rest kind whole m.text m.product fault

      first : (rest : List ℕ) → text ≡ star_front text ++ 42 ∷ rest → length rest < length text →
          (r : Result (Term E) LineKind) → IsMoreResult t (star_front text) r → IsProductResult t text (r >>= λ u. along (with_factor K O names) u (slice_split (λ b. eqb b 42) rest))
      first rest whole shorter (Ok u) m = later rest whole u m (along (with_factor K O names) u (slice_split (λ b. eqb b 42) rest)) (again rest shorter u)
      first rest whole shorter (Err kind) fault = in_factor t text kind fault

      by_cut : IsUncut (λ b. eqb b 42) text ⊎ ((b : ℕ) × (rest : List ℕ) × IsCut (λ b. eqb b 42) text b rest) → IsProductResult t text (along (with_factor K O names) t (slice_split (λ b. eqb b 42) text))
      by_cut (inl none) = rw (parts_split (λ b. eqb b 42) text, none.is) (last (sym none.whole) (with_factor K O names t (star_front text)) (more_result t (star_front text)))
      by_cut (inr (b, rest, c)) =
          rw (parts_split (λ b. eqb b 42) text, c.is)
          (first rest (c.whole ∙ ap (λ (d : ℕ). star_front text ++ d ∷ rest) (eqb-true b 42 c.separator)) c.shorter (with_factor K O names t (star_front text)) (more_result t (star_front text)))

  product_within : (n : ℕ) (text : List ℕ) → length text < n → (t : Term E) → IsProductResult t text (along (with_factor K O names) t (slice_split (λ b. eqb b 42) text))
  product_within zero text lt t = absurd (omega arith)
  product_within (suc n) text lt t = product_step t text (λ rest shorter u. product_within n rest (omega (arith, lt, shorter)) u)

  term_result : (minus : Bool) (text : List ℕ) → IsProductResult (term_of [] (sign K O names minus)) text (term_at K O names (minus, text))
  unfolding term_at
  term_result minus text = product_within (suc (length text)) text (omega arith) (term_of [] (sign K O names minus))

  -- ---- sums

  abbrev IsSumResult : Bool → List ℕ → Result (Polynomial E) LineKind → Type 0
  IsSumResult minus text (Ok ts) = IsSum K O names minus text ts
  IsSumResult minus text (Err kind) = IsSumFault K O names minus text kind

  abbrev IsFirstResult : Bool → List ℕ → Result (Term E) LineKind → Type 0
  IsFirstResult minus text r = IsProductResult (term_of [] (sign K O names minus)) (sign_front text) r

  sum_step : (minus : Bool) (text : List ℕ) → ((rest : List ℕ) → length rest < length text → (next : Bool) → IsSumResult next rest (each (term_at K O names) (signed_parts next rest))) →
      IsSumResult minus text (each (term_at K O names) (signed_parts minus text))
  unfolding each
  sum_step minus text again = by_cut (cut is_sign text)
    where
      last : text ≡ sign_front text → (r : Result (Term E) LineKind) → IsFirstResult minus text r → IsSumResult minus text (r >>= λ t. Ok (t ∷ []))
      last whole (Ok t) h = one_term minus text t (subst (λ (l : List ℕ). IsTermOf K O names minus l t) (sym whole) h)
      last whole (Err kind) fault = in_term minus text kind fault

      later : (next : Bool) (rest : List ℕ) → text ≡ sign_front text ++ sign_byte next ∷ rest → (t : Term E) → IsTermOf K O names minus (sign_front text) t →
          (r : Result (Polynomial E) LineKind) → IsSumResult next rest r → IsSumResult minus text (r >>= λ ts. Ok (t ∷ ts))
      later next rest whole t h (Ok ts) s = terms minus next text (sign_front text) rest t ts whole h s
      later next rest whole t h (Err kind) fault = in_later_term minus next text (sign_front text) rest t kind whole h fault

      first : (next : Bool) (rest : List ℕ) → text ≡ sign_front text ++ sign_byte next ∷ rest → length rest < length text →
          (r : Result (Term E) LineKind) → IsFirstResult minus text r → IsSumResult minus text (r >>= λ t. each (term_at K O names) (signed_parts next rest) >>= λ ts. Ok (t ∷ ts))
      first next rest whole shorter (Ok t) h = later next rest whole t h (each (term_at K O names) (signed_parts next rest)) (again rest shorter next)
      first next rest whole shorter (Err kind) fault = in_term minus text kind fault

      by_cut : IsUncut is_sign text ⊎ ((b : ℕ) × (rest : List ℕ) × IsCut is_sign text b rest) → IsSumResult minus text (each (term_at K O names) (signed_parts minus text))
      by_cut (inl none) = rw (terms_split minus text, none.is) (last (sym none.whole) (term_at K O names (minus, sign_front text)) (term_result minus (sign_front text)))
      by_cut (inr (b, rest, c)) = rw (terms_split minus text, c.is)
          (first (eqb b 45) rest (c.whole ∙ ap (λ (d : ℕ). sign_front text ++ d ∷ rest) (sign_is b c.separator)) c.shorter (term_at K O names (minus, sign_front text)) (term_result minus (sign_front text)))

  sum_within : (n : ℕ) (text : List ℕ) → length text < n → (minus : Bool) → IsSumResult minus text (each (term_at K O names) (signed_parts minus text))
  sum_within zero text lt minus = absurd (omega arith)
  sum_within (suc n) text lt minus = sum_step minus text (λ rest shorter next. sum_within n rest (omega (arith, lt, shorter)) next)

  sum_result : (minus : Bool) (text : List ℕ) → IsSumResult minus text (each (term_at K O names) (signed_parts minus text))
  sum_result minus text = sum_within (suc (length text)) text (omega arith) minus

  -- ---- lines

  abbrev pub IsLineResult : List ℕ → Result (Polynomial E) LineKind → Type 0
  IsLineResult line (Ok ts) = IsLine K O names line ts
  IsLineResult line (Err kind) = IsLineFault K O names line kind

  pub line_result : (line : List ℕ) → IsLineResult line (terms_of K O names line)
  unfolding terms_of
  line_result line = by_cut (cut is_sign line)
    where
      unsigned : IsUnsigned K O names line → (r : Result (Polynomial E) LineKind) → IsSumResult false line r → IsLineResult line r
      unsigned u (Ok ts) s = inl s
      unsigned u (Err kind) fault = inl (u, fault)

      signed : (minus : Bool) (rest : List ℕ) → line ≡ sign_front line ++ sign_byte minus ∷ rest → AreBlanks (sign_front line) → (r : Result (Polynomial E) LineKind) → IsSumResult minus rest r → IsLineResult line r
      signed minus rest is blank (Ok ts) s = inr (record { before = sign_front line; minus = minus; rest = rest; is = is; blank_before = blank; sum = s })
      signed minus rest is blank (Err kind) fault = inr (record { before = sign_front line; minus = minus; rest = rest; is = is; blank_before = blank; fault = fault })

      by_blank : (b : ℕ) (rest : List ℕ) → IsCut is_sign line b rest → (t : Bool) → list_all is_blank (sign_front line) ≡ t → IsLineResult line (each (term_at K O names) (behind_sign (signed_parts false line)))
      by_blank b rest c true blank =
          rw (sign_left_out line (sign_front line) rest (eqb b 45) (rw (terms_split false line, c.is) refl) blank)
          (signed (eqb b 45) rest (c.whole ∙ ap (λ (d : ℕ). sign_front line ++ d ∷ rest) (sign_is b c.separator)) blank (each (term_at K O names) (signed_parts (eqb b 45) rest)) (sum_result (eqb b 45) rest))
      by_blank b rest c false other =
          rw (no_sign line (sign_front line) rest (eqb b 45) (rw (terms_split false line, c.is) refl) other) (unsigned (inr other) (each (term_at K O names) (signed_parts false line)) (sum_result false line))

      by_cut : IsUncut is_sign line ⊎ ((b : ℕ) × (rest : List ℕ) × IsCut is_sign line b rest) → IsLineResult line (each (term_at K O names) (behind_sign (signed_parts false line)))
      by_cut (inl none) =
          let same : behind_sign (signed_parts false line) ≡ signed_parts false line = rw (terms_split false line, none.is) refl in
          rw same (unsigned (inl none.is) (each (term_at K O names) (signed_parts false line)) (sum_result false line))
      by_cut (inr (b, rest, c)) = by_blank b rest c (list_all is_blank (sign_front line)) refl

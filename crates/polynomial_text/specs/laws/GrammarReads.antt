-- What the grammar derives from a line is read.
use Rattle.std.proofs.Common.{◌≡◌, ℕ, ◌<◌, ◌≤◌, Bool, true, false, ◌&&◌, eqb, List, [], ◌∷◌, ◌++◌, length, Some, Ok, refl, sym, ap, subst, ◌∙◌, append_assoc, inl, inr, le-leb, arith}
use Rattle.std.specs.Prelude.{◌⊎◌}
use Rattle.std.specs.List.{list_all, slice_split}
use Rattle.std.proofs.Math.Bool.{and-false}
use Rattle.std.proofs.lemmas.Bool.{and_parts}
use Rattle.std.proofs.lemmas.List.Elements.{All-from_recursion}
use Rattle.std.proofs.lemmas.List.Splits.{slice_split_none, slice_split_at}
use Rattle.word_field.specs.Field.{FieldOps}
use Rattle.monomial_order.specs.declared.terms.Term.{Term}
use Rattle.monomial_order.specs.Limits.{degree_max}
use Rattle.monomial_order.specs.Monomial.{product}
use Rattle.monomial_order.specs.MonomialOrder.{MonomialOrder}
use Rattle.polynomials.specs.Polynomial.{Polynomial, term_of}
use Rattle.poly_core.specs.declared.place_names.Names.{Names}
use Rattle.poly_core.specs.Names.{name_at, is_letter, is_name_byte, has_name_form}
use Rattle.polynomial_text.specs.Results.{along, each}
use Rattle.polynomial_text.specs.Bytes.{is_blank, is_digit, is_sign, front, behind, Stops}
use Rattle.polynomial_text.specs.Canonical.{AreDifferent}
use Rattle.polynomial_text.specs.PolyLine.{number_at, exponent_at, power, place_of, power_at, factor_at, with_factor, sign, term_at, behind_sign, signed_parts, terms_of}
use Rattle.polynomial_text.specs.Grammar.{AreBlanks, IsNumber, IsExponent, sign_byte, IsConstant, IsPower, IsSpacedFactor, IsNextProduct, IsProduct, one_factor, factors, IsTermOf, IsSum, one_term, terms, IsLine}
use Rattle.polynomial_text.specs.GrammarFaults.{EndsExponent, EndsFactor}
use Rattle.polynomial_text.specs.laws.CanonicalParts.{letter_no_digit, front_all, Begins, Lack, all_append, behind_blanks, lack_from, lack_append, begins_append, stops_from, begins_stops, behind_all, digit_in_name, name_no_blank, blank_no_sign, blank_no_star, blank_no_name, blank_no_digit, is_star, differs, number_digits, parts_none, parts_signed}
use Rattle.polynomial_text.specs.laws.Names.{letter_in_name, name_bytes, place_found}
use Rattle.polynomial_text.specs.laws.Fronts.{sign_left_out, no_sign, front_passes}
use Rattle.polynomial_text.specs.laws.GrammarRead.{front_behind, blanks_behind}

-- ---- numbers and exponents

pub begins_digit : (bytes : List ℕ) → list_all is_digit bytes ≡ true → 1 ≤ length bytes → Begins is_digit bytes
begins_digit [] all some = absurd (omega arith)
begins_digit (d ∷ bytes) all some = (and_parts (is_digit d) (list_all is_digit bytes) all).0

begins_name : (bytes : List ℕ) → Begins is_digit bytes → Begins is_name_byte bytes
begins_name [] h = absurd h
begins_name (d ∷ bytes) h = digit_in_name d h

number_derived : (bytes back : List ℕ) (n : ℕ) → IsNumber bytes n → Stops is_digit back → number_at (bytes ++ back) ≡ Ok (n, back)
number_derived bytes back n h stop =
    let some = h.some in
    number_digits bytes back h.digits (omega arith) h.few stop ∙ ap (λ (k : ℕ). Ok (k, back)) h.value

exponent_from : (bytes rest : List ℕ) → behind is_blank bytes ≡ 94 ∷ rest → exponent_at bytes ≡ number_at (behind is_blank rest)
unfolding exponent_at
exponent_from bytes rest is = rw is refl

raised_is : (bytes back before between number : List ℕ) → bytes ≡ before ++ (94 ∷ (between ++ number)) → bytes ++ back ≡ before ++ (94 ∷ (between ++ (number ++ back)))
raised_is bytes back before between number is =
    ap (λ (l : List ℕ). l ++ back) is ∙ (append_assoc before (94 ∷ (between ++ number)) back ∙ ap (λ (l : List ℕ). before ++ (94 ∷ l)) (append_assoc between number back))

exponent_bare : (back : List ℕ) → Stops (λ b. eqb b 94) (behind is_blank back) → exponent_at back ≡ Ok (1, behind is_blank back)
unfolding exponent_at
exponent_bare back stop = by (behind is_blank back) refl stop
  where
    by : (rest : List ℕ) → behind is_blank back ≡ rest → Stops (λ b. eqb b 94) rest → exponent_at back ≡ Ok (1, rest)
    by [] is other = rw is refl
    by (b ∷ rest) is other = rw (is, other) refl

-- what is left when a token was read, which differs from what is behind the token by blanks alone
pub record IsLeft (back left : List ℕ) : Type 0 where
  pub blank : AreBlanks back → AreBlanks left
  pub blank_back : AreBlanks left → AreBlanks back

left_itself : (back : List ℕ) → IsLeft back back
left_itself back = record { blank = λ h. h; blank_back = λ h. h }

left_blanks : (back : List ℕ) → IsLeft back (behind is_blank back)
left_blanks back = record {
  blank = λ h. blanks_behind (front is_blank back) (behind is_blank back) (subst AreBlanks (front_behind is_blank back) h);
  blank_back = λ h. subst AreBlanks (sym (front_behind is_blank back)) (all_append is_blank (front is_blank back) (behind is_blank back) (front_passes is_blank back) h);
}

pub raised_at : (before between tail : List ℕ) → AreBlanks before → AreBlanks between → Stops is_blank tail → exponent_at (before ++ (94 ∷ (between ++ tail))) ≡ number_at tail
raised_at before between tail blank_before blank_between stop =
    exponent_from (before ++ (94 ∷ (between ++ tail))) (between ++ tail) (behind_all is_blank before (94 ∷ (between ++ tail)) blank_before refl) ∙ ap number_at (behind_all is_blank between tail blank_between stop)

exponent_derived : (bytes back : List ℕ) (n : ℕ) (h : IsExponent bytes n) → EndsExponent h back → (left : List ℕ) × (exponent_at (bytes ++ back) ≡ Ok (n, left)) × IsLeft back left
exponent_derived bytes back n (inl none) ends = (behind is_blank back, rw (none.0, none.1) (exponent_bare back ends.1), left_blanks back)
exponent_derived bytes back n (inr r) ends =
    let digit : Begins is_digit (r.number ++ back) = begins_append is_digit r.number back (begins_digit r.number r.exponent.digits r.exponent.some) in
    let shows : Stops is_blank (r.number ++ back) = begins_stops is_digit is_blank (λ c d. name_no_blank c (digit_in_name c d)) (r.number ++ back) digit in (
      back,
      ap exponent_at (raised_is bytes back r.before r.between r.number r.is) ∙ (raised_at r.before r.between (r.number ++ back) r.blank_before r.blank_between shows ∙ number_derived r.number back n r.exponent ends),
      left_itself back,
    )

pub blank_then : (before rest : List ℕ) → AreBlanks before → Stops is_name_byte rest → Stops is_name_byte (before ++ rest)
blank_then [] rest blank stop = stop
blank_then (b ∷ before) rest blank stop = blank_no_name b (and_parts (is_blank b) (list_all is_blank before) blank).0

exponent_stops : (bytes back : List ℕ) (n : ℕ) (h : IsExponent bytes n) → EndsExponent h back → Stops is_name_byte (bytes ++ back)
exponent_stops bytes back n (inl none) ends = rw none.0 ends.0
exponent_stops bytes back n (inr r) ends =
    rw (raised_is bytes back r.before r.between r.number r.is) (blank_then r.before (94 ∷ (r.between ++ (r.number ++ back))) r.blank_before refl)

-- blanks go on with nothing
blank_ends : (bytes back : List ℕ) (n : ℕ) (h : IsExponent bytes n) → AreBlanks back → EndsExponent h back
blank_ends bytes back n (inl none) blank = (stops_from is_blank is_name_byte blank_no_name back blank, rw (behind_blanks back blank) tt)
blank_ends bytes back n (inr r) blank = stops_from is_blank is_digit blank_no_digit back blank

-- ---- bytes that do not part the text

-- a test that no byte of a factor or around it passes
pub record IsApart (q : ℕ → Bool) : Type 0 where
  pub blank : (b : ℕ) → is_blank b ≡ true → q b ≡ false
  pub name : (b : ℕ) → is_name_byte b ≡ true → q b ≡ false
  pub raised : q 94 ≡ false

pub star_apart : IsApart is_star
star_apart = record { blank = blank_no_star; name = differs is_name_byte 42 refl; raised = refl }

pub sign_apart : IsApart is_sign
sign_apart = record { blank = blank_no_sign; name = λ b h. rw (differs is_name_byte 43 refl b h, differs is_name_byte 45 refl b h) refl; raised = refl }

pub feed_apart : IsApart (λ b. eqb b 10)
feed_apart = record { blank = differs is_blank 10 refl; name = differs is_name_byte 10 refl; raised = refl }

module _ (q : ℕ → Bool) (A : IsApart q) where
  number_lacks : (bytes : List ℕ) (n : ℕ) → IsNumber bytes n → Lack q bytes
  number_lacks bytes n h = lack_from is_digit q (λ b d. A.name b (digit_in_name b d)) bytes h.digits

  exponent_lacks : (bytes : List ℕ) (n : ℕ) → IsExponent bytes n → Lack q bytes
  exponent_lacks bytes n (inl none) = rw none.0 tt
  exponent_lacks bytes n (inr r) =
      rw r.is (lack_append q r.before (94 ∷ (r.between ++ r.number)) (lack_from is_blank q A.blank r.before r.blank_before)
      (A.raised, lack_append q r.between r.number (lack_from is_blank q A.blank r.between r.blank_between) (number_lacks r.number n r.exponent)))

-- ---- tests along lists

rest_fails : (p : ℕ → Bool) (xs ys : List ℕ) → list_all p ys ≡ false → list_all p (xs ++ ys) ≡ false
rest_fails p [] ys h = h
rest_fails p (x ∷ xs) ys h = rw (rest_fails p xs ys h) (and-false (p x))

front_fails : (p : ℕ → Bool) (xs ys : List ℕ) → list_all p xs ≡ false → list_all p (xs ++ ys) ≡ false
front_fails p [] ys h = absurd cc
front_fails p (x ∷ xs) ys h = by (p x) (λ k. front_fails p xs ys k) h
  where
    by : (b : Bool) → (list_all p xs ≡ false → list_all p (xs ++ ys) ≡ false) → (b && list_all p xs) ≡ false → (b && list_all p (xs ++ ys)) ≡ false
    by true rest k = rest k
    by false rest k = refl

no_blanks : (bytes : List ℕ) → Begins is_name_byte bytes → list_all is_blank bytes ≡ false
no_blanks [] h = absurd h
no_blanks (b ∷ bytes) h = rw (name_no_blank b h) refl

pub name_begins : (name : List ℕ) → has_name_form name ≡ true → Begins is_name_byte name
name_begins [] h = absurd cc
name_begins (b ∷ bytes) h = letter_in_name b (and_parts (is_letter b) (list_all is_name_byte bytes) h).0

module _ {E : Type 0} (K : FieldOps E) (O : MonomialOrder) (names : Names) where
  factor_digits : (ds back rest : List ℕ) (n : ℕ) → Begins is_digit ds → number_at (ds ++ back) ≡ Ok (n, rest) → factor_at K O names (ds ++ back) ≡ Ok (term_of [] (K.of_word n), rest)
  unfolding factor_at
  factor_digits [] back rest n h e = absurd h
  factor_digits (d ∷ ds) back rest n h e = rw (h, e) refl

  factor_name : (name tail rest : List ℕ) (i e : ℕ) → has_name_form name ≡ true → Stops is_name_byte tail → place_of names O.places name ≡ Some i → exponent_at tail ≡ Ok (e, rest) →
      factor_at K O names (name ++ tail) ≡ Ok (term_of (power i e) K.one, rest)
  unfolding factor_at power_at
  factor_name [] tail rest i e h stop place up = absurd cc
  factor_name (b ∷ bytes) tail rest i e h stop place up =
      let a = and_parts (is_letter b) (list_all is_name_byte bytes) h in
      let all = name_bytes (b ∷ bytes) h in
      rw (letter_no_digit b a.0, a.0, front_all is_name_byte (b ∷ bytes) tail all stop, place, behind_all is_name_byte (b ∷ bytes) tail all stop, up) refl

module _ {E : Type 0} (K : FieldOps E) (O : MonomialOrder) (names : Names) (D : AreDifferent O.places names) where
  pub name_form : (i : ℕ) (name : List ℕ) → i < O.places → name_at names i ≡ Some name → has_name_form name ≡ true
  name_form i name lt at = rw at at (D.form i lt)

  -- ---- factors

  pub factor_begins : (bytes : List ℕ) (x : Term E) → IsConstant K O names bytes x ⊎ IsPower K O names bytes x → Begins is_name_byte bytes
  factor_begins bytes x (inl c) = begins_name bytes (begins_digit bytes c.is.digits c.is.some)
  factor_begins bytes x (inr p) = rw p.is (begins_append is_name_byte p.name p.behind (name_begins p.name (name_form p.place p.name p.inside p.named)))

  pub factor_derived : (bytes back : List ℕ) (x : Term E) (h : IsConstant K O names bytes x ⊎ IsPower K O names bytes x) → EndsFactor K O names h back → (left : List ℕ) × (factor_at K O names (bytes ++ back) ≡ Ok (x, left)) × IsLeft back left
  factor_derived bytes back x (inl c) ends =
      let read = number_derived bytes back c.number c.is ends in
      (back, factor_digits K O names bytes back back c.number (begins_digit bytes c.is.digits c.is.some) read ∙ ap (λ (y : Term E). Ok (y, back)) (sym c.means), left_itself back)
  factor_derived bytes back x (inr p) ends =
      let up = exponent_derived p.behind back p.exponent p.raised ends in
      let form = name_form p.place p.name p.inside p.named in
      let place : place_of names O.places p.name ≡ Some p.place = place_found O.places names D O.places p.place p.name p.inside (omega arith) p.named in
      let read = factor_name K O names p.name (p.behind ++ back) up.0 p.place p.exponent form (exponent_stops p.behind back p.exponent p.raised ends) place up.1 in
      let regroup : bytes ++ back ≡ p.name ++ (p.behind ++ back) = ap (λ (l : List ℕ). l ++ back) p.is ∙ append_assoc p.name p.behind back in
      (up.0, ap (factor_at K O names) regroup ∙ (read ∙ ap (λ (y : Term E). Ok (y, up.0)) (sym p.means)), up.2)

  factor_ends : (bytes back : List ℕ) (x : Term E) (h : IsConstant K O names bytes x ⊎ IsPower K O names bytes x) → AreBlanks back → EndsFactor K O names h back
  factor_ends bytes back x (inl c) blank = stops_from is_blank is_digit blank_no_digit back blank
  factor_ends bytes back x (inr p) blank = blank_ends p.behind back p.exponent p.raised blank

  pub with_derived : (t u x : Term E) (bytes : List ℕ) → IsSpacedFactor K O names bytes x → IsNextProduct K O names t x u → with_factor K O names t bytes ≡ Ok u
  unfolding with_factor
  with_derived t u x bytes h n =
      let first : Stops is_blank (h.factor ++ h.behind) = begins_stops is_name_byte is_blank name_no_blank (h.factor ++ h.behind) (begins_append is_name_byte h.factor h.behind (factor_begins h.factor x h.reads)) in
      let r = factor_derived h.factor h.behind x h.reads (factor_ends h.factor h.behind x h.reads h.blank_behind) in
      let small : O.degree (product t.at x.at) ≤ degree_max = subst (λ (v : Term E). O.degree v.at ≤ degree_max) n.is n.small in
      let low = le-leb (O.degree (product t.at x.at)) degree_max small in
      rw (h.is, behind_all is_blank h.before (h.factor ++ h.behind) h.blank_before first, r.1, low, r.2.blank h.blank_behind) (ap (λ (v : Term E). Ok v) (sym n.is))

  factor_lacks : (q : ℕ → Bool) → IsApart q → (bytes : List ℕ) (x : Term E) → IsConstant K O names bytes x ⊎ IsPower K O names bytes x → Lack q bytes
  factor_lacks q A bytes x (inl c) = number_lacks q A bytes c.number c.is
  factor_lacks q A bytes x (inr p) =
      rw p.is (lack_append q p.name p.behind (lack_from is_name_byte q A.name p.name (name_bytes p.name (name_form p.place p.name p.inside p.named))) (exponent_lacks q A p.behind p.exponent p.raised))

  pub spaced_lacks : (q : ℕ → Bool) → IsApart q → (bytes : List ℕ) (x : Term E) → IsSpacedFactor K O names bytes x → Lack q bytes
  spaced_lacks q A bytes x h =
      rw h.is (lack_append q h.before (h.factor ++ h.behind) (lack_from is_blank q A.blank h.before h.blank_before)
      (lack_append q h.factor h.behind (factor_lacks q A h.factor x h.reads) (lack_from is_blank q A.blank h.behind h.blank_behind)))

  spaced_shows : (bytes : List ℕ) (x : Term E) → IsSpacedFactor K O names bytes x → list_all is_blank bytes ≡ false
  spaced_shows bytes x h = rw h.is (rest_fails is_blank h.before (h.factor ++ h.behind) (front_fails is_blank h.factor h.behind (no_blanks h.factor (factor_begins h.factor x h.reads))))

  -- ---- terms

  product_derived : (t v : Term E) (bytes : List ℕ) → IsProduct K O names t bytes v → along (with_factor K O names) t (slice_split is_star bytes) ≡ Ok v
  unfolding along
  product_derived t v bytes (one_factor _ _ x _ h n) =
      let parts : slice_split is_star bytes ≡ bytes ∷ [] = slice_split_none is_star bytes (All-from_recursion (λ c. is_star c ≡ false) bytes (spaced_lacks is_star star_apart bytes x h)) in
      rw (parts, with_derived t v x bytes h n) refl
  product_derived t v bytes (factors _ u _ x _ part rest is h n more) =
      let parts : slice_split is_star bytes ≡ part ∷ slice_split is_star rest =
      ap (slice_split is_star) is ∙ slice_split_at is_star part 42 rest (All-from_recursion (λ c. is_star c ≡ false) part (spaced_lacks is_star star_apart part x h)) refl in
      rw (parts, with_derived t u x part h n) (product_derived u v rest more)

  pub product_lacks : (q : ℕ → Bool) → IsApart q → q 42 ≡ false → (t v : Term E) (bytes : List ℕ) → IsProduct K O names t bytes v → Lack q bytes
  product_lacks q A star t v bytes (one_factor _ _ x _ h n) = spaced_lacks q A bytes x h
  product_lacks q A star t v bytes (factors _ u _ x _ part rest is h n more) = rw is (lack_append q part (42 ∷ rest) (spaced_lacks q A part x h) (star, product_lacks q A star u v rest more))

  product_shows : (t v : Term E) (bytes : List ℕ) → IsProduct K O names t bytes v → list_all is_blank bytes ≡ false
  product_shows t v bytes (one_factor _ _ x _ h n) = spaced_shows bytes x h
  product_shows t v bytes (factors _ u _ x _ part rest is h n more) = rw is (front_fails is_blank part (42 ∷ rest) (spaced_shows part x h))

  pub term_derived : (minus : Bool) (bytes : List ℕ) (t : Term E) → IsTermOf K O names minus bytes t → term_at K O names (minus, bytes) ≡ Ok t
  unfolding term_at
  term_derived minus bytes t h = product_derived (term_of [] (sign K O names minus)) t bytes h

  -- ---- sums

  pub next_parts : (minus next : Bool) (part rest : List ℕ) → Lack is_sign part → signed_parts minus (part ++ (sign_byte next ∷ rest)) ≡ (minus, part) ∷ signed_parts next rest
  next_parts minus true part rest lack = parts_signed minus part rest 45 refl lack
  next_parts minus false part rest lack = parts_signed minus part rest 43 refl lack

  sum_derived : (minus : Bool) (bytes : List ℕ) (ts : Polynomial E) → IsSum K O names minus bytes ts → each (term_at K O names) (signed_parts minus bytes) ≡ Ok ts
  unfolding each
  sum_derived minus bytes ts (one_term _ _ t h) =
      let parts : signed_parts minus bytes ≡ (minus, bytes) ∷ [] = parts_none minus bytes (product_lacks is_sign sign_apart refl (term_of [] (sign K O names minus)) t bytes h) in
      rw (parts, term_derived minus bytes t h) refl
  sum_derived minus bytes ts (terms _ next _ part rest t us is h more) =
      let parts : signed_parts minus bytes ≡ (minus, part) ∷ signed_parts next rest =
      ap (signed_parts minus) is ∙ next_parts minus next part rest (product_lacks is_sign sign_apart refl (term_of [] (sign K O names minus)) t part h) in
      rw (parts, term_derived minus part t h, sum_derived next rest us more) refl

  unsigned : (line : List ℕ) (ts : Polynomial E) → IsSum K O names false line ts → behind_sign (signed_parts false line) ≡ signed_parts false line
  unsigned line ts (one_term _ _ t h) = rw (parts_none false line (product_lacks is_sign sign_apart refl (term_of [] (sign K O names false)) t line h)) refl
  unsigned line ts (terms _ next _ part rest t us is h more) =
      let start : Term E = term_of [] (sign K O names false) in
      let parts = ap (signed_parts false) is ∙ next_parts false next part rest (product_lacks is_sign sign_apart refl start t part h) in
      no_sign line part rest next parts (product_shows start t part h)

  pub line_derived : (line : List ℕ) (ts : Polynomial E) → IsLine K O names line ts → terms_of K O names line ≡ Ok ts
  unfolding terms_of
  line_derived line ts (inl sum) = ap (each (term_at K O names)) (unsigned line ts sum) ∙ sum_derived false line ts sum
  line_derived line ts (inr s) =
      let parts = ap (signed_parts false) s.is ∙ next_parts false s.minus s.before s.rest (lack_from is_blank is_sign blank_no_sign s.before s.blank_before) in
      ap (each (term_at K O names)) (sign_left_out line s.before s.rest s.minus parts s.blank_before) ∙ sum_derived s.minus s.rest ts s.sum

  -- ---- bytes that no line has

  pub sum_lacks : (q : ℕ → Bool) → IsApart q → q 42 ≡ false → ((next : Bool) → q (sign_byte next) ≡ false) → (minus : Bool) (bytes : List ℕ) (ts : Polynomial E) → IsSum K O names minus bytes ts → Lack q bytes
  sum_lacks q A star signs minus bytes ts (one_term _ _ t h) = product_lacks q A star (term_of [] (sign K O names minus)) t bytes h
  sum_lacks q A star signs minus bytes ts (terms _ next _ part rest t us is h more) =
      rw is (lack_append q part (sign_byte next ∷ rest) (product_lacks q A star (term_of [] (sign K O names minus)) t part h) (signs next, sum_lacks q A star signs next rest us more))

-- Where a reading that knows the prime sizes alone differs from one that knows all sizes.
use Rattle.std.proofs.Common.{◌≡◌, ℕ, Bool, true, false, cond, ◌⊎◌, inl, inr, ⊎_elim, List, [], ◌∷◌, Option, Some, None, Result, Ok, Err, refl, sym, ap, ◌∙◌}
use Rattle.std.specs.Prelude.{codes}
use Rattle.std.proofs.lemmas.Bool.{false_from_ne_true}
use Rattle.word_field.specs.Residues.{is_listed}
use Rattle.ext_field.specs.PairField.{is_pair_size}
use Rattle.polynomial_text.specs.declared.line_fault.LineFault.TheVariants as line_faults
use Rattle.presentation_text.specs.declared.text_kind.TextKind.{TextKind}
use Rattle.presentation_text.specs.declared.text_kind.TextKind.TheVariants.{FieldUnknown}
use Rattle.presentation_text.specs.FieldLines.{HasFieldLine}
use Rattle.presentation_text.specs.Heading.{◌>>=◌, behind_key, only, size, is_size, header_line, field_line}
use Rattle.presentation_text.specs.Kinds.{Fault, or_fault}
use Rattle.presentation_text.specs.Lines.{tokens, content, end_line}
use Rattle.presentation_text.specs.Numbers.{number_of}
use Rattle.presentation_text.specs.Reading.{Line, AnyReading, at_line, next, head, reading_of, reading_with}
use Rattle.presentation_text.proofs.FieldKinds.{no_pair_size}
use Rattle.presentation_text.proofs.NextLines.{next_err}

-- a line has no size, or one that is judged by what is known
abbrev SizeOf : List ℕ → Type 0
SizeOf bytes =
    ((known : ℕ → Bool) → field_line known bytes ≡ Err FieldUnknown)
    ⊎ ((n : ℕ) × ((known : ℕ → Bool) → field_line known bytes ≡ or_fault FieldUnknown (cond (known n) (Some n) None)))

size_of : (bytes : List ℕ) → SizeOf bytes
unfolding size
size_of bytes = by_key (behind_key (codes "field") (tokens bytes)) refl
  where
    by_number : (rest : List (List ℕ)) → behind_key (codes "field") (tokens bytes) ≡ Some rest → (r : Option ℕ) → (only rest >>= number_of) ≡ r → SizeOf bytes
    by_number rest key None is = inl (λ known. rw (key, is) refl)
    by_number rest key (Some n) is = inr (n, λ known. rw (key, is) refl)

    by_key : (r : Option (List (List ℕ))) → behind_key (codes "field") (tokens bytes) ≡ r → SizeOf bytes
    by_key None is = inl (λ known. rw is refl)
    by_key (Some rest) is = by_number rest is (only rest >>= number_of) refl

module _ (last : ℕ) (ls : List Line) where
  header_err : (known : ℕ → Bool) (e : Fault) → next last header_line ls ≡ Err e → reading_of known last ls ≡ Err e
  unfolding reading_of head
  header_err known e h = rw h refl

  module _ (none : List (List ℕ)) (rest : List Line) (header : next last header_line ls ≡ Ok (none, rest)) where
    field_err : (known : ℕ → Bool) (e : Fault) → next last (field_line known) rest ≡ Err e → reading_of known last ls ≡ Err e
    unfolding reading_of head
    field_err known e h = rw (header, h) refl

    field_same : (known other : ℕ → Bool) → next last (field_line known) rest ≡ next last (field_line other) rest → reading_of known last ls ≡ reading_of other last ls
    unfolding reading_of head
    field_same known other h = rw (header, h) refl

at_same : (f g : List ℕ → Result ℕ TextKind) (line : Line) → f line.1 ≡ g line.1 → at_line f line ≡ at_line g line
unfolding at_line
at_same f g line e = rw e refl

next_same : (f g : List ℕ → Result ℕ TextKind) (last : ℕ) (line : Line) (rest : List Line) → f line.1 ≡ g line.1 → next last f (line ∷ rest) ≡ next last g (line ∷ rest)
unfolding next
next_same f g last line rest e = rw (at_same f g line e) refl

unlisted : (n : ℕ) → is_pair_size n ≡ true → is_listed n ≡ false
unlisted n pair = false_from_ne_true (is_listed n) (λ e. let no : is_pair_size n ≡ false = no_pair_size n e in cc)

no_pair : (n : ℕ) → is_pair_size n ≡ false → is_size n ≡ is_listed n
no_pair n e =
    elim (is_listed n) as (λ b. is_listed n ≡ b → is_size n ≡ b) [
      | true ↦ λ l. rw l refl
      | false ↦ λ l. rw (l, e) refl
    ] refl

-- what is made of the next line is the same, or the line has a size of pairs
abbrev FieldDiffers : ℕ → List Line → Type 0
FieldDiffers last ls =
    (next last (field_line is_listed) ls ≡ next last (field_line is_size) ls)
    ⊎ ((line : Line) × (rest : List Line) × (n : ℕ) × (ls ≡ line ∷ rest) × (field_line is_pair_size line.1 ≡ Ok n) × (next last (field_line is_listed) ls ≡ Err (FieldUnknown, line.0)))

field_differs : (last : ℕ) (ls : List Line) → FieldDiffers last ls
unfolding next
field_differs last [] = inl refl
field_differs last (line ∷ rest) = by_size (size_of line.1)
  where
    by_pair : (n : ℕ) → ((known : ℕ → Bool) → field_line known line.1 ≡ or_fault FieldUnknown (cond (known n) (Some n) None)) → (b : Bool) → is_pair_size n ≡ b → FieldDiffers last (line ∷ rest)
    by_pair n judged true is =
        let unknown : field_line is_listed line.1 ≡ Err FieldUnknown = judged is_listed ∙ rw (unlisted n is) refl in
        inr (line, rest, n, refl, judged is_pair_size ∙ rw is refl, next_err (field_line is_listed) last line.0 line.1 (line ∷ rest) rest (line_faults.Kind FieldUnknown) refl unknown)
    by_pair n judged false is =
        let same = ap (λ (b : Bool). or_fault FieldUnknown (cond b (Some n) None)) (sym (no_pair n is)) in
        inl (next_same (field_line is_listed) (field_line is_size) last line rest (judged is_listed ∙ same ∙ sym (judged is_size)))

    by_size : SizeOf line.1 → FieldDiffers last (line ∷ rest)
    by_size (inl unknown) = inl (next_same (field_line is_listed) (field_line is_size) last line rest (unknown is_listed ∙ sym (unknown is_size)))
    by_size (inr (n, judged)) = by_pair n judged (is_pair_size n) refl

-- the answers are the same, or the size is one of pairs
abbrev pub Differs : List ℕ → Type 0
Differs text =
    (reading_with is_listed text ≡ reading_with is_size text)
    ⊎ ((line : ℕ) × HasFieldLine is_pair_size text line × (reading_with is_listed text ≡ Err (FieldUnknown, line)))

module _ (text : List ℕ) where
  by_header : (r : Result (List (List ℕ) × List Line) Fault) → next (end_line text) header_line (content text) ≡ r → Differs text
  by_header (Err e) is = inl (header_err (end_line text) (content text) is_listed e is ∙ sym (header_err (end_line text) (content text) is_size e is))
  by_header (Ok (none, ls)) is = by_field (field_differs (end_line text) ls)
    where
      by_field : FieldDiffers (end_line text) ls → Differs text
      by_field (inl same) = inl (field_same (end_line text) (content text) none ls is is_listed is_size same)
      by_field (inr (line, rest, n, split, field, failed)) = inr (
        line.0,
        record { bytes = line.1; behind = rest; none = none; header = is ∙ ap (λ (l : List Line). Ok (none, l)) split; size = n; field = field },
        field_err (end_line text) (content text) none ls is is_listed (FieldUnknown, line.0) failed,
      )

  pub readings_differ : Differs text
  readings_differ = by_header (next (end_line text) header_line (content text)) refl

  -- with all sizes known, the text has the same reading
  pub read_more : (a : AnyReading) → reading_with is_listed text ≡ Ok a → reading_with is_size text ≡ Ok a
  read_more a e = ⊎_elim (λ same. sym same ∙ e) (λ differs. absurd (let no = differs.2 in cc)) readings_differ

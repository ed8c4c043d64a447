-- The reading of a presentation, and the first fault of each text that has none.
use Rattle.std.specs.Prelude.{ℕ, zero, suc, Bool, List, [], ◌∷◌, length, Result, Ok, Err, codes, if◌then◌else◌}
use Rattle.word_field.specs.Field.{FieldOps}
use Rattle.word_field.specs.Residues.{residues}
use Rattle.ext_field.specs.PairField.{is_pair_size, pairs_of}
use Rattle.ext_field.specs.declared.pair.Pair.{Pair}
use Rattle.monomial_order.specs.declared.tie_break.Tie.{Tie}
use Rattle.monomial_order.specs.MonomialOrder.{MonomialOrder}
use Rattle.monomial_order.specs.Orders.{weight_order}
use Rattle.monomial_order.specs.Ties.{tie_order}
use Rattle.poly_core.specs.declared.place_names.Names.{Names}
use Rattle.poly_core.specs.declared.place_names.Names.TheVariants.{Listed}
use Rattle.presentation_text.specs.declared.text_kind.TextKind.{TextKind}
use Rattle.presentation_text.specs.declared.text_kind.TextKind.TheVariants.{UnitIdeal, ConstantGenerator, Truncated, TextAfterEnd}
use Rattle.polynomial_text.specs.Results.{◌>>=◌, each}
use Rattle.presentation_text.specs.Kinds.{Fault, in_text}
use Rattle.presentation_text.specs.Lines.{content, end_line}
use Rattle.polynomial_text.specs.PolyLine.{terms_of}
use Rattle.presentation_text.specs.Judging.{judged}
use Rattle.presentation_text.specs.Heading.{is_size, header_line, field_line, vars_line, weights_line, order_line, count_line, closing_line}
use Rattle.polynomials.specs.Polynomial.{Polynomial}

-- a numbered line
abbrev pub Line : Type 0
Line = ℕ × List ℕ

-- what is made of a line, or the fault with the number of the line
unfoldable pub at_line : {A : Type 0} → (List ℕ → Result A TextKind) → Line → Result A Fault
at_line f line = numbered (f line.1)
  where
    numbered : {A : Type 0} → Result A TextKind → Result A Fault
    numbered (Ok a) = Ok a
    numbered (Err kind) = Err (kind, line.0)

-- what is made of the next line, and the lines behind it; a line that is missing has the number `last`
unfoldable pub next : {A : Type 0} → ℕ → (List ℕ → Result A TextKind) → List Line → Result (A × List Line) Fault
next last f [] = Err (Truncated, last)
next last f (line ∷ rest) = at_line f line >>= λ a. Ok (a, rest)

-- what is made of each of the next n lines
unfoldable pub several : {A : Type 0} → ℕ → (List ℕ → Result A TextKind) → ℕ → List Line → Result (List A × List Line) Fault
several last f zero ls = Ok ([], ls)
several last f (suc n) ls = do
  first ← next last f ls
  others ← several last f n first.1
  Ok (first.0 ∷ others.0, others.1)

-- the field, the names and the order
pub record Head : Type 0 where
  pub size : ℕ
  pub names : List (List ℕ)
  pub weights : List ℕ
  pub rows : List (List ℕ)
  pub tie : Tie

abbrev pub order_of_head : Head → MonomialOrder
order_of_head h = weight_order h.weights h.rows (tie_order h.tie)

-- the sizes that are known are those of a test
unfoldable pub head : (ℕ → Bool) → ℕ → List Line → Result (Head × List Line) Fault
head known last ls = do
  first ← next last header_line ls
  size ← next last (field_line known) first.1
  names ← next last vars_line size.1
  weights ← next last (weights_line (length names.0)) names.1
  order ← next last (order_line (length names.0)) weights.1
  Ok (record { size = size.0; names = names.0; weights = weights.0; rows = order.0.0; tie = order.0.1 }, order.1)

-- a polynomial that is zero or homogeneous of a positive degree, as the sum of the terms of its line
unfoldable pub poly_line : {E : Type 0} → FieldOps E → Head → TextKind → List ℕ → Result (Polynomial E) TextKind
poly_line K h constant line = in_text (terms_of K (order_of_head h) (Listed h.names) line) >>= judged K (order_of_head h) constant

-- as many polynomials as the number behind the token says
unfoldable pub counted : {E : Type 0} → FieldOps E → ℕ → Head → List ℕ → TextKind → List Line → Result (List (Polynomial E) × List Line) Fault
counted K last h key constant ls = do
  count ← next last (count_line key) ls
  several last (poly_line K h constant) count.0 count.1

-- behind `end` there is no line
unfoldable pub ended : ℕ → List Line → Result (List Line) Fault
ended last ls = next last closing_line ls >>= λ x. nothing x.1
  where
    nothing : List Line → Result (List Line) Fault
    nothing [] = Ok []
    nothing (line ∷ rest) = Err (TextAfterEnd, line.0)

-- what a text presents over a field; each polynomial is the sum of the terms of its line
pub record Reading (E : Type 0) : Type 0 where
  pub head : Head
  pub ideal : List (Polynomial E)
  pub generators : List (Polynomial E)

-- over a field of numbers, or of pairs
pub data AnyReading : Type 0 where
  word : Reading ℕ → AnyReading
  pair : Reading Pair → AnyReading

-- the lines behind the order
unfoldable pub reading_over : {E : Type 0} → FieldOps E → ℕ → Head → List Line → Result (Reading E) Fault
reading_over K last h ls = do
  ideal ← counted K last h (codes "ideal") UnitIdeal ls
  generators ← counted K last h (codes "generators") ConstantGenerator ideal.1
  end ← ended last generators.1
  Ok (record { head = h; ideal = ideal.0; generators = generators.0 })

-- over the field of the size of the head
unfoldable pub reading_behind : ℕ → Head → List Line → Result AnyReading Fault
reading_behind last h ls =
    if is_pair_size h.size then (reading_over (pairs_of h.size) last h ls >>= λ r. Ok (pair r))
    else (reading_over (residues h.size) last h ls >>= λ r. Ok (word r))

unfoldable pub reading_of : (ℕ → Bool) → ℕ → List Line → Result AnyReading Fault
reading_of known last ls = head known last ls >>= λ x. reading_behind last x.0 x.1

-- a text with a field of a known size
abbrev pub reading_with : (ℕ → Bool) → List ℕ → Result AnyReading Fault
reading_with known text = reading_of known (end_line text) (content text)

abbrev pub reading : List ℕ → Result AnyReading Fault
reading text = reading_with is_size text

-- the polynomials of a query file, one on each line, each as the sum of the terms of its line
abbrev pub queries : {E : Type 0} → FieldOps E → MonomialOrder → Names → List ℕ → Result (List (Polynomial E)) Fault
queries K O names text = each (at_line (λ line. in_text (terms_of K O names line))) (content text)

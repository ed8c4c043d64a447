-- Counted polynomials.
use Rattle.std.proofs.Common.{◌≡◌, ℕ, ◌≤◌, List, Ok, refl}
use Rattle.word_field.specs.Field.{FieldOps}
use Rattle.presentation_text.specs.declared.text_fault.TextFault.{TextFault}
use Rattle.presentation_text.specs.declared.text_kind.TextKind.{TextKind}
use Rattle.presentation_text.specs.declared.text_kind.TextKind.TheVariants.{CountLine}
use Rattle.presentation_text.specs.Numbers.{number_within}
use Rattle.presentation_text.specs.Lines.{tokens}
use Rattle.presentation_text.specs.Heading.{count_max, behind_key, only, count_of, count_line}
use Rattle.presentation_text.specs.Reading.{Line, Head, next, several, poly_line, counted}
use Rattle.presentation_text.specs.Meaning.{IsFaultOf}
use Rattle.presentation_text.proofs.NextLines.{next_was, fault_passes}
use Rattle.presentation_text.proofs.TakenTokens.{bind_some, number_between, or_fault_ok}

module _ {E : Type 0} (K : FieldOps E) (last : ℕ) (h : Head) (key : List ℕ) (constant : TextKind) (ls : List Line) where
  pub counted_is : (n : ℕ) (rest : List Line) → next last (count_line key) ls ≡ Ok (n, rest) → counted K last h key constant ls ≡ several last (poly_line K h constant) n rest
  unfolding counted
  counted_is n rest e = rw e refl

  pub counted_err : (e : TextFault) → IsFaultOf (next last (count_line key) ls) e → IsFaultOf (counted K last h key constant ls) e
  unfolding counted
  counted_err e h = fault_passes (next last (count_line key) ls) _ e h

pub count_small : (last : ℕ) (key : List ℕ) (ls : List Line) (x : ℕ × List Line) → next last (count_line key) ls ≡ Ok x → x.0 ≤ count_max
unfolding count_of
count_small last key ls x e =
    let w = next_was (count_line key) last ls x e in
    let c = or_fault_ok CountLine (count_of key (tokens w.0)) x.0 w.1 in
    let b = bind_some (behind_key key (tokens w.0)) _ x.0 c in
    let o = bind_some (only b.0) (number_within 0 count_max) x.0 b.2 in
    (number_between 0 count_max o.0 x.0 o.2).1

-- What is loaded and read decides an outcome.
use Rattle.std.proofs.Common.{◌≡◌, ℕ, zero, suc, ◌≤◌, List, [], ◌∷◌, length, Option, Some, Result, Ok, ap, ◌∙◌, le-leb, arith}
use Rattle.std.specs.Prelude.{All, if◌then◌else◌}
use Rattle.word_field.specs.Field.{FieldOps}
use Rattle.monomial_order.specs.MonomialOrder.{MonomialOrder}
use Rattle.polynomials.specs.Polynomial.{Polynomial, IsCanonical}
use Rattle.presentation_text.specs.Kinds.{Fault as TextFault}
use Rattle.presentation_text.specs.Meaning.{text_max, AreSums, IsFaultOf}
use Rattle.presentation_text.specs.declared.text_fault.TextFault.{TextFault as ReadFault}
use Rattle.presentation_text.specs.declared.text_fault.TextFault.TheVariants as faults
use Rattle.sagbi_cli.specs.Loading.{stop_by, StopsAs}
use Rattle.sagbi_cli.specs.Outcome.{after_loading, after_reading}
use Rattle.sagbi_cli.specs.declared.outcome.Outcome.{Outcome}
use Rattle.sagbi_cli.specs.declared.outcome.Outcome.TheVariants.{Stopped}
use Rattle.sagbi_cli.specs.declared.stop.Input.{Input}
use Rattle.sagbi_cli.specs.declared.stop.Stop.TheVariants.{TooLong}

-- the polynomials of lines are canonical
pub sums_canonical : {E : Type 0} (K : FieldOps E) (O : MonomialOrder) (sums ps : List (Polynomial E)) → AreSums K O sums ps → All (IsCanonical K O) ps
sums_canonical K O [] [] h k d l = absurd (omega arith)
sums_canonical K O [] (p ∷ ps) h k d l = absurd h
sums_canonical K O (s ∷ sums) [] h k d l = absurd h
sums_canonical K O (s ∷ sums) (p ∷ ps) h zero d l = h.1
sums_canonical K O (s ∷ sums) (p ∷ ps) h (suc k) d l = sums_canonical K O sums ps h.2 k d (omega arith)

module _ {A : Type 0} (input : Input) (file : Option (List ℕ)) (read : List ℕ → Result A TextFault) (next : A → Outcome) (bytes : List ℕ)
    (found : file ≡ Some bytes) (short : length bytes ≤ text_max) where
  -- a text that is not too long is read
  is_read : after_loading input file read next ≡ after_reading input (read bytes) next
  is_read =
      ap (λ f. after_loading input f read next) found ∙
      ap (λ b. if b then after_reading input (read bytes) next else Stopped (TooLong input)) (le-leb (length bytes) text_max short)

  -- a text with a reading goes on
  pub goes_on : (x : A) → read bytes ≡ Ok x → after_loading input file read next ≡ next x
  goes_on x h = is_read ∙ ap (λ r. after_reading input r next) h

  -- a text with a fault stops
  pub stops_reading : (fault : ReadFault) → IsFaultOf (read bytes) fault → StopsAs (after_loading input file read next) (stop_by input fault)
  stops_reading faults.Memory h = tt
  stops_reading (faults.At kind line) h = is_read ∙ ap (λ r. after_reading input r next) h

-- A command that has an output ends with it.
use Rattle.std.proofs.Common.{◌≡◌, ◌∙◌, List, ℕ, refl, sym, inl, inr}
use Rattle.std.specs.FinMap as map
use Rattle.poly_core.specs.Presentation.{weight_order_of}
use Rattle.presentation_text.specs.Meaning.{word_ops, pair_ops}
use Rattle.presentation_text.specs.Reading.{queries, reading}
use Rattle.presentation_text.specs.Reading.AnyReading.{word, pair}
use Rattle.presentation_text.specs.declared.any_presentation.AnyPresentation.{AnyPresentation}
use Rattle.presentation_text.specs.declared.any_presentation.AnyPresentation.TheVariants as presentations
use Rattle.shelf_io.specs.Shelf.{Files}
use Rattle.sagbi_cli.specs.Ending.{EndsOver, Prints}
use Rattle.sagbi_cli.specs.Outcome.{after_loading, outcome_of}
use Rattle.sagbi_cli.specs.Output.{IsAnyOutputOn, IsGiven, IsOutput}
use Rattle.sagbi_cli.specs.SinkChange.{SinkChange}
use Rattle.sagbi_cli.specs.declared.command.Command.{Command}
use Rattle.sagbi_cli.specs.declared.command.Command.TheVariants.{Complete, Ask, Relations, Trial}
use Rattle.sagbi_cli.specs.declared.outcome.Outcome.{Outcome}
use Rattle.sagbi_cli.specs.declared.outcome.Outcome.TheVariants.{Done, Usage, Sink, Stopped}
use Rattle.sagbi_cli.specs.declared.stop.Input.TheVariants as inputs
use Rattle.sagbi_cli.proofs.Asked.{pair_outcome, word_outcome}
use Rattle.sagbi_cli.proofs.Loads.{goes_on}

module _ (files : Files) where
  -- a file that presents something is read
  presented_done : (name : List ℕ) (p : AnyPresentation) → IsGiven files name p →
      after_loading inputs.Presentation (map.get files name) reading (λ _. Done) ≡ Done
  presented_done name (presentations.Word p) h =
      goes_on inputs.Presentation (map.get files name) reading (λ _. Done) h.bytes h.found h.short (word h.read.present) h.read.reading
  presented_done name (presentations.Pair p) h =
      goes_on inputs.Presentation (map.get files name) reading (λ _. Done) h.bytes h.found h.short (pair h.read.present) h.read.reading

  -- a command with an output is not stopped
  output_done : (command : Command) (text : List ℕ) → IsOutput files command text → outcome_of files command ≡ Done
  output_done (Complete pres bound pick) text h = presented_done pres.now h.0 h.1
  output_done (Relations pres bound) text h = presented_done pres.now h.0 h.1
  output_done (Trial number) text h = refl
  output_done (Ask pres bound asked) text h = by h.0 h.1 h.2
    where
      by : (p : AnyPresentation) → IsGiven files pres.now p → IsAnyOutputOn files p (Ask pres bound asked) text → outcome_of files (Ask pres bound asked) ≡ Done
      by (presentations.Word p) given out =
          let q = out.given in
          word_outcome files pres.now asked.now p given ∙
          goes_on inputs.Queries (map.get files asked.now) (queries (word_ops p.field) (weight_order_of p.order) p.names) (λ _. Done) q.bytes q.found q.short q.read.sums q.read.read
      by (presentations.Pair p) given out =
          let q = out.given in
          pair_outcome files pres.now asked.now p given ∙
          goes_on inputs.Queries (map.get files asked.now) (queries (pair_ops p.field) (weight_order_of p.order) p.names) (λ _. Done) q.bytes q.found q.short q.read.sums q.read.read

  -- a command whose output is printed ends so
  pub ends_over : (command : Command) (text : List ℕ) (outcome : Outcome) (out : SinkChange) → IsOutput files command text → Prints text outcome out →
      EndsOver files command outcome out
  ends_over command text Done out is h = record { ends = inl (sym (output_done command text is)); puts = (text, is, h) }
  ends_over command text Sink out is h = record { ends = inr (inr (inr (output_done command text is, refl))); puts = (text, is, h.0) }
  ends_over command text Usage out is h = absurd h
  ends_over command text (Stopped stop) out is h = absurd h

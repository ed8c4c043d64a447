-- What a call changes in a sink.
use Rattle.std.specs.Prelude.{◌≡◌, ◌⊎◌, ℕ, List, ◌++◌, Option, Result, Ok, Err}
use Rattle.shelf_io.specs.Counts.{HasRisen}
use Rattle.shelf_io.specs.Sink.{Continues}
use Rattle.shelf_io.specs.declared.sink.SinkFailed.{SinkFailed}

-- what the sink has taken, and how often it has failed, before the call and after it
pub record SinkChange : Type 0 where
  pub old_taken : Option (List ℕ)
  pub new_taken : Option (List ℕ)
  pub old_faults : ℕ
  pub new_faults : ℕ

-- the change between two states of a sink
abbrev pub change : {S : Type 0} → (S → Option (List ℕ)) → (S → ℕ) → S → S → SinkChange
change taken faults old new = record {
  old_taken = taken old;
  new_taken = taken new;
  old_faults = faults old;
  new_faults = faults new;
}

abbrev pub HasFailed : SinkChange → Type 0
HasFailed sink = HasRisen sink.old_faults sink.new_faults

abbrev pub TakesNothing : SinkChange → Type 0
TakesNothing sink = sink.new_taken ≡ sink.old_taken

abbrev pub TakesWhole : List ℕ → SinkChange → Type 0
TakesWhole text sink = Continues sink.old_taken text sink.new_taken

-- the sink takes a front of the text
pub record TakesFront (text : List ℕ) (sink : SinkChange) : Type 0 where
  pub front : List ℕ
  pub rest : List ℕ
  pub is : text ≡ front ++ rest
  pub taken : TakesWhole front sink

-- the sink takes the text whole, or a front of it and then fails
abbrev pub TakesOrFails : List ℕ → SinkChange → Type 0
TakesOrFails text sink = TakesWhole text sink ⊎ (TakesFront text sink × HasFailed sink)

-- the same by the result of a call
abbrev pub Takes : Result (Unit {0}) SinkFailed → List ℕ → SinkChange → Type 0
Takes (Ok _) text sink = TakesWhole text sink
Takes (Err _) text sink = TakesFront text sink × HasFailed sink

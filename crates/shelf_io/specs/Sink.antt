-- What a sink has taken.
use Rattle.std.specs.Prelude.{◌≡◌, ℕ, List, [], ◌++◌, take, Option, Some, Result, Ok, Err}
use Rattle.shelf_io.specs.declared.sink.SinkFailed.{SinkFailed}

-- If the bytes taken are known now, they were known before, and these bytes came after them.
pub record Continues (before : Option (List ℕ)) (bytes : List ℕ) (now : Option (List ℕ)) : Type 0 where
  pub known : (all : List ℕ) → now ≡ Some all → (old : List ℕ) × (before ≡ Some old) × (all ≡ old ++ bytes)

-- the bytes of a piece that a put took
abbrev pub accepted : Result ℕ SinkFailed → List ℕ → List ℕ
accepted (Ok n) piece = take n piece
accepted (Err _) piece = []

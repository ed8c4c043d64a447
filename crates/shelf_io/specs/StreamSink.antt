-- What a sink over a stream writes.
use Rattle.std.specs.Prelude.{ℕ, List, take, Option, Result, Ok, Err}
use Rattle.std.specs.Io.KnownBytes.{Appends}
use Rattle.shelf_io.specs.declared.stream_sink.StreamSink.{StreamSink}
use Rattle.shelf_io.specs.declared.sink.SinkFailed.{SinkFailed}

abbrev pub stream_of : {W : Type 0} → StreamSink W → W
stream_of sink = sink.writer

abbrev pub fault_count : {W : Type 0} → StreamSink W → ℕ
fault_count sink = sink.faults

-- If the bytes that the stream has are known: an answer adds just the bytes taken. A failed put may add a front of the
-- piece, since a flush may fail after the stream took it.
abbrev pub PutAppends : Option (List ℕ) → Option (List ℕ) → Result ℕ SinkFailed → List ℕ → Type 0
PutAppends old new (Ok n) piece = Appends old new (take n piece)
PutAppends old new (Err _) piece = (n : ℕ) × Appends old new (take n piece)

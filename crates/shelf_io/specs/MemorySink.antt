-- What a sink in memory is seen as.
use Rattle.std.specs.Prelude.{ℕ, List}
use Rattle.shelf_io.specs.Bounded.{Bounded, bounded, with_bytes}
use Rattle.shelf_io.specs.Calls.{Tally, tally, after_call}
use Rattle.shelf_io.specs.declared.memory_sink.MemorySink.{MemorySink}

-- the most bytes that a put takes, the bytes taken, and the calls of put so far
pub record SinkState : Type 0 where
  pub most : ℕ
  pub bytes : Bounded
  pub calls : Tally

abbrev pub sink_state : MemorySink → SinkState
sink_state sink = record { most = sink.most; bytes = bounded sink.bytes; calls = tally sink.calls }

abbrev pub with_calls : SinkState → Tally → SinkState
with_calls s calls = record s { calls = calls }

-- after a put that took these bytes
abbrev pub after_put : SinkState → List ℕ → SinkState
after_put s bytes = record s { bytes = with_bytes s.bytes bytes; calls = after_call s.calls }

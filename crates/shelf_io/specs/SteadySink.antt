-- What a sink is seen as that never fails.
use Rattle.shelf_io.specs.Bounded.{Bounded, bounded}
use Rattle.shelf_io.specs.declared.steady_sink.SteadySink.{SteadySink}

abbrev pub steady_bytes : SteadySink → Bounded
steady_bytes sink = bounded sink.bytes

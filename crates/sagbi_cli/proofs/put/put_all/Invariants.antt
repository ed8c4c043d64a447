use Rattle.std.proofs.Common.{◌≡◌, ◌≤◌, List, ℕ, ◌++◌, length}
use Rattle.shelf_io.specs.Sink.{Continues}
use Rattle.sagbi_cli.proofs.put.put_all.Given as goal

-- what comes before the rest was taken
abbrev pub invariant-loop-rest : goal.invariant-loop-rest
invariant-loop-rest g l =
    ((front : List ℕ) × (l.text ≡ front ++ l.rest) × Continues (g.K.Sink.taken l.initial.sink) front (g.K.Sink.taken l.sink))
    × (g.K.Sink.faults l.initial.sink ≤ g.K.Sink.faults l.sink)

abbrev pub decreases-loop-rest : goal.decreases-loop-rest
decreases-loop-rest g l = length l.rest

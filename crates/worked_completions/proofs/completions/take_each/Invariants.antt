use Rattle.worked_completions.specs.Completions.{IsBegun}
use Rattle.worked_completions.proofs.completions.take_each.Given as goal

abbrev pub invariant-indexes : goal.invariant-indexes
invariant-indexes l = IsBegun l.c

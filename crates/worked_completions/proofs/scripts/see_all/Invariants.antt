use Rattle.worked_completions.specs.Completions.{IsAtRest}
use Rattle.worked_completions.proofs.scripts.see_all.Given as goal

abbrev pub invariant-lines : goal.invariant-lines
invariant-lines l = IsAtRest l.c

use Rattle.worked_rows.specs.Rings.{IsIn}
use Rattle.worked_cases.proofs.chains.see_steps.Given as goal

abbrev pub invariant-loop-step : goal.invariant-loop-step
invariant-loop-step l = IsIn l.p l.chain.terms

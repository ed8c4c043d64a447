use Rattle.std.proofs.Common.{◌≤◌, length, drop}
use Rattle.std.specs.Prelude.{All}
use Rattle.completion.proofs.WordsAtDegree.{IsLast}
use Rattle.completion.proofs.candidates.last_rules.Given as goal

abbrev pub invariant-back : goal.invariant-back
invariant-back l = record {
  within : l.start ≤ length l.words.rules;
  from : All (IsLast l.words) (drop l.start l.words.rules);
}

abbrev pub decreases-back : goal.decreases-back
decreases-back l = l.start

use Rattle.std.proofs.Common.{◌≡◌, ◌++◌, take}
use Rattle.std.specs.Prelude.{sum_by}
use Rattle.word_rules.proofs.FactorDegrees.{added_by}
use Rattle.word_rules.proofs.degrees.added_degree.Given as goal

-- what the letters so far add
abbrev pub invariant-letters : goal.invariant-letters
invariant-letters l =
    l.sum ≡ sum_by (added_by (l.x_degrees ++ l.s_degrees) l.other) (take l.factor-index l.factor-items)

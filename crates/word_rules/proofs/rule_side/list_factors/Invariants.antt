use Rattle.std.proofs.Common.{◌≡◌, take}
use Rattle.word_rules.specs.Factors.{factors_of}
use Rattle.word_rules.proofs.rule_side.list_factors.Given as goal

-- the letters of the places so far
abbrev pub invariant-places : goal.invariant-places
invariant-places l = l.factors.items ≡ factors_of (take l.letter l.word)

use Rattle.word_rules.proofs.Scratching.{IsRaised}
use Rattle.word_rules.proofs.scratch.ScratchWord.raise.Given as goal

abbrev pub invariant-letters : goal.invariant-letters
invariant-letters l = IsRaised l.factor-items l.factor-index l.initial.self l.by l.self

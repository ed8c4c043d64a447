use Rattle.word_rules.proofs.Scratching.{IsSpread}
use Rattle.word_rules.proofs.scratch.ScratchWord.spread.Given as goal

abbrev pub invariant-places : goal.invariant-places
invariant-places l = IsSpread l.word l.places l.place l.spread

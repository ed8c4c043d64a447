use Rattle.word_rules.specs.Index.{lefts_of}
use Rattle.word_rules.proofs.Shared.{AreMarkedSoFar}
use Rattle.word_rules.proofs.table.Table.mark_letter.Given as goal

abbrev pub invariant-indexes : goal.invariant-indexes
invariant-indexes l = AreMarkedSoFar (lefts_of l.self.rules.items) l.letter l.j l.i-items l.i-index l.initial.marks l.marks

use Rattle.std.proofs.Common.{length}
use Rattle.word_rules.specs.Sharing.{AreMarks}
use Rattle.word_rules.proofs.marks.Marks.clear.Given as goal

abbrev pub invariant-listed : goal.invariant-listed
invariant-listed l = AreMarks l.self-inside.seen.items l.self-inside.list.items

abbrev pub decreases-listed : goal.decreases-listed
decreases-listed l = length l.self-inside.list.items

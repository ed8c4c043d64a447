use Rattle.word_rules.specs.Index.{lefts_of}
use Rattle.word_rules.proofs.LetterLists.{letters_in}
use Rattle.word_rules.proofs.Shared.{AreSharedSoFar}
use Rattle.word_rules.proofs.table.Table.list_sharing.Given as goal

abbrev pub invariant-letters : goal.invariant-letters
invariant-letters l = AreSharedSoFar (lefts_of l.self.rules.items) l.j (letters_in l.factor-items) l.factor-index l.marks

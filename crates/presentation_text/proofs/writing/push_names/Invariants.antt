use Rattle.std.proofs.Common.{◌≡◌, ◌++◌, drop}
use Rattle.presentation_text.proofs.WrittenPieces.{spaced_tokens}
use Rattle.presentation_text.proofs.writing.push_names.Given as goal

-- with the names that are left the whole text comes
abbrev pub invariant-loop-i : goal.invariant-loop-i
invariant-loop-i l = l.out.items ++ spaced_tokens (drop l.i l.table) ≡ l.fn.out.items ++ spaced_tokens l.table

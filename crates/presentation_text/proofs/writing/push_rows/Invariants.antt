use Rattle.std.proofs.Common.{◌≡◌, ◌++◌, drop}
use Rattle.presentation_text.proofs.WrittenPieces.{spaced_rows}
use Rattle.presentation_text.proofs.writing.push_rows.Given as goal

-- with the rows that are left the whole text comes
abbrev pub invariant-loop-row : goal.invariant-loop-row
invariant-loop-row l = l.out.items ++ spaced_rows (drop l.row-index l.rows) ≡ l.fn.out.items ++ spaced_rows l.rows

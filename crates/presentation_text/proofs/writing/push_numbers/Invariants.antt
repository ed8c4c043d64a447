use Rattle.std.proofs.Common.{◌≡◌, ◌++◌, drop}
use Rattle.presentation_text.proofs.WrittenPieces.{spaced_numbers}
use Rattle.presentation_text.proofs.writing.push_numbers.Given as goal

-- with the numbers that are left the whole text comes
abbrev pub invariant-loop-n : goal.invariant-loop-n
invariant-loop-n l = l.out.items ++ spaced_numbers (drop l.n-index l.numbers) ≡ l.fn.out.items ++ spaced_numbers l.numbers

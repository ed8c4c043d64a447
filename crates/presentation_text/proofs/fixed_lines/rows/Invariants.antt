use Rattle.std.proofs.Common.{◌≡◌, ◌-◌}
use Rattle.presentation_text.specs.Heading.{rows_max, rows_of}
use Rattle.presentation_text.specs.Taking.{with_front}
use Rattle.presentation_text.proofs.fixed_lines.rows.Given as goal

abbrev pub invariant-loop : goal.invariant-loop
invariant-loop l = with_front l.rows.items (rows_of l.count (4 - l.counter) l.tokens) ≡ rows_of l.count rows_max l.fn.tokens

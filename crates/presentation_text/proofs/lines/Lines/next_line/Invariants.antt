use Rattle.std.proofs.Common.{◌≡◌, ◌<◌, ◌+◌, ◌^◌, length}
use Rattle.presentation_text.specs.Lines.{lines, content_lines}
use Rattle.presentation_text.proofs.lines.Lines.next_line.Given as goal

abbrev pub invariant-loop-number : goal.invariant-loop-number
invariant-loop-number l = record {
  left : content_lines l.self-inside.number (lines l.self-inside.rest.now) ≡ l.fn.self.left;
  missing : l.self-inside.number + length (lines l.self-inside.rest.now) ≡ l.fn.self.missing;
  fits : l.self-inside.number + length l.self-inside.rest.now < 2 ^ 32;
}

abbrev pub decreases-loop-number : goal.decreases-loop-number
decreases-loop-number l = length l.self-inside.rest.now

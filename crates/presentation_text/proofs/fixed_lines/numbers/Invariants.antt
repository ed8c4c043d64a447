use Rattle.std.proofs.Common.{◌≡◌, ◌-◌}
use Rattle.presentation_text.specs.Taking.{with_front}
use Rattle.presentation_text.specs.Heading.{numbers_first}
use Rattle.presentation_text.proofs.fixed_lines.numbers.Given as goal

abbrev pub invariant-loop : goal.invariant-loop
invariant-loop l = with_front l.numbers.items (numbers_first l.wanted.low l.wanted.high (l.wanted.count - l.counter) l.tokens) ≡ numbers_first l.wanted.low l.wanted.high l.wanted.count l.fn.tokens

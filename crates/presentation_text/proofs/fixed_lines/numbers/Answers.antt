use Rattle.std.proofs.Common.{sym, ap}
use Rattle.presentation_text.specs.Kinds.{or_fault}
use Rattle.presentation_text.specs.Heading.{numbers_first}
use Rattle.presentation_text.proofs.TakenTokens.{numbers_next, numbers_stop, numbers_done}
use Rattle.presentation_text.proofs.fixed_lines.numbers.Goals as goal

pub returns-in_default : goal.returns-in_default
returns-in_default c =
    ap (or_fault c.args.wanted.kind) (numbers_stop c.args.wanted.low c.args.wanted.high c.loop.numbers.items c.args.wanted.count c.loop.counter c.loop.tokens (numbers_first c.args.wanted.low c.args.wanted.high c.args.wanted.count c.args.tokens.now) c.loop-test.true (sym (rw c.in_default.is at c.number_first.ensures)) c.loop.invariant)

pub loop-preserved : goal.loop-preserved
loop-preserved c =
    rw (rw c.in_ok-push.was at c.push.ensures.items)
    (numbers_next c.args.wanted.low c.args.wanted.high c.loop.numbers.items c.args.wanted.count c.loop.counter c.loop.tokens c.number_first.new.tokens c.in-Some.n (numbers_first c.args.wanted.low c.args.wanted.high c.args.wanted.count c.args.tokens.now) c.loop-test.true (sym c.in-Some.ensures) c.loop.invariant)

pub returns : goal.returns
returns c =
    ap (or_fault c.args.wanted.kind) (numbers_done c.args.wanted.low c.args.wanted.high c.loop.numbers.items c.args.wanted.count c.loop.counter c.loop.tokens (numbers_first c.args.wanted.low c.args.wanted.high c.args.wanted.count c.args.tokens.now) c.loop-test.false c.loop.invariant)

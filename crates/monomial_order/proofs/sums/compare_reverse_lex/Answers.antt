use Rattle.std.proofs.Common.{◌-◌, ◌∙◌, sym, arith}
use Rattle.monomial_order.proofs.ReverseLex.{by_length, decided_here, equal_here}
use Rattle.monomial_order.proofs.sums.compare_reverse_lex.Goals as goal

pub returns-then-a-b : goal.returns-then-a-b
returns-then-a-b c = c.cmp.ensures ∙ by_length c.args.a.now c.args.b.now c.if-a-b.true

pub returns-then-a-i : goal.returns-then-a-i
returns-then-a-i c =
    c.cmp-then-a-i.ensures ∙
    (sym (decided_here c.args.a.now c.args.b.now (c.loop-i.i - 1) c.loop-i.i (omega arith) c.if-a-b.false (omega arith) c.if-a-i.true) ∙ c.loop-i.invariant)

pub loop-i-preserved : goal.loop-i-preserved
loop-i-preserved c =
    sym (equal_here c.args.a.now c.args.b.now (c.loop-i.i - 1) c.loop-i.i (omega arith) c.if-a-b.false (omega arith) c.if-a-i.false) ∙ c.loop-i.invariant

use Rattle.std.proofs.Common.{refl, sym, ap, subst, length, arith}
use Rattle.monomial_order.specs.Monomial.{Divides}
use Rattle.word_rules.specs.Rules.{rule_at}
use Rattle.word_rules.proofs.Trimming.{left_is_trimmed, left_word, quotient_fits, rewritten_in_place, right_word, zero_in_place}
use Rattle.word_rules.proofs.rule_table.RuleTable.step.Goals as goal

pub returns-in_default-clause-zero : goal.returns-in_default-clause-zero
returns-in_default-clause-zero g c = λ e.
    zero_in_place (rule_at c.args.self.now c.args.i) c.args.word.now
    (left_is_trimmed (g.O.Order.order c.args.o.now) c.args.self.now c.requires.decreasing c.args.i c.requires.inside) c.requires.divides (c.in_default.ensures.none refl)

pub divide-requires-clause-short : goal.divide-requires-clause-short
divide-requires-clause-short g c =
    let l = (left_word (g.O.Order.order c.args.o.now) c.args.self.now c.requires.decreasing c.args.i c.requires.inside).within in
    let e = ap length c.left_side.ensures in
    let m = c.requires.long in
    omega arith

pub divide-requires-clause-divides : goal.divide-requires-clause-divides
divide-requires-clause-divides g c = subst (λ m. Divides m c.args.word.now) (sym c.left_side.ensures) c.requires.divides

pub multiply-requires-clause-short : goal.multiply-requires-clause-short
multiply-requires-clause-short g c =
    let O = g.O.Order.order c.args.o.now in
    let L = g.met.O.Order.laws c.args.o.now in
    let r = (right_word O L c.args.self.now c.requires.decreasing c.args.i c.requires.inside c.args.word.now c.in-Some.right.now c.requires.word c.requires.divides c.in-Some.ensures.some).within in
    let m = c.requires.long in
    let d = c.divide.ensures.long in
    omega arith

pub multiply-requires-clause-fits : goal.multiply-requires-clause-fits
multiply-requires-clause-fits g c =
    quotient_fits (g.O.Order.order c.args.o.now) (g.met.O.Order.laws c.args.o.now) c.args.self.now c.requires.decreasing c.args.i c.requires.inside
    c.args.word.now c.in-Some.right.now c.requires.word c.requires.divides c.in-Some.ensures.some
    c.left_side.result.now c.in-Some.right.now c.divide.new.self c.left_side.ensures refl c.divide.ensures.exponents

pub returns-clause-next : goal.returns-clause-next
returns-clause-next g c = λ e.
    rewritten_in_place (g.O.Order.order c.args.o.now) (g.met.O.Order.laws c.args.o.now) c.args.self.now c.requires.decreasing c.args.i c.requires.inside
    c.args.word.now c.in-Some.right.now c.requires.word c.requires.divides c.in-Some.ensures.some
    c.left_side.result.now c.in-Some.right.now c.divide.new.self c.multiply.new.self c.left_side.ensures refl c.divide.ensures.exponents c.in_ok-multiply.ensures.exponents

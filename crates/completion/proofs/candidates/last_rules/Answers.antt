use Rattle.std.proofs.Common.{◌≡◌, ◌<◌, ◌-◌, suc, length, ap, arith}
use Rattle.completion.proofs.WordsAtDegree.{at_rule, is_rule, lower_before, one_more}
use Rattle.completion.proofs.candidates.last_rules.Goals as goal

pub degree-requires-clause-monomial : goal.degree-requires-clause-monomial
degree-requires-clause-monomial c =
    let W = c.args.words.now in let rules = c.rules-rules.result.now in let same = c.rules-rules.ensures.same in
    let n = ap length same in let t = c.back-test.true in let i = c.back.invariant.within in
    let at : c.back.start - 1 < length rules = omega arith in
    let m = is_rule W c.requires rules (c.back.start - 1) c.index-rules-at.result same at c.index-rules-at.is in
    let r = c.requires.rules.minimal c.index-rules-at.result m in
    rw (c.order-order.ensures.x, c.order-order.ensures.s) r.word

pub degree-requires-clause-small : goal.degree-requires-clause-small
degree-requires-clause-small c =
    let W = c.args.words.now in let rules = c.rules-rules.result.now in let same = c.rules-rules.ensures.same in
    let n = ap length same in let t = c.back-test.true in let i = c.back.invariant.within in
    let at : c.back.start - 1 < length rules = omega arith in
    let m = is_rule W c.requires rules (c.back.start - 1) c.index-rules-at.result same at c.index-rules-at.is in
    let d = c.requires.rules.degree c.index-rules-at.result m in let s = c.requires.small in
    rw (c.order-order.ensures.x, c.order-order.ensures.s) (omega arith)

pub returns-then-degree-least-clause-before : goal.returns-then-degree-least-clause-before
returns-then-degree-least-clause-before c =
    let W = c.args.words.now in let rules = c.rules-rules.result.now in let same = c.rules-rules.ensures.same in
    let t = c.back-test.true in let i = c.back.invariant.within in
    let e : suc (c.back.start - 1) ≡ c.back.start = omega arith in
    let d = rw (c.order-order.ensures.x, c.order-order.ensures.s) at c.degree.ensures in
    let l = c.if-degree-least.true in let w = c.degree-least.ensures in
    lower_before W c.requires c.back.start (c.back.start - 1) c.index-rules-at.result e i
    (at_rule W c.requires rules (c.back.start - 1) c.index-rules-at.result same c.index-rules-at.is) (omega arith)

pub back-preserved : goal.back-preserved
back-preserved c =
    let W = c.args.words.now in let rules = c.rules-rules.result.now in let same = c.rules-rules.ensures.same in
    let t = c.back-test.true in let i = c.back.invariant.within in
    let e : suc (c.back.start - 1) ≡ c.back.start = omega arith in
    let d = rw (c.order-order.ensures.x, c.order-order.ensures.s) at c.degree.ensures in
    let l = c.if-degree-least.false in let w = c.degree-least.ensures in
    record {
      within = omega arith;
      from = one_more W c.requires c.back.start (c.back.start - 1) c.index-rules-at.result e i
          (at_rule W c.requires rules (c.back.start - 1) c.index-rules-at.result same c.index-rules-at.is) (omega arith)
          c.back.invariant.from;
    }

use Rattle.std.proofs.Common.{◌≡◌, ◌≢◌, suc, ◌+◌, ◌-◌, ◌/◌, [], ◌∙◌, sym, subst, get_or, arith}
use Rattle.std.specs.declared.cmp.Ordering.TheVariants.{Less}
use Rattle.std.proofs.lemmas.List.{get_or_default}
use Rattle.toric_ideal.proofs.IncreasingLists.{IsSearched, lt_less, not_lt, search_up, search_down}
use Rattle.toric_ideal.proofs.increasing.insertion_index.Goals as goal

pub seek-preserved-then-is_lt : goal.seek-preserved-then-is_lt
seek-preserved-then-is_lt g c =
    let O = g.O.Order.order c.args.o.now in
    let ms = c.args.list.now in
    let j = c.seek.low + (c.seek.high - c.seek.low) / 2 in
    let w = c.seek.invariant.from.within in let p = c.seek-test.true in
    let same : c.index-list-middle.result ≡ get_or ms j [] = c.index-list-middle.is ∙ get_or_default ms j c.index-list-middle.result [] (omega arith) in
    let less : O.compare c.index-list-middle.result c.args.m.now ≡ Less = sym c.compare.ensures ∙ lt_less c.compare.result (sym c.is_lt.ensures ∙ c.if-is_lt.true) in
    subst (λ i. IsSearched O (g.met.O.Order.laws c.args.o.now) ms c.args.m.now i c.seek.high) (let e : suc j ≡ j + 1 = omega arith in e)
    (search_up O (g.met.O.Order.laws c.args.o.now) ms c.args.m.now c.seek.low c.seek.high j c.requires.increasing (omega arith)
    (subst (λ x. O.compare x c.args.m.now ≡ Less) same less) c.seek.invariant)

pub seek-preserved : goal.seek-preserved
seek-preserved g c =
    let O = g.O.Order.order c.args.o.now in
    let ms = c.args.list.now in
    let j = c.seek.low + (c.seek.high - c.seek.low) / 2 in
    let w = c.seek.invariant.from.within in let p = c.seek-test.true in
    let same : c.index-list-middle.result ≡ get_or ms j [] = c.index-list-middle.is ∙ get_or_default ms j c.index-list-middle.result [] (omega arith) in
    let other : O.compare c.index-list-middle.result c.args.m.now ≢ Less = λ e. not_lt c.compare.result (sym c.is_lt.ensures ∙ c.if-is_lt.false) (c.compare.ensures ∙ e) in
    search_down O (g.met.O.Order.laws c.args.o.now) ms c.args.m.now c.seek.low c.seek.high j c.requires.increasing (omega arith) (omega arith)
    (subst (λ x. O.compare x c.args.m.now ≢ Less) same other) c.seek.invariant

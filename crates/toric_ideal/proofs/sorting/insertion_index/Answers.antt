use Rattle.std.proofs.Common.{◌≡◌, ◌≢◌, suc, ◌+◌, ◌-◌, ◌/◌, ◌∙◌, sym, subst, get_or, arith}
use Rattle.std.specs.declared.cmp.Ordering.TheVariants.{Less}
use Rattle.monomial_order.specs.laws.Lists.{contains_at}
use Rattle.toric_ideal.specs.SortedRules.{words_of}
use Rattle.toric_ideal.proofs.IncreasingLists.{lt_less, not_lt, search_up, search_down}
use Rattle.toric_ideal.proofs.RuleLists.{word_at, words_length}
use Rattle.toric_ideal.proofs.sorting.insertion_index.Goals as goal

pub compare-requires-clause-left : goal.compare-requires-clause-left
compare-requires-clause-left g c =
    let j = c.seek.low + (c.seek.high - c.seek.low) / 2 in
    let w = c.seek.invariant.from.within in let n = words_length c.args.rules.now in let p = c.seek-test.true in
    (c.requires.small (get_or c.args.rules.now j c.index-rules-middle.result) (contains_at c.args.rules.now j c.index-rules-middle.result (omega arith))).word

pub seek-preserved-then-is_lt : goal.seek-preserved-then-is_lt
seek-preserved-then-is_lt g c =
    let O = g.O.Order.order c.args.o.now in
    let j = c.seek.low + (c.seek.high - c.seek.low) / 2 in
    let w = c.seek.invariant.from.within in let n = words_length c.args.rules.now in let p = c.seek-test.true in
    let less : O.compare (get_or c.args.rules.now j c.index-rules-middle.result).word c.args.word.now ≡ Less = sym c.compare.ensures ∙ lt_less c.compare.result (sym c.is_lt.ensures ∙ c.if-is_lt.true) in
    let e : j + 1 ≡ suc j = omega arith in
    subst (λ i. Rattle.toric_ideal.proofs.IncreasingLists.IsSearched O (g.met.O.Order.laws c.args.o.now) (words_of c.args.rules.now) c.args.word.now i c.seek.high) (sym e)
    (search_up O (g.met.O.Order.laws c.args.o.now) (words_of c.args.rules.now) c.args.word.now c.seek.low c.seek.high j c.requires.increasing (omega arith)
    (subst (λ x. O.compare x c.args.word.now ≡ Less) (sym (word_at c.args.rules.now j c.index-rules-middle.result (omega arith))) less) c.seek.invariant)

pub seek-preserved : goal.seek-preserved
seek-preserved g c =
    let O = g.O.Order.order c.args.o.now in
    let j = c.seek.low + (c.seek.high - c.seek.low) / 2 in
    let w = c.seek.invariant.from.within in let n = words_length c.args.rules.now in let p = c.seek-test.true in
    let other : O.compare (get_or c.args.rules.now j c.index-rules-middle.result).word c.args.word.now ≢ Less = λ e. not_lt c.compare.result (sym c.is_lt.ensures ∙ c.if-is_lt.false) (c.compare.ensures ∙ e) in
    search_down O (g.met.O.Order.laws c.args.o.now) (words_of c.args.rules.now) c.args.word.now c.seek.low c.seek.high j c.requires.increasing (omega arith) (omega arith)
    (subst (λ x. O.compare x c.args.word.now ≢ Less) (sym (word_at c.args.rules.now j c.index-rules-middle.result (omega arith))) other) c.seek.invariant

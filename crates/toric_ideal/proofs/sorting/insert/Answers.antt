use Rattle.std.proofs.Common.{◌∙◌, sym, ap, subst, arith}
use Rattle.toric_ideal.specs.declared.rule.Rule.{Rule}
use Rattle.toric_ideal.specs.Increasing.{IsInsertionIndex}
use Rattle.toric_ideal.specs.SortedRules.{words_of, HaveSmallWords, IsInsertedRule}
use Rattle.toric_ideal.proofs.RuleLists.{inserted_new, word_at, words_length}
use Rattle.toric_ideal.proofs.Members.{words_differ}
use Rattle.toric_ideal.proofs.sorting.insert.Goals as goal
use Rattle.toric_ideal.proofs.sorting.insert.Goals.{else-index-len-via-then-index-len+else-eq, else-index-len-via-else-index-len}

pub insertion_index-index-requires-clause-small : goal.insertion_index-index-requires-clause-small
insertion_index-index-requires-clause-small g c = subst (HaveSmallWords (g.O.Order.order c.args.o.now)) (sym c.as_slice.ensures.value) c.requires.small

pub returns : goal.returns
returns g c =
    let O = g.O.Order.order c.args.o.now in
    let rules = c.args.rules.now.items in
    let i = c.insertion_index-index.result in
    let t = c.args.rule in
    let W = g.met.O.Order.laws c.args.o.now in
    let n = words_length rules in
    let place : IsInsertionIndex O (words_of rules) t.word i = subst (λ xs. IsInsertionIndex O (words_of xs) t.word i) c.as_slice.ensures.value c.insertion_index-index.ensures in
    subst (λ new. IsInsertedRule O rules new t) (sym c.in_ok-insert.ensures.items)
    (inserted_new O W rules t i c.requires.increasing place
    (elim c.else-index-len.branch [
      | else-index-len-via-then-index-len+else-eq w ↦ λ l. λ q. words_differ w.index.result.now.word t.word (sym w.eq.ensures ∙ w.if-eq.false)
          (ap (λ (r : Rule). r.word) w.index.ensures ∙ (sym (word_at rules i w.index.result.now (omega arith)) ∙ q))
      | else-index-len-via-else-index-len w ↦ λ l. absurd (let a = w.if-index-len.false in let b = c.len.ensures in let o = c.args.rules.now.ok in omega arith)
    ]))

use Rattle.std.proofs.Common.{[], ◌∙◌, sym, subst, arith}
use Rattle.toric_ideal.specs.Increasing.{IsInsertionIndex, IsInserted}
use Rattle.toric_ideal.proofs.IncreasingLists.{insert_new}
use Rattle.std.proofs.lemmas.List.{get_or_default}
use Rattle.toric_ideal.proofs.Members.{words_differ}
use Rattle.toric_ideal.proofs.increasing.insert.Goals as goal
use Rattle.toric_ideal.proofs.increasing.insert.Goals.{else-index-len-via-then-index-len+else-eq, else-index-len-via-else-index-len}

pub returns : goal.returns
returns g c =
    let O = g.O.Order.order c.args.o.now in
    let ms = c.args.list.now.items in
    let i = c.insertion_index-index.result in
    let m = c.args.m in
    let W = g.met.O.Order.laws c.args.o.now in
    let place : IsInsertionIndex O ms m i = subst (λ xs. IsInsertionIndex O xs m i) c.as_slice.ensures.value c.insertion_index-index.ensures in
    subst (λ new. IsInserted O ms new m) (sym c.in_ok-insert.ensures.items)
    (insert_new O W ms m i c.requires.increasing place
    (elim c.else-index-len.branch [
      | else-index-len-via-then-index-len+else-eq w ↦ λ l. λ q. words_differ w.index.result.now m (sym w.eq.ensures ∙ w.if-eq.false) (w.index.ensures ∙ (get_or_default ms i w.index.result.now [] l ∙ q))
      | else-index-len-via-else-index-len w ↦ λ l. absurd (let a = w.if-index-len.false in let b = c.len.ensures in let o = c.args.list.now.ok in omega arith)
    ]))

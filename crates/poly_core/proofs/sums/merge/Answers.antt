use Rattle.std.proofs.Common.{◌-◌, ◌++◌, arith, sym, subst, ◌∙◌, vec_len}
use Rattle.std.proofs.lemmas.Bool.{true≢false}
use Rattle.std.specs.Prelude.{reverse}
use Rattle.polynomials.specs.Polynomial.{IsMeasured}
use Rattle.polynomials.specs.laws.Terms.{all_at, canonical_measured, decreasing_values}
use Rattle.poly_core.proofs.Merging.{IsMerging, IsMerged, first_canonical, second_canonical, first_moved, second_moved, both_added, first_done, second_done, told_empty, told_positive}
use Rattle.poly_core.proofs.sums.merge.Goals as goal
use Rattle.poly_core.proofs.sums.merge.Goals.{then-both-test+else-not-is_empty, else-both-test, then-is_empty, else-is_empty}

pub compare-requires-clause-left : goal.compare-requires-clause-left
compare-requires-clause-left g c =
    (all_at (IsMeasured (g.O.Order.order c.args.o.now)) c.both.a.items (c.len.result - 1) c.index-s.result.now
    (canonical_measured (g.F.Field.ops c.args.f.now) (g.O.Order.order c.args.o.now) c.both.a.items (first_canonical (g.F.Field.ops c.args.f.now) (g.met.F.Field.laws c.args.f.now) (g.O.Order.order c.args.o.now) (g.met.O.Order.laws c.args.o.now) c.args.a.items c.args.b.items c.both.a.items c.both.b.items c.both.rising.items c.both.invariant))
    (let positive = told_positive (vec_len c.both.a) c.is_empty.result c.both-test.true c.is_empty.ensures in omega arith) c.index-s.ensures).monomial

pub compare-requires-clause-left_degree : goal.compare-requires-clause-left_degree
compare-requires-clause-left_degree g c =
    (all_at (IsMeasured (g.O.Order.order c.args.o.now)) c.both.a.items (c.len.result - 1) c.index-s.result.now
    (canonical_measured (g.F.Field.ops c.args.f.now) (g.O.Order.order c.args.o.now) c.both.a.items (first_canonical (g.F.Field.ops c.args.f.now) (g.met.F.Field.laws c.args.f.now) (g.O.Order.order c.args.o.now) (g.met.O.Order.laws c.args.o.now) c.args.a.items c.args.b.items c.both.a.items c.both.b.items c.both.rising.items c.both.invariant))
    (let positive = told_positive (vec_len c.both.a) c.is_empty.result c.both-test.true c.is_empty.ensures in omega arith) c.index-s.ensures).small

pub compare-requires-clause-right : goal.compare-requires-clause-right
compare-requires-clause-right g c =
    (all_at (IsMeasured (g.O.Order.order c.args.o.now)) c.both.b.items (c.len-in-both.result - 1) c.index-t.result.now
    (canonical_measured (g.F.Field.ops c.args.f.now) (g.O.Order.order c.args.o.now) c.both.b.items (second_canonical (g.F.Field.ops c.args.f.now) (g.met.F.Field.laws c.args.f.now) (g.O.Order.order c.args.o.now) (g.met.O.Order.laws c.args.o.now) c.args.a.items c.args.b.items c.both.a.items c.both.b.items c.both.rising.items c.both.invariant))
    (let positive = told_positive (vec_len c.both.b) c.is_empty-in-both.result c.if-not-is_empty.true c.is_empty-in-both.ensures in omega arith) c.index-t.ensures).monomial

pub compare-requires-clause-right_degree : goal.compare-requires-clause-right_degree
compare-requires-clause-right_degree g c =
    (all_at (IsMeasured (g.O.Order.order c.args.o.now)) c.both.b.items (c.len-in-both.result - 1) c.index-t.result.now
    (canonical_measured (g.F.Field.ops c.args.f.now) (g.O.Order.order c.args.o.now) c.both.b.items (second_canonical (g.F.Field.ops c.args.f.now) (g.met.F.Field.laws c.args.f.now) (g.O.Order.order c.args.o.now) (g.met.O.Order.laws c.args.o.now) c.args.a.items c.args.b.items c.both.a.items c.both.b.items c.both.rising.items c.both.invariant))
    (let positive = told_positive (vec_len c.both.b) c.is_empty-in-both.result c.if-not-is_empty.true c.is_empty-in-both.ensures in omega arith) c.index-t.ensures).small

pub both-preserved-in-Continue-branch-2 : goal.both-preserved-in-Continue-branch-2
both-preserved-in-Continue-branch-2 g c =
    first_moved (g.F.Field.ops c.args.f.now) (g.met.F.Field.laws c.args.f.now) (g.O.Order.order c.args.o.now) (g.met.O.Order.laws c.args.o.now) c.args.a.items c.args.b.items c.both.a.items c.both.b.items c.both.rising.items c.both.invariant c.index-s.result.now c.index-t.result.now (c.len.result - 1) (c.len-in-both.result - 1) (let positive = told_positive (vec_len c.both.a) c.is_empty.result c.both-test.true c.is_empty.ensures in omega arith) (let positive = told_positive (vec_len c.both.b) c.is_empty-in-both.result c.if-not-is_empty.true c.is_empty-in-both.ensures in omega arith) c.index-s.ensures c.index-t.ensures
    c.move_last.new.from.items c.move_last.new.to.items c.in_ok-move_last-in-Less.ensures (sym c.in-Less.ensures)

pub both-preserved-in-Continue-branch-3 : goal.both-preserved-in-Continue-branch-3
both-preserved-in-Continue-branch-3 g c =
    second_moved (g.F.Field.ops c.args.f.now) (g.met.F.Field.laws c.args.f.now) (g.O.Order.order c.args.o.now) (g.met.O.Order.laws c.args.o.now) c.args.a.items c.args.b.items c.both.a.items c.both.b.items c.both.rising.items c.both.invariant c.index-s.result.now c.index-t.result.now (c.len.result - 1) (c.len-in-both.result - 1) (let positive = told_positive (vec_len c.both.a) c.is_empty.result c.both-test.true c.is_empty.ensures in omega arith) (let positive = told_positive (vec_len c.both.b) c.is_empty-in-both.result c.if-not-is_empty.true c.is_empty-in-both.ensures in omega arith) c.index-s.ensures c.index-t.ensures
    c.move_last-in-Greater.new.from.items c.move_last-in-Greater.new.to.items c.in_ok-move_last-in-Greater.ensures (sym c.in-Greater.ensures)

pub add_last-requires-clause-a_values : goal.add_last-requires-clause-a_values
add_last-requires-clause-a_values g c = decreasing_values (g.F.Field.ops c.args.f.now) (g.O.Order.order c.args.o.now) c.both.a.items (first_canonical (g.F.Field.ops c.args.f.now) (g.met.F.Field.laws c.args.f.now) (g.O.Order.order c.args.o.now) (g.met.O.Order.laws c.args.o.now) c.args.a.items c.args.b.items c.both.a.items c.both.b.items c.both.rising.items c.both.invariant).decreasing

pub add_last-requires-clause-b_values : goal.add_last-requires-clause-b_values
add_last-requires-clause-b_values g c = decreasing_values (g.F.Field.ops c.args.f.now) (g.O.Order.order c.args.o.now) c.both.b.items (second_canonical (g.F.Field.ops c.args.f.now) (g.met.F.Field.laws c.args.f.now) (g.O.Order.order c.args.o.now) (g.met.O.Order.laws c.args.o.now) c.args.a.items c.args.b.items c.both.a.items c.both.b.items c.both.rising.items c.both.invariant).decreasing

pub both-preserved : goal.both-preserved
both-preserved g c =
    both_added (g.F.Field.ops c.args.f.now) (g.met.F.Field.laws c.args.f.now) (g.O.Order.order c.args.o.now) (g.met.O.Order.laws c.args.o.now) c.args.a.items c.args.b.items c.both.a.items c.both.b.items c.both.rising.items c.both.invariant c.index-s.result.now c.index-t.result.now (c.len.result - 1) (c.len-in-both.result - 1) (let positive = told_positive (vec_len c.both.a) c.is_empty.result c.both-test.true c.is_empty.ensures in omega arith) (let positive = told_positive (vec_len c.both.b) c.is_empty-in-both.result c.if-not-is_empty.true c.is_empty-in-both.ensures in omega arith) c.index-s.ensures c.index-t.ensures
    c.add_last.new.a.items c.add_last.new.b.items c.add_last.new.to.items c.in_ok-add_last-in-Equal.ensures (sym c.in-Equal.ensures)

pub end-init : goal.end-init
end-init g c =
    subst (λ x. IsMerged (g.F.Field.ops c.args.f.now) (g.O.Order.order c.args.o.now) c.args.a.items c.args.b.items (x ++ reverse c.both.rising.items)) (sym c.reserve.ensures.items) rest
  where
    rest : IsMerged (g.F.Field.ops c.args.f.now) (g.O.Order.order c.args.o.now) c.args.a.items c.args.b.items (c.if-is_empty.sum.items ++ reverse c.both.rising.items)
    rest =
        elim c.if-is_empty.branch [
          | then-is_empty w ↦
              subst (λ v. IsMerged (g.F.Field.ops c.args.f.now) (g.O.Order.order c.args.o.now) c.args.a.items c.args.b.items (v.items ++ reverse c.both.rising.items)) (sym w.sum-is)
              (first_done (g.F.Field.ops c.args.f.now) (g.met.F.Field.laws c.args.f.now) (g.O.Order.order c.args.o.now) (g.met.O.Order.laws c.args.o.now) c.args.a.items c.args.b.items c.both.b.items (reverse c.both.rising.items)
              (subst (λ x. IsMerging (g.F.Field.ops c.args.f.now) (g.O.Order.order c.args.o.now) c.args.a.items c.args.b.items x c.both.b.items (reverse c.both.rising.items))
              (told_empty c.both.a.items (vec_len c.both.a) c.is_empty-2.result w.if-is_empty.true c.is_empty-2.ensures (omega arith)) c.both.invariant))
          | else-is_empty w ↦
              subst (λ v. IsMerged (g.F.Field.ops c.args.f.now) (g.O.Order.order c.args.o.now) c.args.a.items c.args.b.items (v.items ++ reverse c.both.rising.items)) (sym w.sum-is)
              (second_done (g.F.Field.ops c.args.f.now) (g.met.F.Field.laws c.args.f.now) (g.O.Order.order c.args.o.now) (g.met.O.Order.laws c.args.o.now) c.args.a.items c.args.b.items c.both.a.items (reverse c.both.rising.items)
              (subst (λ x. IsMerging (g.F.Field.ops c.args.f.now) (g.O.Order.order c.args.o.now) c.args.a.items c.args.b.items c.both.a.items x (reverse c.both.rising.items))
              (elim c.both-test.branch [
                | then-both-test+else-not-is_empty v ↦ told_empty c.both.b.items (vec_len c.both.b) v.is_empty-in-both.result v.if-not-is_empty.false v.is_empty-in-both.ensures (omega arith)
                | else-both-test v ↦ absurd (true≢false (sym v.both-test.false ∙ (c.is_empty.ensures ∙ (sym c.is_empty-2.ensures ∙ w.if-is_empty.false))))
              ]) c.both.invariant))
        ]

use Rattle.std.proofs.Common.{suc, ◌≡◌, ◌≤◌, ◌-◌, subst, take, arith}
use Rattle.std.specs.Prelude.{All}
use Rattle.witness.specs.Tracking.{by_order}
use Rattle.witness.specs.laws.Letters.{by_laws}
use Rattle.completion.specs.declared.relations.Relation.{Relation}
use Rattle.completion.proofs.LowRelations.{comparable_at, low_front}
use Rattle.completion.proofs.cutting.low_count.Goals as goal

pub degree-requires-clause-monomial : goal.degree-requires-clause-monomial
degree-requires-clause-monomial g c =
    let within = c.relations.invariant.within in
    let some = c.relations-test.true in
    rw c.index-relations-count.is at (comparable_at (by_order c.args.w.now) (λ (r : Relation g.row.F.Denot g.row.F-Elem.Denot). r.word) c.args.relations.now
    (c.relations.count - 1) c.index-relations-count.result c.requires.comparable (omega arith) c.index-relations-count.is).monomial

pub degree-requires-clause-small : goal.degree-requires-clause-small
degree-requires-clause-small g c =
    let within = c.relations.invariant.within in
    let some = c.relations-test.true in
    rw c.index-relations-count.is at (comparable_at (by_order c.args.w.now) (λ (r : Relation g.row.F.Denot g.row.F-Elem.Denot). r.word) c.args.relations.now
    (c.relations.count - 1) c.index-relations-count.result c.requires.comparable (omega arith) c.index-relations-count.is).small

pub returns-else-d-degree-clause-at_most : goal.returns-else-d-degree-clause-at_most
returns-else-d-degree-clause-at_most g c =
    let within = c.relations.invariant.within in
    let some = c.relations-test.true in
    let is = c.degree.ensures in
    let low = c.if-d-degree.false in
    let W = by_order c.args.w.now in
    let count : suc (c.relations.count - 1) ≡ c.relations.count = omega arith in
    subst (λ n. All (λ (r : Relation g.row.F.Denot g.row.F-Elem.Denot). W.degree r.word ≤ c.args.d) (take n c.args.relations.now)) count
    (low_front W (by_laws c.args.w.now) (λ (r : Relation g.row.F.Denot g.row.F-Elem.Denot). r.word) c.args.d c.args.relations.now (c.relations.count - 1)
    c.index-relations-count.result c.requires.increasing (omega arith) (omega arith))

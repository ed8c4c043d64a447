use Rattle.std.proofs.Common.{◌<◌, ◌≤◌, sym, subst, ℕ, [], length, arith, ◌∙◌}
use Rattle.std.proofs.lemmas.List.{get_or_default}
use Rattle.poly_core.specs.Presentation.{presented}
use Rattle.polynomials.specs.Subalgebra.{HasDegreesTo}
use Rattle.completion.proofs.HigherDegrees.{member_generator}
use Rattle.completion.proofs.later.has_higher.Goals as goal

pub is_above-requires : goal.is_above-requires
is_above-requires g c =
    let P = presented g.F.Field.ops g.O.Order.order c.args.p.now in
    member_generator P.field P.order c.args.list.now c.requires c.f-item.result
    (c.list.f-index, c.list-test.true, sym c.f-item.is)

pub returns-clause-no : goal.returns-clause-no
returns-clause-no g c t f k =
    let P = presented g.F.Field.ops g.O.Order.order c.args.p.now in
    let fs = c.args.list.now in
    subst (HasDegreesTo P c.args.c) (get_or_default fs k.0 [] f k.1 ∙ k.2)
    (c.list.invariant k.0 (below k.0 (length fs) c.list.f-index k.1 c.list-test.false))
  where
    below : (k n i : ℕ) → k < n → n ≤ i → k < i
    below k n i h l = omega arith

use Rattle.poly_core.specs.Presentation.{presented}
use Rattle.subduction.proofs.Loop.{decided, factor_monomial, factor_standard, not_generated}
use Rattle.subduction.proofs.word_step.word_with_image.Goals as goal

pub factor-requires-clause-monomial : goal.factor-requires-clause-monomial
factor-requires-clause-monomial g c =
    let P = presented g.F.Field.ops g.O.Order.order c.args._p.now in
    rw c.words-2.ensures (factor_monomial P c.requires.presentation.presentation c.args.b.now c.requires.basis c.args.m.now c.requires.standard)

pub factor-requires-clause-standard : goal.factor-requires-clause-standard
factor-requires-clause-standard g c =
    let P = presented g.F.Field.ops g.O.Order.order c.args._p.now in
    rw c.words-2.ensures (factor_standard P c.requires.presentation.presentation c.args.b.now c.requires.basis c.args.m.now c.requires.standard)

pub factor-requires-clause-degree : goal.factor-requires-clause-degree
factor-requires-clause-degree g c =
    let P = presented g.F.Field.ops g.O.Order.order c.args._p.now in
    rw c.words-2.ensures (decided P c.requires.presentation.presentation c.args.b.now c.requires.basis c.args.m.now c.requires.standard c.requires.small c.requires.reach)

pub returns-clause-none : goal.returns-clause-none
returns-clause-none g c n =
    let P = presented g.F.Field.ops g.O.Order.order c.args._p.now in
    not_generated P c.requires.presentation.presentation c.args.b.now c.requires.basis c.args.m.now c.words.ensures.images ((rw c.words-2.ensures at c.in_ok-found.ensures.none) n)

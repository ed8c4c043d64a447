use Rattle.std.proofs.lemmas.Bool.{ltb-false, ltb-true}
use Rattle.poly_core.specs.Presentation.{presented}
use Rattle.completion.proofs.HigherDegrees.{degree_above, degrees_to, zero_to}
use Rattle.completion.proofs.later.is_above.Goals as goal

pub returns-in-Some-clause-yes : goal.returns-in-Some-clause-yes
returns-in-Some-clause-yes g c t =
    let P = presented g.F.Field.ops g.O.Order.order c.args.p.now in
    let d = c.in-Some.degree in
    degree_above P c.args.f.now c.args.c d (c.in-Some.ensures.greatest c.args.p.now.field c.requires.canonical)
    c.requires (ltb-true c.args.c d t)

pub returns-in-Some-clause-no : goal.returns-in-Some-clause-no
returns-in-Some-clause-no g c t =
    let P = presented g.F.Field.ops g.O.Order.order c.args.p.now in
    let d = c.in-Some.degree in
    degrees_to P c.args.f.now c.args.c d (c.in-Some.ensures.greatest c.args.p.now.field c.requires.canonical)
    (ltb-false c.args.c d t)

pub returns-in-None-clause-no : goal.returns-in-None-clause-no
returns-in-None-clause-no g c t =
    zero_to (presented g.F.Field.ops g.O.Order.order c.args.p.now) c.args.f.now c.args.c
    (c.in-None.ensures.zero.0 Rattle.std.proofs.Common.refl)

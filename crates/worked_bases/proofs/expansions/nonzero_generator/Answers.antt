use Rattle.std.proofs.Common.{◌+◌, arith}
use Rattle.worked_bases.proofs.Elements.{generator_in, generator_element, positive_test}
use Rattle.worked_bases.proofs.expansions.nonzero_generator.Goals as goal

pub degree-requires : goal.degree-requires
degree-requires c =
    let g = generator_in c.args.p.now c.requires.valid (c.args.i + 1) (omega arith) (let l = c.requires.inside in omega arith) c.in_ok-t.t c.in_ok-t.ensures.value in g.0

pub returns : goal.returns
returns c =
    let t = c.in_ok-t in
    generator_element c.args.p.now c.requires.valid (c.args.i + 1) (omega arith) (let l = c.requires.inside in omega arith) t.t t.ensures.value
    (λ z. let e = c.degree.ensures in let l = positive_test c.degree.result c.in_ok-ensure.ensures in omega arith)
    t.ensures.by t.ensures.tracks t.ensures.canonical t.ensures.graded

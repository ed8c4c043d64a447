use Rattle.std.proofs.Common.{◌∙◌, sym, arith}
use Rattle.worked_bases.proofs.NewElements.{generator_can, rest_is_new}
use Rattle.worked_bases.proofs.subductions.add_rest.Goals as goal

pub subduce-requires-clause-can : goal.subduce-requires-clause-can
subduce-requires-clause-can c =
    generator_can c.args.p.now c.args.b.now c.requires.basis.basis c.args.t.now c.requires.element c.requires.degree (let d = c.requires.degree in let l = c.requires.low in omega arith)

pub push-requires-clause-element : goal.push-requires-clause-element
push-requires-clause-element c =
    rest_is_new c.args.p.now c.args.b.now c.requires.basis.basis c.args.t.now c.requires.element c.requires.degree c.in_ok-s.s c.in_ok-s.ensures
    (λ e. let is = c.in-Some.ensures.first in let z = sym is.1 ∙ e in cc)

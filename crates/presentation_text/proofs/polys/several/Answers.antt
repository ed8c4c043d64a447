use Rattle.std.proofs.Common.{◌∙◌, arith}
use Rattle.std.proofs.lemmas.Result.{err_from_is_err_and}
use Rattle.poly_core.specs.Presentation.{weight_order_of}
use Rattle.presentation_text.specs.Giving.{head_of}
use Rattle.presentation_text.specs.Reading.{poly_line, several}
use Rattle.presentation_text.proofs.NextPolys.{come_next, come_stop, come_all}
use Rattle.presentation_text.proofs.polys.several.Goals as goal

pub returns-in_err-p-clause-fault : goal.returns-in_err-p-clause-fault
returns-in_err-p-clause-fault g c =
    let p = err_from_is_err_and c.from_residual.result c.from_residual.ensures.1 in
    rw (p.1, p.2) (come_stop (g.F.Field.ops c.args.f.now) (weight_order_of c.args.h.now.order) c.args.lines.now.missing (poly_line (g.F.Field.ops c.args.f.now) (head_of c.args.h.now) c.args.constant) c.args.count c.loop.counter c.loop.lines.left
    (several c.args.lines.now.missing (poly_line (g.F.Field.ops c.args.f.now) (head_of c.args.h.now) c.args.constant) c.args.count c.args.lines.now.left) c.loop.polys.items c.in_err-p.field-0.0 c.loop-test.true c.loop.invariant.come (rw c.loop.invariant.missing at c.in_err-p.ensures.fault))

pub loop-preserved : goal.loop-preserved
loop-preserved g c = record {
  come =
      rw (rw c.in_ok-push.was at c.push.ensures.items)
      (come_next (g.F.Field.ops c.args.f.now) (weight_order_of c.args.h.now.order) c.args.lines.now.missing (poly_line (g.F.Field.ops c.args.f.now) (head_of c.args.h.now) c.args.constant) c.args.count c.loop.counter c.loop.lines.left c.next_poly.new.lines.left
      (several c.args.lines.now.missing (poly_line (g.F.Field.ops c.args.f.now) (head_of c.args.h.now) c.args.constant) c.args.count c.args.lines.now.left) c.loop.polys.items c.in_ok-p.p c.loop-test.true c.loop.invariant.come (rw c.loop.invariant.missing at c.in_ok-p.ensures.read));
  missing = c.in_ok-p.ensures.missing ∙ c.loop.invariant.missing;
  within = omega (arith, c.loop-test.true);
}

pub returns-clause-read : goal.returns-clause-read
returns-clause-read g c =
    come_all (g.F.Field.ops c.args.f.now) (weight_order_of c.args.h.now.order) c.args.lines.now.missing (poly_line (g.F.Field.ops c.args.f.now) (head_of c.args.h.now) c.args.constant) c.args.count c.loop.counter c.loop.lines.left
    (several c.args.lines.now.missing (poly_line (g.F.Field.ops c.args.f.now) (head_of c.args.h.now) c.args.constant) c.args.count c.args.lines.now.left) c.loop.polys.items c.loop-test.false (omega (arith, c.requires.few, c.loop.invariant.within)) c.loop.invariant.come

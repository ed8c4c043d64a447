use Rattle.std.proofs.lemmas.Result.{err_from_is_err_and}
use Rattle.poly_core.specs.Presentation.{weight_order_of}
use Rattle.polynomial_text.specs.Degrees.{IsLow}
use Rattle.polynomial_text.specs.PolyLine.{IsPolyOf}
use Rattle.presentation_text.proofs.QueryTexts.{come_first, come_next, come_all, come_low, located_ok, located_stop}
use Rattle.polynomial_text.specs.laws.Names.{names_differ}
use Rattle.presentation_text.proofs.queries.read_polys.Goals as goal

pub loop-line-init : goal.loop-line-init
loop-line-init g c = rw c.new-polys.ensures.items (come_first (g.F.Field.ops c.args.p.now.field) (weight_order_of c.args.p.now.order) c.args.p.now.names c.args.bytes.now c.new-lines.result c.new-lines.ensures)

pub poly_of_line-read-requires : goal.poly_of_line-read-requires
poly_of_line-read-requires g c = names_differ _ c.args.p.now.names c.requires.valid.names

pub returns-in_err-poly-clause-refused : goal.returns-in_err-poly-clause-refused
returns-in_err-poly-clause-refused g c =
    let p = err_from_is_err_and c.from_residual.result c.from_residual.ensures.1 in
    rw (p.1, p.2) (located_stop (g.F.Field.ops c.args.p.now.field) (weight_order_of c.args.p.now.order) c.args.p.now.names c.in-Ok.line.number c.in-Ok.line.bytes.now c.loop-line.lines.left c.next_line.new.self.left c.args.bytes.now c.loop-line.polys.items
    c.poly_of_line-read.result c.in_err-poly.field-0.0 c.in-Ok.ensures.line c.loop-line.invariant c.in_err-poly.ensures c.poly_of_line-read.ensures.fault)

pub loop-line-preserved : goal.loop-line-preserved
loop-line-preserved g c =
    rw (rw c.in_ok-push.was at c.push.ensures.items)
    (come_next (g.F.Field.ops c.args.p.now.field) (weight_order_of c.args.p.now.order) c.args.p.now.names c.in-Ok.line.number c.in-Ok.line.bytes.now c.loop-line.lines.left c.next_line.new.self.left c.args.bytes.now c.loop-line.polys.items c.in_ok-poly.poly c.in-Ok.ensures.line c.loop-line.invariant
    (located_ok (IsPolyOf (g.F.Field.ops c.args.p.now.field) (weight_order_of c.args.p.now.order) c.args.p.now.names c.in-Ok.line.bytes.now) _ c.poly_of_line-read.result c.in_ok-poly.poly c.in_ok-poly.ensures c.poly_of_line-read.ensures.read)
    (located_ok (IsLow (weight_order_of c.args.p.now.order)) _ c.poly_of_line-read.result c.in_ok-poly.poly c.in_ok-poly.ensures c.poly_of_line-read.ensures.low))

pub returns-clause-accepted : goal.returns-clause-accepted
returns-clause-accepted g c =
    come_all (g.F.Field.ops c.args.p.now.field) (weight_order_of c.args.p.now.order) c.args.p.now.names c.loop-line.lines.left c.args.bytes.now c.loop-line.polys.items c.in_default.ensures.none.0 c.loop-line.invariant

pub returns-clause-low : goal.returns-clause-low
returns-clause-low g c =
    come_low (g.F.Field.ops c.args.p.now.field) (weight_order_of c.args.p.now.order) c.args.p.now.names c.loop-line.lines.left c.args.bytes.now c.loop-line.polys.items c.loop-line.invariant

use Rattle.std.proofs.Common.{◌<◌, ◌++◌, sym, length, arith}
use Rattle.std.specs.Prelude.{Contains}
use Rattle.monomial_order.specs.laws.Lists.{contains_map}
use Rattle.poly_core.specs.Presentation.{presented}
use Rattle.witness.specs.declared.tracked.Tracked.{Tracked}
use Rattle.witness.specs.Tracking.{values_of}
use Rattle.completion.specs.Report.{element_lines}
use Rattle.completion.proofs.ReportLines.{line_written}
use Rattle.completion.proofs.report.push_lines.Goals as goal

pub push_line-requires-clause-element : goal.push_line-requires-clause-element
push_line-requires-clause-element g c =
    let ts = c.args.elements.now in
    let t = c.index-elements-i.result in
    let within : c.loop-i.i < length ts = omega arith in
    let member : Contains ts t = (c.loop-i.i, within, sym c.index-elements-i.is) in
    c.requires.elements t.value (contains_map (λ (u : Tracked g.row.F.Denot g.row.F-Elem.Denot). u.value) ts t member)

pub loop-i-preserved : goal.loop-i-preserved
loop-i-preserved g c =
    let P = presented g.F.Field.ops g.O.Order.order c.args.p.now in
    let names = c.args.p.now.names in
    let ts = c.args.elements.now in
    line_written P names ts c.loop-i.i c.index-elements-i.result (omega arith) c.index-elements-i.is
    c.loop-i.text.items c.push_line.new.text.items (c.args.text.now.items ++ element_lines P names 1 (values_of ts))
    c.in_ok-push_line.ensures c.loop-i.invariant

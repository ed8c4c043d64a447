use Rattle.std.proofs.Common.{◌≡◌, ◌+◌, ◌++◌, drop}
use Rattle.poly_core.specs.Presentation.{presented}
use Rattle.witness.specs.Tracking.{values_of}
use Rattle.completion.specs.Report.{element_lines}
use Rattle.completion.proofs.report.push_lines.Given as goal

-- with the lines that are left, the text is the old one with all lines
abbrev pub invariant-loop-i : goal.invariant-loop-i
invariant-loop-i g l =
    let P = presented g.F.Field.ops g.O.Order.order l.p in
    l.text.items ++ element_lines P l.p.names (l.i + 1) (values_of (drop l.i l.elements)) ≡
    l.initial.text.items ++ element_lines P l.p.names 1 (values_of l.elements)

use Rattle.std.proofs.Common.{length}
use Rattle.poly_core.specs.Presentation.{weight_order_of}
use Rattle.presentation_text.proofs.QueryTexts.{HaveCome}
use Rattle.presentation_text.proofs.queries.read_polys.Given as goal

abbrev pub invariant-loop-line : goal.invariant-loop-line
invariant-loop-line g l = HaveCome (g.F.Field.ops l.p.field) (weight_order_of l.p.order) l.p.names l.lines.left l.bytes l.polys.items

abbrev pub decreases-loop-line : goal.decreases-loop-line
decreases-loop-line g l = length l.lines.left

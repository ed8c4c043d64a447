use Rattle.std.proofs.Common.{◌≡◌, ◌≤◌}
use Rattle.poly_core.specs.Presentation.{weight_order_of}
use Rattle.presentation_text.specs.Giving.{head_of}
use Rattle.presentation_text.specs.Reading.{poly_line, several}
use Rattle.presentation_text.proofs.NextPolys.{HaveCome}
use Rattle.presentation_text.proofs.polys.several.Given as goal

abbrev pub invariant-loop : goal.invariant-loop
invariant-loop g l = record {
  come : HaveCome (g.F.Field.ops l.f) (weight_order_of l.h.order) l.fn.lines.missing (poly_line (g.F.Field.ops l.f) (head_of l.h) l.constant) l.count l.counter l.lines.left
      (several l.fn.lines.missing (poly_line (g.F.Field.ops l.f) (head_of l.h) l.constant) l.count l.fn.lines.left) l.polys.items;
  missing : l.lines.missing ≡ l.fn.lines.missing;
  within : l.counter ≤ l.count;
}

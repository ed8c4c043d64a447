use Rattle.std.proofs.Common.{◌≡◌, ◌++◌, drop}
use Rattle.presentation_text.specs.PresentationText.{lines_of}
use Rattle.presentation_text.proofs.writing.push_polys.Given as goal

-- with the polynomials that are left the whole text comes
abbrev pub invariant-loop-p : goal.invariant-loop-p
invariant-loop-p g l = l.out.items ++ lines_of (g.F.Field.ops l.f) l.names (drop l.p-index l.polys) ≡ l.fn.out.items ++ lines_of (g.F.Field.ops l.f) l.names l.polys

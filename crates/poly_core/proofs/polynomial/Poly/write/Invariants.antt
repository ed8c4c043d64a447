use Rattle.std.proofs.Common.{◌≡◌, ◌++◌, drop, map}
use Rattle.poly_core.specs.Text.{term_text, poly_text}
use Rattle.poly_core.proofs.Texts.{terms_left}
use Rattle.poly_core.proofs.polynomial.Poly.write.Given as goal

abbrev pub invariant-loop-i : goal.invariant-loop-i
invariant-loop-i g l =
    l.out.items ++ terms_left l.i (map (term_text (g.F.Field.ops l.f) l.names) (drop l.i l.terms)) ≡ poly_text (g.F.Field.ops l.f) l.names l.a

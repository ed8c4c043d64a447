use Rattle.std.specs.Option.{option_map}
use Rattle.polynomial_text.specs.LineReading.{signed_parts_left}
use Rattle.polynomial_text.proofs.LineAlong.{IsSummed, signed_len}
use Rattle.polynomial_text.proofs.poly_line.read_poly.Given as goal

abbrev pub invariant-loop-rest : goal.invariant-loop-rest
invariant-loop-rest g l = IsSummed (g.F.Field.ops l.f) (g.met.F.Field.laws l.f) (g.O.Order.order l.o) l.names l.line (signed_parts_left (option_map (λ x. (x.minus, x.text.now)) l.rest)) l.stack.items

abbrev pub decreases-loop-rest : goal.decreases-loop-rest
decreases-loop-rest g l = signed_len (option_map (λ x. (x.minus, x.text.now)) l.rest)

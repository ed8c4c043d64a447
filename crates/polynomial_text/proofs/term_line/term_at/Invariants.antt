use Rattle.std.proofs.Common.{◌≡◌}
use Rattle.std.specs.Option.{option_copied}
use Rattle.polynomial_text.specs.Results.{along}
use Rattle.polynomial_text.specs.PolyLine.{with_factor, term_at}
use Rattle.polynomial_text.specs.LineReading.{IsSmallTerm, factor_parts_left}
use Rattle.polynomial_text.proofs.LineReading.{left_len}
use Rattle.polynomial_text.proofs.term_line.term_at.Given as goal

abbrev pub invariant-loop-rest : goal.invariant-loop-rest
invariant-loop-rest g l = record {
  small : IsSmallTerm (g.F.Field.ops l.reader.field.now) (g.O.Order.order l.reader.order.now) l.t;
  whole : along (with_factor (g.F.Field.ops l.reader.field.now) (g.O.Order.order l.reader.order.now) l.reader.names.now) l.t (factor_parts_left (option_copied l.rest)) ≡ term_at (g.F.Field.ops l.reader.field.now) (g.O.Order.order l.reader.order.now) l.reader.names.now (l.minus, l.fn.text);
}

abbrev pub decreases-loop-rest : goal.decreases-loop-rest
decreases-loop-rest g l = left_len (option_copied l.rest)

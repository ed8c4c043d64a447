use Rattle.std.specs.Option.{option_copied}
use Rattle.std.proofs.lemmas.Result.{err_from_is_err_and}
use Rattle.polynomial_text.specs.PolyLine.{with_factor, term_at}
use Rattle.polynomial_text.specs.LineReading.{factor_parts, factor_parts_left}
use Rattle.polynomial_text.proofs.LineReading.{along_next, along_stop, along_all}
use Rattle.polynomial_text.proofs.LineTerms.{sign_small, sign_begins}
use Rattle.polynomial_text.proofs.term_line.term_at.Goals as goal

pub loop-rest-init : goal.loop-rest-init
loop-rest-init g c = record {
  small = sign_small (g.F.Field.ops c.args.reader.now.field.now) (g.met.F.Field.laws c.args.reader.now.field.now) (g.O.Order.order c.args.reader.now.order.now) (g.met.O.Order.laws c.args.reader.now.order.now) c.args.minus c.sign-t.result c.sign-t.ensures.at c.sign-t.ensures.by;
  whole = sign_begins (g.F.Field.ops c.args.reader.now.field.now) (g.met.F.Field.laws c.args.reader.now.field.now) (g.O.Order.order c.args.reader.now.order.now) (g.met.O.Order.laws c.args.reader.now.order.now) c.args.reader.now.names.now c.args.minus c.args.text.now c.sign-t.result c.sign-t.ensures.at c.sign-t.ensures.by;
}

pub returns-in_err-t-clause-read : goal.returns-in_err-t-clause-read
returns-in_err-t-clause-read g c =
    let p = err_from_is_err_and c.from_residual.result c.from_residual.ensures.1 in
    rw (p.1, p.2) (along_stop (with_factor (g.F.Field.ops c.args.reader.now.field.now) (g.O.Order.order c.args.reader.now.order.now) c.args.reader.now.names.now) c.loop-rest.t (factor_parts c.in-Some.text.now) (factor_parts_left (option_copied c.factor_part.result.1)) c.factor_part.result.0.now
    (term_at (g.F.Field.ops c.args.reader.now.field.now) (g.O.Order.order c.args.reader.now.order.now) c.args.reader.now.names.now (c.args.minus, c.args.text.now)) c.in_err-t.field-0.0 c.factor_part.ensures.parts c.in_err-t.ensures.read (rw c.in-Some.is at c.loop-rest.invariant.whole))

pub loop-rest-preserved : goal.loop-rest-preserved
loop-rest-preserved g c = record {
  small = c.in_ok-t.ensures.small;
  whole = along_next (with_factor (g.F.Field.ops c.args.reader.now.field.now) (g.O.Order.order c.args.reader.now.order.now) c.args.reader.now.names.now) c.loop-rest.t c.in_ok-t.t (factor_parts c.in-Some.text.now) (factor_parts_left (option_copied c.factor_part.result.1)) c.factor_part.result.0.now
      (term_at (g.F.Field.ops c.args.reader.now.field.now) (g.O.Order.order c.args.reader.now.order.now) c.args.reader.now.names.now (c.args.minus, c.args.text.now)) c.factor_part.ensures.parts c.in_ok-t.ensures.read (rw c.in-Some.is at c.loop-rest.invariant.whole);
}

pub returns-clause-read : goal.returns-clause-read
returns-clause-read g c =
    along_all (with_factor (g.F.Field.ops c.args.reader.now.field.now) (g.O.Order.order c.args.reader.now.order.now) c.args.reader.now.names.now) c.loop-rest.t
    (term_at (g.F.Field.ops c.args.reader.now.field.now) (g.O.Order.order c.args.reader.now.order.now) c.args.reader.now.names.now (c.args.minus, c.args.text.now)) (rw c.in_default.is at c.loop-rest.invariant.whole)

use Rattle.std.specs.Option.{option_map}
use Rattle.std.proofs.lemmas.Result.{err_from_is_err_and}
use Rattle.polynomial_text.specs.PolyLine.{signed_parts}
use Rattle.polynomial_text.specs.LineReading.{signed_parts_left}
use Rattle.polynomial_text.proofs.CanonicalReading.{poly_low}
use Rattle.polynomial_text.proofs.LineAlong.{begins, goes_on, stops, ends}
use Rattle.polynomial_text.proofs.poly_line.read_poly.Goals as goal

pub loop-rest-init : goal.loop-rest-init
loop-rest-init g c =
    begins (g.F.Field.ops c.args.f.now) (g.met.F.Field.laws c.args.f.now) (g.O.Order.order c.args.o.now) c.args.names.now c.args.line.now (signed_parts c.first_text.result.minus c.first_text.result.text.now) c.new-stack.result.items c.new-stack.ensures.items c.first_text.ensures

pub returns-in_err-t-clause-fault : goal.returns-in_err-t-clause-fault
returns-in_err-t-clause-fault g c =
    let p = err_from_is_err_and c.from_residual.result c.from_residual.ensures.1 in
    rw (p.1, p.2) (stops (g.F.Field.ops c.args.f.now) (g.met.F.Field.laws c.args.f.now) (g.O.Order.order c.args.o.now) c.args.names.now c.args.line.now
    (signed_parts c.in-Some.part.minus c.in-Some.part.text.now) (signed_parts_left (option_map (λ x. (x.minus, x.text.now)) c.signed_part.result.1)) (c.in-Some.part.minus, c.signed_part.result.0.now) c.loop-rest.stack.items c.in_err-t.field-0.0
    (c.signed_part.ensures.parts c.in-Some.part.minus) c.in_err-t.ensures.read (rw c.in-Some.is at c.loop-rest.invariant))

pub loop-rest-preserved : goal.loop-rest-preserved
loop-rest-preserved g c =
    goes_on (g.F.Field.ops c.args.f.now) (g.met.F.Field.laws c.args.f.now) (g.O.Order.order c.args.o.now) c.args.names.now c.args.line.now
    (signed_parts c.in-Some.part.minus c.in-Some.part.text.now) (signed_parts_left (option_map (λ x. (x.minus, x.text.now)) c.signed_part.result.1)) (c.in-Some.part.minus, c.signed_part.result.0.now) c.in_ok-t.t c.loop-rest.stack.items c.push_term.new.stack.items
    (c.signed_part.ensures.parts c.in-Some.part.minus) c.in_ok-t.ensures.read c.in_ok-push_term.ensures.canonical c.in_ok-push_term.ensures.sum (rw c.in-Some.is at c.loop-rest.invariant)

pub returns-clause-read : goal.returns-clause-read
returns-clause-read g c =
    ends (g.F.Field.ops c.args.f.now) (g.met.F.Field.laws c.args.f.now) (g.O.Order.order c.args.o.now) c.args.names.now c.args.line.now c.loop-rest.stack.items c.in_ok-total.field-0 c.in_ok-total.ensures.canonical c.in_ok-total.ensures.sum (rw c.in_default.is at c.loop-rest.invariant)

pub returns-clause-low : goal.returns-clause-low
returns-clause-low g c =
    poly_low (g.F.Field.ops c.args.f.now) (g.met.F.Field.laws c.args.f.now) (g.O.Order.order c.args.o.now) (g.met.O.Order.laws c.args.o.now) c.args.names.now c.args.line.now c.in_ok-total.field-0 (ends (g.F.Field.ops c.args.f.now) (g.met.F.Field.laws c.args.f.now) (g.O.Order.order c.args.o.now) c.args.names.now c.args.line.now c.loop-rest.stack.items c.in_ok-total.field-0 c.in_ok-total.ensures.canonical c.in_ok-total.ensures.sum (rw c.in_default.is at c.loop-rest.invariant))

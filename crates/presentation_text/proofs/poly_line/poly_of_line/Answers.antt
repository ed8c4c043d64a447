use Rattle.polynomial_text.specs.PolyLine.{terms_of}
use Rattle.presentation_text.proofs.PolyLines.{in_text_fault}
use Rattle.presentation_text.proofs.poly_line.poly_of_line.Goals as goal

pub returns-in-Err-clause-fault : goal.returns-in-Err-clause-fault
returns-in-Err-clause-fault g c =
    rw c.fault_of.ensures (in_text_fault (terms_of (g.F.Field.ops c.args.f.now) (g.O.Order.order c.args.o.now) c.args.names.now c.args.line.now) c.in-Err.fault c.in-Err.ensures.fault)

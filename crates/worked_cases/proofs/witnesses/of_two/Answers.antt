use Rattle.std.proofs.Common.{arith}
use Rattle.word_field.specs.Residues.{residues}
use Rattle.monomial_order.specs.laws.Orders.{word_laws}
use Rattle.polynomials.specs.laws.Terms.{small_times}
use Rattle.poly_core.specs.Presentation.{weight_order_of}
use Rattle.witness.specs.Tracking.{by_order}
use Rattle.worked_cases.proofs.witnesses.of_two.Goals as goal

pub product-requires-clause-small : goal.product-requires-clause-small
product-requires-clause-small c =
    let p = c.args.p.now in
    small_times (residues p.field.modulus) (weight_order_of p.order) c.requires.valid.presentation.order c.args.a.now.value c.args.b.now.value 30000 30000 c.requires.a.low c.requires.b.low (omega arith)

pub product-requires-clause-small_by : goal.product-requires-clause-small_by
product-requires-clause-small_by c =
    let w = c.args.w.now in
    small_times (residues c.args.p.now.field.modulus) (by_order w) (word_laws w.x_degrees.items w.s_degrees.items w.x_in_range w.s_in_range) c.args.a.now.by c.args.b.now.by 30000 30000
    c.requires.a.low_by c.requires.b.low_by (omega arith)

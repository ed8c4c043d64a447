use Rattle.std.proofs.Common.{arith}
use Rattle.word_field.specs.Residues.{residues}
use Rattle.monomial_order.specs.laws.Ties.{weight_laws}
use Rattle.polynomials.specs.laws.Terms.{small_times}
use Rattle.poly_core.specs.Presentation.{weight_order_of}
use Rattle.worked_cases.proofs.operations.product.Goals as goal

pub mul-requires-clause-small : goal.mul-requires-clause-small
mul-requires-clause-small c =
    let o = c.args.p.now.order in
    small_times (residues c.args.p.now.field.modulus) (weight_order_of o) (weight_laws o.weights.items o.rows.items o.tie o.weights_in_range) c.args.a.now c.args.b.now 30000 30000 c.requires.low c.requires.low_b (omega arith)

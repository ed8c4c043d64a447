use Rattle.std.proofs.Common.{◌++◌, arith}
use Rattle.word_field.specs.Residues.{residues}
use Rattle.polynomials.specs.laws.Terms.{small_times}
use Rattle.poly_core.specs.Presentation.{weight_order_of}
use Rattle.witness.specs.Tracking.{by_order}
use Rattle.witness.specs.laws.Letters.{by_laws}
use Rattle.worked_bases.proofs.expansions.letter_product.Goals as goal

pub product-requires-clause-small : goal.product-requires-clause-small
product-requires-clause-small c =
    let p = c.args.p.now in
    small_times (residues p.field.modulus) (weight_order_of p.order) c.requires.valid.presentation.order c.args.a.now.value c.args.b.now.value 30000 30000 c.requires.low.value c.requires.low_b.value (omega arith)

pub product-requires-clause-small_by : goal.product-requires-clause-small_by
product-requires-clause-small_by c =
    small_times (residues c.args.p.now.field.modulus) (by_order c.args.w.now) (by_laws c.args.w.now) c.args.a.now.by c.args.b.now.by 30000 30000 c.requires.low.by c.requires.low_b.by (omega arith)

pub returns-clause-made : goal.returns-clause-made
returns-clause-made c fs d e x y = record {
  tracks = λ more h. c.in_ok-product.ensures.tracks (fs ++ more) (x.tracks more h) (y.tracks more h);
  graded = λ more h. c.in_ok-product.ensures.graded d e (x.graded more h) (y.graded more h);
}

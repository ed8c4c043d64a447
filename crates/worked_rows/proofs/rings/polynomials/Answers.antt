use Rattle.word_field.specs.Residues.{residues}
use Rattle.poly_core.specs.Presentation.{weight_order_of}
use Rattle.worked_rows.specs.laws.Sums.{sums_canonical}
use Rattle.worked_rows.proofs.rings.polynomials.Goals as goal

pub returns-clause-canonical : goal.returns-clause-canonical
returns-clause-canonical c =
    let a = c.in_ok-list.ensures.accepted in
    sums_canonical (residues c.args.p.now.field.modulus) (weight_order_of c.args.p.now.order) a.sums c.in_ok-list.list.items a.polys

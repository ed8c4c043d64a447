use Rattle.std.proofs.Common.{subst, sym}
use Rattle.std.specs.Prelude.{All}
use Rattle.word_field.specs.Residues.{residues}
use Rattle.poly_core.specs.Presentation.{weight_order_of}
use Rattle.worked_rows.specs.Rings.{IsIn}
use Rattle.worked_rows.specs.laws.Sums.{sums_canonical}
use Rattle.worked_texts.proofs.texts.queries.Goals as goal

pub list_text-requires-clause-canonical : goal.list_text-requires-clause-canonical
list_text-requires-clause-canonical c =
    let a = c.in-Ok.ensures.accepted in
    subst (All (IsIn c.args.p.now)) (sym c.as_slice.ensures.value)
    (sums_canonical (residues c.args.p.now.field.modulus) (weight_order_of c.args.p.now.order) a.sums c.in-Ok.list.items a.polys)

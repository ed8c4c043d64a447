use Rattle.word_field.specs.Residues.{residues}
use Rattle.poly_core.specs.Presentation.{weight_order_of}
use Rattle.poly_core.specs.laws.Text.{decreasing_values, decreasing_named}
use Rattle.worked_rows.proofs.rings.text_of.Goals as goal

pub write-requires-clause-values : goal.write-requires-clause-values
write-requires-clause-values c = decreasing_values (residues c.args.p.now.field.modulus) (weight_order_of c.args.p.now.order) c.args.a.now c.requires.canonical.decreasing

pub write-requires-clause-named : goal.write-requires-clause-named
write-requires-clause-named c =
    decreasing_named (residues c.args.p.now.field.modulus) (weight_order_of c.args.p.now.order) c.args.p.now.names c.requires.valid.names c.args.a.now c.requires.canonical.decreasing

use Rattle.word_field.specs.Residues.{residues}
use Rattle.poly_core.specs.laws.Text.{decreasing_values}
use Rattle.witness.specs.Tracking.{by_order}
use Rattle.worked_rows.specs.laws.PairedNames.{paired_named}
use Rattle.worked_cases.proofs.witnesses.texts_of.Goals as goal

pub write-requires-clause-values : goal.write-requires-clause-values
write-requires-clause-values c =
    decreasing_values (residues c.args.p.now.field.modulus) (by_order c.requires.canonical.0) c.args.t.now.by c.requires.canonical.1.by.decreasing

pub write-requires-clause-named : goal.write-requires-clause-named
write-requires-clause-named c = paired_named 103 2 115 c.args.t.now.by

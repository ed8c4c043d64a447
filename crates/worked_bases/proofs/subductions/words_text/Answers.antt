use Rattle.word_field.specs.Residues.{residues}
use Rattle.poly_core.specs.laws.Text.{decreasing_values}
use Rattle.worked_rows.specs.laws.PairedNames.{paired_named}
use Rattle.worked_bases.proofs.subductions.words_text.Goals as goal

pub write-requires-clause-values : goal.write-requires-clause-values
write-requires-clause-values c = decreasing_values (residues c.args.p.now.field.modulus) c.requires.0 c.args.e.now c.requires.1.decreasing

pub write-requires-clause-named : goal.write-requires-clause-named
write-requires-clause-named c = paired_named 120 2 115 c.args.e.now

use Rattle.worked_rows.specs.laws.PairedNames.{paired_named}
use Rattle.worked_completions.proofs.texts.sum_text.Goals as goal

pub write-requires-clause-named : goal.write-requires-clause-named
write-requires-clause-named c = paired_named c.args.first c.args.count 115 c.args.e.now

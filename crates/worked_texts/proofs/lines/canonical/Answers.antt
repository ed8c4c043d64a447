use Rattle.polynomial_text.specs.laws.Names.{names_differ}
use Rattle.worked_texts.proofs.lines.canonical.Goals as goal

pub read_canonical-requires : goal.read_canonical-requires
read_canonical-requires c = names_differ _ c.args.p.now.names c.requires.names

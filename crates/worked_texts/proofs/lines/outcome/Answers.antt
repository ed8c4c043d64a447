use Rattle.polynomial_text.specs.laws.Names.{names_differ}
use Rattle.worked_texts.proofs.lines.outcome.Goals as goal

pub read_poly-requires : goal.read_poly-requires
read_poly-requires c = names_differ _ c.args.p.now.names c.requires.names

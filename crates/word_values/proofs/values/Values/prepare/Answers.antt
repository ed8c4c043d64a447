use Rattle.word_values.proofs.values.Values.prepare.Goals as goal

pub make_path-requires-clause-making : goal.make_path-requires-clause-making
make_path-requires-clause-making g c = record { quotient = c.requires.quotient; elements = c.requires.elements; degree = c.requires.degree; small = c.requires.small }

use Rattle.worked_bases.proofs.expansions.judge_element.Goals as goal

pub text_of-requires-clause-canonical : goal.text_of-requires-clause-canonical
text_of-requires-clause-canonical c = c.requires.pair.1.value

pub witness_text-requires : goal.witness_text-requires
witness_text-requires c = (c.requires.pair.0, c.requires.pair.1.by)

use Rattle.worked_cases.proofs.witnesses.answer.Goals as goal

pub texts_of-requires-clause-canonical : goal.texts_of-requires-clause-canonical
texts_of-requires-clause-canonical c = (c.args.w.now, c.in_ok-found.ensures)

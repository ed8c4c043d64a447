use Rattle.completion.proofs.completion.Completion.limit_values.Goals as goal

pub returns : goal.returns
returns g c = rw c.set_limit.ensures c.self.view_is

use Rattle.std.proofs.Common.{sym, ◌∙◌, ap}
use Rattle.quotient_gb.proofs.quotient.Quotient.known_closed.Goals as goal

pub returns-clause-closed : goal.returns-clause-closed
returns-clause-closed g c = λ t P H h. h.closed (sym (ap (λ q. q.closed) c.self.view_is) ∙ t)

use Rattle.membership.proofs.Remainders.{is_remainder}
use Rattle.membership.proofs.queries.rests_are_remainders.Goals as goal

pub returns-clause-remainder : goal.returns-clause-remainder
returns-clause-remainder g c P b n H B R low t r k within h =
    is_remainder P H b B n R low t k r h c.words.ensures.sums
    c.closed_basis.ensures.leads c.closed_basis.ensures.all_leads c.quotients_decide.ensures.decided within

use Rattle.completion.proofs.ClosedBases.{not_closed}
use Rattle.completion.proofs.laws.later_is_open.Goals as goal

pub returns : goal.returns
returns g c P S d = not_closed P S d

use Rattle.degree_queue.proofs.Moving.{moves}
use Rattle.degree_queue.proofs.links.move_and_put.Goals as goal

pub returns : goal.returns
returns g c = moves _ _ _ _ _ _ _ _ _ _ c.move_last.ensures.from c.move_last.ensures.to c.move_last.ensures.others c.put_item.ensures

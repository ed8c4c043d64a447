use Rattle.degree_queue.proofs.Moving.{moves}
use Rattle.degree_queue.proofs.links.move_and_take.Goals as goal

pub returns-clause-moves : goal.returns-clause-moves
returns-clause-moves g c = moves _ _ _ _ _ _ _ _ _ _ c.move_last.ensures.from c.move_last.ensures.to c.move_last.ensures.others c.take_item.ensures.others

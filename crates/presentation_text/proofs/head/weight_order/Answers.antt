use Rattle.presentation_text.proofs.Weighing.{memory_alone}
use Rattle.presentation_text.proofs.head.weight_order.Goals as goal

pub unreachable-requires : goal.unreachable-requires
unreachable-requires c = c.in_default.not-Memory (memory_alone c.args.weights.now c.args.rows.now c.in-Err.fault c.requires c.in-Err.ensures.cause)

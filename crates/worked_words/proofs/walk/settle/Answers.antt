use Rattle.std.proofs.Common.{◌∙◌}
use Rattle.monomial_order.specs.Ties.{tie_order}
use Rattle.worked_words.proofs.ZeroLists.{orders_degrees}
use Rattle.worked_words.proofs.walk.settle.Goals as goal

pub settle-requires : goal.settle-requires
settle-requires c =
    orders_degrees c.in_ok-order.order.weights.items c.args.words.now.letters.degrees c.in_ok-order.order.rows.items (tie_order c.in_ok-order.order.tie)
    (c.in_ok-order.ensures.weights ∙ c.x_degrees.ensures)

use Rattle.worked_cases.proofs.SmallWords.{small_word}
use Rattle.worked_cases.proofs.orders.compared_words.Goals as goal

pub compare-requires-clause-left_degree : goal.compare-requires-clause-left_degree
compare-requires-clause-left_degree c = small_word c.args.order.now.x_degrees.items c.args.order.now.s_degrees.items c.args.a.now c.requires.x c.requires.s c.requires.left

pub compare-requires-clause-right_degree : goal.compare-requires-clause-right_degree
compare-requires-clause-right_degree c = small_word c.args.order.now.x_degrees.items c.args.order.now.s_degrees.items c.args.b.now c.requires.x c.requires.s c.requires.right

use Rattle.std.proofs.Common.{◌≡◌, [], take, map}
use Rattle.poly_core.specs.Presentation.{generator_degree, weight_order_of}
use Rattle.presentation_text.proofs.reading.gen_order.Given as goal

abbrev pub invariant-loop-p : goal.invariant-loop-p
invariant-loop-p g l = record {
  x : l.order.x_degrees.items ≡ [];
  s : l.order.s_degrees.items ≡ map (generator_degree (weight_order_of l.h.order)) (take l.p-index l.generators);
}

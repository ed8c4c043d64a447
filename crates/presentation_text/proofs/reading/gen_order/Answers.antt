use Rattle.poly_core.specs.Presentation.{weight_order_of}
use Rattle.presentation_text.proofs.GeneratorDegrees.{generator_at}
use Rattle.presentation_text.proofs.reading.gen_order.Goals as goal

pub generator_degree-requires : goal.generator_degree-requires
generator_degree-requires g c = rw c.p-item.is (generator_at (g.F.Field.ops c.args.f.now) (weight_order_of c.args.h.now.order) c.args.generators.now c.loop-p.p-index c.p-item.result c.requires c.loop-p-test.true)

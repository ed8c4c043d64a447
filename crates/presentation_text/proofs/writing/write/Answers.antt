use Rattle.poly_core.specs.Presentation.{weight_order_of}
use Rattle.presentation_text.proofs.WrittenText.{canonical_texts, written_whole}
use Rattle.presentation_text.proofs.writing.write.Goals as goal

pub push_list-requires : goal.push_list-requires
push_list-requires g c =
    canonical_texts (g.F.Field.ops c.args.p.now.field) (weight_order_of c.args.p.now.order) c.args.p.now.names c.requires.names c.args.p.now.ideal.items c.deref.result.now c.deref.ensures.value c.requires.ideal.each

pub push_list-requires-2 : goal.push_list-requires-2
push_list-requires-2 g c =
    canonical_texts (g.F.Field.ops c.args.p.now.field) (weight_order_of c.args.p.now.order) c.args.p.now.names c.requires.names c.args.p.now.generators.items c.deref-2.result.now c.deref-2.ensures.value c.requires.generators.each

pub returns : goal.returns
returns g c = (
  c.in-Listed.table,
  c.in-Listed.is,
  written_whole (g.F.Field.ops c.args.p.now.field) c.in-Listed.table c.args.p.now.names c.size.result c.weights.result.now c.args.p.now.order.weights.items c.rows.result.now c.args.p.now.order.rows.items c.tie.result c.args.p.now.order.tie c.deref.result.now c.args.p.now.ideal.items c.deref-2.result.now c.args.p.now.generators.items
      c.new-out.result.items c.push_bytes.new.out.items c.push_count.new.out.items c.push_vars.new.out.items c.push_weights.new.out.items c.push_order.new.out.items c.push_list.new.out.items c.push_list-2.new.out.items c.push_bytes-2.new.out.items
      c.in-Listed.is c.size.ensures c.weights.ensures c.rows.ensures c.tie.ensures c.deref.ensures.value c.deref-2.ensures.value
      c.new-out.ensures.items c.in_ok-push_bytes.ensures c.in_ok-push_count.ensures c.in_ok-push_vars.ensures c.in_ok-push_weights.ensures c.in_ok-push_order.ensures c.in_ok-push_list.ensures c.in_ok-push_list-2.ensures c.in_ok-push_bytes-2.ensures,
)

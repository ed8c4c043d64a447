use Rattle.outputs.proofs.Completed.{relations_printed}
use Rattle.outputs.proofs.relation_lines.run_relations.Goals as goal

pub push_relations-requires : goal.push_relations-requires
push_relations-requires g c = record {
  printable = rw (c.places.ensures, c.presentation-p.ensures) c.relations.ensures.printable;
}

pub returns : goal.returns
returns g c =
    relations_printed g.F.Field.ops g.O.Order.order c.args.c.now.presentation c.args.bound c.complete.new.c
    c.in_ok-complete.ensures c.push_relations.new.text.items
    (rw (c.new-text.ensures.items, c.places.ensures, c.presentation-p.ensures, c.relations.ensures.value)
    at c.in_ok-push_relations.ensures)

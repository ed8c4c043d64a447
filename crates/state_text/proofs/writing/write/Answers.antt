use Rattle.std.proofs.Common.{refl, ap, List, length, ◌∙◌, arith}
use Rattle.completion.specs.LetterNames.{witness_names}
use Rattle.polynomials.specs.Polynomial.{Polynomial}
use Rattle.poly_core.specs.Presentation.{presented, weight_order_of}
use Rattle.state_text.specs.declared.version.Version.TheVariants.{Two}
use Rattle.state_text.proofs.Written.{written}
use Rattle.state_text.proofs.Printable.{due_elements_printable, due_relations_printable}
use Rattle.state_text.proofs.writing.write.Goals as goal

pub push_elements-requires : goal.push_elements-requires
push_elements-requires g c = record {
  printable = rw (c.letters_behind-letters.ensures, c.deref.ensures.value)
      (due_elements_printable g.F.Field.ops c.args.p.now c.requires.valid c.args.degree c.args.elements.now c.requires.elements);
}

pub push_relations-requires : goal.push_relations-requires
push_relations-requires g c =
    let P = presented g.F.Field.ops weight_order_of c.args.p.now in
    record {
      printable = rw c.places.ensures
          (due_relations_printable P c.requires.valid.presentation Two c.args.degree c.args.elements.now c.requires.elements
          c.args.relations.now c.requires.relations);
    }

pub returns : goal.returns
returns g c =
    let p = c.args.p.now in
    let P = presented g.F.Field.ops weight_order_of p in
    let heading = c.in_ok-text.ensures in
    record {
      due = record {
        some = c.requires.some;
        small = c.requires.small;
        elements = c.requires.elements;
        counted = omega arith;
        count = c.in_ok-fits.ensures;
        relations = c.requires.relations;
        relations_counted = omega arith;
        relation_count = c.in_ok-fits-2.ensures;
      };
      all = refl;
      all_relations = refl;
      head = heading.head;
      presentation = heading.presentation;
      is = written P p.names c.args.degree c.args.elements.now c.args.relations.now heading.head
          _ _ _ _ heading.is _ (c.letters_behind-letters.ensures ∙ ap (λ (x : List (Polynomial g.row.F-Elem.Denot)). witness_names (length x)) c.deref.ensures.value)
          c.in_ok-push_elements.ensures _ c.places.ensures c.in_ok-push_relations.ensures c.in_ok-extend_from_slice.ensures.items;
    }

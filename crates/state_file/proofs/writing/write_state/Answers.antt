use Rattle.std.proofs.Common.{refl}
use Rattle.std.proofs.lemmas.Result.{IfOk-weaker}
use Rattle.poly_core.specs.Presentation.{presented, weight_order_of}
use Rattle.state_file.proofs.DueElements.{due_elements, due_relations}
use Rattle.state_file.proofs.writing.write_state.Goals as goal

pub write-requires-clause-elements : goal.write-requires-clause-elements
write-requires-clause-elements g c =
    let s = c.args.c.now in
    let P = presented g.F.Field.ops weight_order_of s.presentation in
    let C = c.requires.completion in
    rw (c.presentation.ensures, c.closed_degree.ensures, c.basis.ensures.value)
    (due_elements P C.presentation.presentation s.basis C.standing.basis s.degree
    (C.standing.at_degree c.requires.not_begun).reduced)

pub write-requires-clause-relations : goal.write-requires-clause-relations
write-requires-clause-relations g c =
    let s = c.args.c.now in
    let P = presented g.F.Field.ops weight_order_of s.presentation in
    let C = c.requires.completion in
    let D = C.standing.at_degree c.requires.not_begun in
    rw (c.presentation.ensures, c.closed_degree.ensures, c.basis.ensures.value, c.relations.ensures.value)
    (due_relations P C.presentation.presentation s.basis C.standing.basis s.degree D.reduced s.relations D.relations)

pub returns : goal.returns
returns g c =
    let s = c.args.c.now in
    let P = presented g.F.Field.ops weight_order_of s.presentation in
    let C = c.requires.completion in
    let D = C.standing.at_degree c.requires.not_begun in
    IfOk-weaker c.write.result _ _
    (λ text k. record {
      lines = k;
      exact = record {
        degree = refl;
        reduced = D.reduced;
        tracks = λ i t l. (C.standing.basis.elements i t l).tracked.tracks;
        relations = D.relations;
      };
    })
    (rw (c.presentation.ensures, c.closed_degree.ensures, c.basis.ensures.value, c.relations.ensures.value)
    at c.write.ensures)

use Rattle.std.proofs.Common.{arith}
use Rattle.completion.proofs.Generators.{can_subduce, degree_is, generator_rest}
use Rattle.completion.proofs.insertion.rest_of_generator.Goals as goal

pub subduce_with-requires-clause-can : goal.subduce_with-requires-clause-can
subduce_with-requires-clause-can g c =
    can_subduce _ c.requires.presentation.presentation _ c.requires.basis c.args.i c.requires.generator c.in_ok-t.t
    c.in_ok-t.ensures.value
    (c.in_ok-t.ensures.canonical c.args.basis.now.by_order c.requires.presentation)

pub returns-in_err-rest-clause-words : goal.returns-in_err-rest-clause-words
returns-in_err-rest-clause-words g c d l k =
    let e = degree_is _ c.requires.presentation.presentation _ c.requires.basis c.args.i c.requires.generator
    c.in_ok-t.t c.in_ok-t.ensures.value
    (c.in_ok-t.ensures.canonical c.args.basis.now.by_order c.requires.presentation) in
    c.subduce_with.ensures.words d (omega arith) k

pub returns-clause-words : goal.returns-clause-words
returns-clause-words g c d l k =
    let e = degree_is _ c.requires.presentation.presentation _ c.requires.basis c.args.i c.requires.generator
    c.in_ok-t.t c.in_ok-t.ensures.value
    (c.in_ok-t.ensures.canonical c.args.basis.now.by_order c.requires.presentation) in
    c.subduce_with.ensures.words d (omega arith) k

pub returns-clause-rest : goal.returns-clause-rest
returns-clause-rest g c =
    generator_rest _ c.requires.presentation.presentation _ c.requires.basis c.args.i c.requires.generator c.in_ok-t.t
    c.in_ok-t.ensures.value
    (c.in_ok-t.ensures.canonical c.args.basis.now.by_order c.requires.presentation) c.in_ok-rest.field-0
    c.in_ok-rest.ensures.subduced
    c.in_ok-t.ensures.by (c.in_ok-t.ensures.tracks _)
    (c.in_ok-t.ensures.graded _ c.args.basis.now.by_order c.requires.presentation c.requires.basis.by_order)

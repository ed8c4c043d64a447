use Rattle.std.proofs.Common.{arith}
use Rattle.poly_core.specs.Presentation.{presented}
use Rattle.witness.specs.Tracking.{values_of}
use Rattle.subduction.proofs.Loop.{after_term, term_degree, term_falls, term_reach, term_small, term_standard, work_canonical}
use Rattle.subduction.proofs.Steps.{start}
use Rattle.subduction.proofs.word_step.take_words.Goals as goal
use Rattle.linked_terms.specs.laws.Popping.{popped}

pub subduce-init : goal.subduce-init
subduce-init g c =
    let P = presented g.F.Field.ops g.O.Order.order c.args.p.now in
    let S = values_of c.args.b.now.elements in
    ((rw (c.in_ok-work.ensures, c.new.ensures.items, c.new-2.ensures.items) (start P c.requires.presentation.presentation S c.args.a.now c.requires.canonical c.requires.standard)), (c.requires.values, λ d l i. i))

pub take_term-requires-clause-values : goal.take_term-requires-clause-values
take_term-requires-clause-values g c = c.subduce.invariant.1.0

pub take_term-requires-clause-work : goal.take_term-requires-clause-work
take_term-requires-clause-work g c =
    let P = presented g.F.Field.ops g.O.Order.order c.args.p.now in
    let inv = rw (popped c.subduce.work c.pop_lead.new.self c.in-Some.term c.in-Some.ensures) at c.subduce.invariant in
    work_canonical P c.requires.presentation.presentation c.args.b.now c.requires.basis c.args.a.now c.requires.canonical c.subduce.parts.words.items c.subduce.parts.rest.items c.in-Some.term c.pop_lead.new.self.terms inv.0

pub take_term-requires-clause-standard : goal.take_term-requires-clause-standard
take_term-requires-clause-standard g c =
    let P = presented g.F.Field.ops g.O.Order.order c.args.p.now in
    let inv = rw (popped c.subduce.work c.pop_lead.new.self c.in-Some.term c.in-Some.ensures) at c.subduce.invariant in
    term_standard P c.requires.presentation.presentation c.args.b.now c.requires.basis c.args.a.now c.requires.canonical c.subduce.parts.words.items c.subduce.parts.rest.items c.in-Some.term c.pop_lead.new.self.terms inv.0

pub take_term-requires-clause-small : goal.take_term-requires-clause-small
take_term-requires-clause-small g c =
    let P = presented g.F.Field.ops g.O.Order.order c.args.p.now in
    let inv = rw (popped c.subduce.work c.pop_lead.new.self c.in-Some.term c.in-Some.ensures) at c.subduce.invariant in
    term_small P c.requires.presentation.presentation c.args.b.now c.requires.basis c.args.a.now c.requires.canonical c.subduce.parts.words.items c.subduce.parts.rest.items c.in-Some.term c.pop_lead.new.self.terms inv.0 c.requires.small

pub take_term-requires-clause-reach : goal.take_term-requires-clause-reach
take_term-requires-clause-reach g c =
    let P = presented g.F.Field.ops g.O.Order.order c.args.p.now in
    let inv = rw (popped c.subduce.work c.pop_lead.new.self c.in-Some.term c.in-Some.ensures) at c.subduce.invariant in
    term_reach P c.requires.presentation.presentation c.args.b.now c.requires.basis c.args.a.now c.requires.canonical c.subduce.parts.words.items c.subduce.parts.rest.items c.in-Some.term c.pop_lead.new.self.terms inv.0 c.requires.reach

pub returns-in_err-take_term-clause-words : goal.returns-in_err-take_term-clause-words
returns-in_err-take_term-clause-words g c d l i =
    let P = presented g.F.Field.ops g.O.Order.order c.args.p.now in
    let inv = rw (popped c.subduce.work c.pop_lead.new.self c.in-Some.term c.in-Some.ensures) at c.subduce.invariant in
    let x = term_degree P c.requires.presentation.presentation c.args.b.now c.requires.basis c.args.a.now c.requires.canonical c.subduce.parts.words.items c.subduce.parts.rest.items c.in-Some.term c.pop_lead.new.self.terms inv.0 in
    c.take_term.ensures.words d (omega arith) (inv.1.1 d l i)

pub subduce-smaller : goal.subduce-smaller
subduce-smaller g c =
    let P = presented g.F.Field.ops g.O.Order.order c.args.p.now in
    let e = popped c.subduce.work c.pop_lead.new.self c.in-Some.term c.in-Some.ensures in
    let inv = rw e at c.subduce.invariant in
    rw e
    (term_falls P c.requires.presentation.presentation c.args.b.now c.requires.basis c.args.a.now c.requires.canonical c.subduce.parts.words.items c.subduce.parts.rest.items c.in-Some.term c.pop_lead.new.self.terms inv.0
    c.take_term.new.work.terms c.take_term.new.parts.words.items c.take_term.new.parts.rest.items c.in_ok-take_term.ensures.taken)

pub subduce-preserved : goal.subduce-preserved
subduce-preserved g c =
    let P = presented g.F.Field.ops g.O.Order.order c.args.p.now in
    let inv = rw (popped c.subduce.work c.pop_lead.new.self c.in-Some.term c.in-Some.ensures) at c.subduce.invariant in
    let x = term_degree P c.requires.presentation.presentation c.args.b.now c.requires.basis c.args.a.now c.requires.canonical c.subduce.parts.words.items c.subduce.parts.rest.items c.in-Some.term c.pop_lead.new.self.terms inv.0 in (
      after_term P c.requires.presentation.presentation c.args.b.now c.requires.basis c.args.a.now c.requires.canonical c.subduce.parts.words.items c.subduce.parts.rest.items c.in-Some.term c.pop_lead.new.self.terms inv.0
          c.take_term.new.work.terms c.take_term.new.parts.words.items c.take_term.new.parts.rest.items c.in_ok-take_term.ensures.taken,
      (c.take_term.ensures.values, λ d l i. c.take_term.ensures.words d (omega arith) (inv.1.1 d l i)),
    )

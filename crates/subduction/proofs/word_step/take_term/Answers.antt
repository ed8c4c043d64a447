use Rattle.std.proofs.Common.{subst, arith}
use Rattle.poly_core.specs.Presentation.{presented}
use Rattle.word_laws.specs.Words.{IsLeast}
use Rattle.subalgebra_laws.specs.Words.{letters}
use Rattle.witness.specs.Tracking.{values_of}
use Rattle.subduction.proofs.Elements.{homogeneous_elements, monic_elements}
use Rattle.subduction.proofs.Loop.{word_degree_is, word_reach, word_small}
use Rattle.subduction.proofs.word_step.take_term.Goals as goal

pub take_value-requires-clause-monic : goal.take_value-requires-clause-monic
take_value-requires-clause-monic g c =
    let P = presented g.F.Field.ops g.O.Order.order c.args.p.now in
    rw c.elements.ensures (monic_elements P c.requires.presentation.presentation c.args.b.now c.requires.basis)

pub take_value-requires-clause-homogeneous : goal.take_value-requires-clause-homogeneous
take_value-requires-clause-homogeneous g c =
    let P = presented g.F.Field.ops g.O.Order.order c.args.p.now in
    rw c.elements.ensures (homogeneous_elements P c.requires.presentation.presentation c.args.b.now c.requires.basis)

pub take_value-requires-clause-values : goal.take_value-requires-clause-values
take_value-requires-clause-values g c = rw c.elements.ensures c.requires.values

pub take_value-requires-clause-small : goal.take_value-requires-clause-small
take_value-requires-clause-small g c =
    let P = presented g.F.Field.ops g.O.Order.order c.args.p.now in
    let S = values_of c.args.b.now.elements in
    let k : IsLeast (letters P S) c.args.term.at c.in-Some.w = subst (λ L. IsLeast L c.args.term.at c.in-Some.w) c.requires.basis.letters ((rw c.in-Some.is at c.in_ok-w.ensures.least)) in
    rw c.elements.ensures (word_small P c.requires.presentation.presentation c.args.b.now c.requires.basis c.args.term c.requires.standard c.in-Some.w k c.requires.small)

pub take_value-requires-clause-reach : goal.take_value-requires-clause-reach
take_value-requires-clause-reach g c =
    let P = presented g.F.Field.ops g.O.Order.order c.args.p.now in
    let S = values_of c.args.b.now.elements in
    let k : IsLeast (letters P S) c.args.term.at c.in-Some.w = subst (λ L. IsLeast L c.args.term.at c.in-Some.w) c.requires.basis.letters ((rw c.in-Some.is at c.in_ok-w.ensures.least)) in
    rw (c.elements.ensures, c.quotient.ensures) (word_reach P c.requires.presentation.presentation c.args.b.now c.requires.basis c.args.term c.requires.standard c.in-Some.w k c.requires.reach)

pub returns-in_err-take_value-clause-values : goal.returns-in_err-take_value-clause-values
returns-in_err-take_value-clause-values g c = rw c.elements.ensures at c.take_value.ensures.values

pub returns-in_err-take_value-clause-words : goal.returns-in_err-take_value-clause-words
returns-in_err-take_value-clause-words g c d l i =
    let P = presented g.F.Field.ops g.O.Order.order c.args.p.now in
    let S = values_of c.args.b.now.elements in
    let k : IsLeast (letters P S) c.args.term.at c.in-Some.w = subst (λ L. IsLeast L c.args.term.at c.in-Some.w) c.requires.basis.letters ((rw c.in-Some.is at c.in_ok-w.ensures.least)) in
    let e = word_degree_is P c.requires.presentation.presentation c.args.b.now c.requires.basis c.args.term c.requires.standard c.in-Some.w k in
    (rw c.elements.ensures at c.take_value.ensures.words) d i (omega arith)

pub returns-in_err-push-2-clause-values : goal.returns-in_err-push-2-clause-values
returns-in_err-push-2-clause-values g c = rw c.elements.ensures at c.take_value.ensures.values

pub returns-in_err-push-2-clause-words : goal.returns-in_err-push-2-clause-words
returns-in_err-push-2-clause-words g c d l i =
    let P = presented g.F.Field.ops g.O.Order.order c.args.p.now in
    let S = values_of c.args.b.now.elements in
    let k : IsLeast (letters P S) c.args.term.at c.in-Some.w = subst (λ L. IsLeast L c.args.term.at c.in-Some.w) c.requires.basis.letters ((rw c.in-Some.is at c.in_ok-w.ensures.least)) in
    let e = word_degree_is P c.requires.presentation.presentation c.args.b.now c.requires.basis c.args.term c.requires.standard c.in-Some.w k in
    (rw c.elements.ensures at c.take_value.ensures.words) d i (omega arith)

pub returns-clause-values : goal.returns-clause-values
returns-clause-values g c = rw c.elements.ensures at c.take_value.ensures.values

pub returns-clause-words : goal.returns-clause-words
returns-clause-words g c d l i =
    let P = presented g.F.Field.ops g.O.Order.order c.args.p.now in
    let S = values_of c.args.b.now.elements in
    let k : IsLeast (letters P S) c.args.term.at c.in-Some.w = subst (λ L. IsLeast L c.args.term.at c.in-Some.w) c.requires.basis.letters ((rw c.in-Some.is at c.in_ok-w.ensures.least)) in
    let e = word_degree_is P c.requires.presentation.presentation c.args.b.now c.requires.basis c.args.term c.requires.standard c.in-Some.w k in
    (rw c.elements.ensures at c.take_value.ensures.words) d i (omega arith)

use Rattle.std.proofs.Common.{inl, refl, arith, ◌≡◌}
use Rattle.poly_core.specs.Presentation.{presented}
use Rattle.polynomials.specs.Polynomial.{degree_of}
use Rattle.witness.specs.Tracking.{values_of}
use Rattle.membership.proofs.Reach.{degree_is, zero_low}
use Rattle.membership.proofs.queries.degree_beyond.Goals as goal

pub returns-in_default-clause-within : goal.returns-in_default-clause-within
returns-in_default-clause-within g c =
    let P = presented g.F.Field.ops g.O.Order.order c.args.c.now.presentation in
    inl (zero_low P c.requires.completion.presentation.presentation c.args.a.now
    (c.in_default.ensures.zero.0 refl) c.args.c.now.degree)

pub returns-in_default-clause-reach : goal.returns-in_default-clause-reach
returns-in_default-clause-reach g c =
    let P = presented g.F.Field.ops g.O.Order.order c.args.c.now.presentation in
    inl (zero_low P c.requires.completion.presentation.presentation c.args.a.now
    (c.in_default.ensures.zero.0 refl) c.args.c.now.basis.words.degree)

pub returns-then-degree-closed_degree-clause-within : goal.returns-then-degree-closed_degree-clause-within
returns-then-degree-closed_degree-clause-within g c =
    let P = presented g.F.Field.ops g.O.Order.order c.args.c.now.presentation in
    let e : degree_of P.order c.args.a.now ≡ c.in-Some.degree =
    degree_is P c.requires.completion.presentation.presentation c.args.a.now c.requires.canonical c.in-Some.degree
    ((rw c.presentation.ensures at c.in-Some.ensures.greatest) c.args.c.now.presentation.field c.requires.canonical) in
    let t = c.if-degree-closed_degree.true in
    let n = c.closed_degree.ensures in
    inl (omega arith)

pub returns-then-degree-closed_degree-clause-reach : goal.returns-then-degree-closed_degree-clause-reach
returns-then-degree-closed_degree-clause-reach g c =
    let P = presented g.F.Field.ops g.O.Order.order c.args.c.now.presentation in
    let e : degree_of P.order c.args.a.now ≡ c.in-Some.degree =
    degree_is P c.requires.completion.presentation.presentation c.args.a.now c.requires.canonical c.in-Some.degree
    ((rw c.presentation.ensures at c.in-Some.ensures.greatest) c.args.c.now.presentation.field c.requires.canonical) in
    let t = c.if-degree-closed_degree.true in
    let n = c.closed_degree.ensures in
    let w = (c.requires.completion.standing.at_degree c.requires.not_begun).words.0 in
    inl (omega arith)

pub returns-clause-beyond : goal.returns-clause-beyond
returns-clause-beyond g c =
    let P = presented g.F.Field.ops g.O.Order.order c.args.c.now.presentation in
    let e : degree_of P.order c.args.a.now ≡ c.in-Some.degree =
    degree_is P c.requires.completion.presentation.presentation c.args.a.now c.requires.canonical c.in-Some.degree
    ((rw c.presentation.ensures at c.in-Some.ensures.greatest) c.args.c.now.presentation.field c.requires.canonical) in
    let f = c.if-degree-closed_degree.false in
    let n = c.closed_degree.ensures in
    record {
      degree = e;
      above = omega arith;
      not_closed = c.later_is_open.ensures P (values_of c.args.c.now.basis.elements) c.args.c.now.degree
          (c.in_ok-is_complete.ensures.no c.if-branch.false);
    }

pub returns-clause-later : goal.returns-clause-later
returns-clause-later g c = c.in_ok-is_complete.ensures.no c.if-branch.false

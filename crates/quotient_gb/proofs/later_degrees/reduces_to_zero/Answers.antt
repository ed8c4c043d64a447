use Rattle.std.proofs.Common.{◌∙◌, ap, sym, length}
use Rattle.std.specs.Prelude.{nat_eq}
use Rattle.poly_core.specs.Presentation.{presented}
use Rattle.quotient_gb.proofs.EveryDegree.{basis_reducers, first_reducer, second_reducer, top_small, pair_to_zero, pair_to_lead}
use Rattle.quotient_gb.proofs.Places.{empty_is, not_empty_is}
use Rattle.quotient_gb.proofs.later_degrees.reduces_to_zero.Goals as goal

pub s_polynomial-requires : goal.s_polynomial-requires
s_polynomial-requires g c =
    let P = presented g.F.Field.ops g.O.Order.order c.args.p.now in
    let H = c.requires.presentation in
    let b = c.args.basis.now in
    let h = c.requires.basis in
    let w = c.args.pair.now in
    let x = c.index.result.now in
    let y = c.index-2.result.now in
    record {
      presentation = H;
      g = first_reducer P H b h.0 h.1 h.2 w c.requires.pair x y (sym c.index.ensures) (sym c.index-2.ensures);
      h = second_reducer P H b h.0 h.1 h.2 w c.requires.pair x y (sym c.index.ensures) (sym c.index-2.ensures);
      small = top_small P H b h.0 h.1 h.2 w c.requires.pair x y (sym c.index.ensures) (sym c.index-2.ensures);
    }

pub remainder_by-requires-clause-reducers : goal.remainder_by-requires-clause-reducers
remainder_by-requires-clause-reducers g c =
    let h = c.requires.basis in basis_reducers (presented g.F.Field.ops g.O.Order.order c.args.p.now) c.requires.presentation c.args.basis.now h.0 h.1 h.2

pub returns-clause-yes : goal.returns-clause-yes
returns-clause-yes g c = λ t.
    let h = c.requires.basis in
    let rest = c.in_ok-rest.rest in
    pair_to_zero (presented g.F.Field.ops g.O.Order.order c.args.p.now) c.requires.presentation c.args.basis.now h.0 h.1 h.2 c.args.pair.now c.requires.pair
    c.index.result.now c.index-2.result.now (sym c.index.ensures) (sym c.index-2.ensures) c.in_ok-a.a c.in_ok-a.ensures.canonical.decreasing c.in_ok-a.ensures.difference rest c.in_ok-rest.ensures
    (empty_is rest c.is_empty.result (c.is_empty.ensures ∙ ap (λ xs. nat_eq (length xs) 0) c.terms.ensures) t)

pub returns-clause-no : goal.returns-clause-no
returns-clause-no g c = λ t.
    let h = c.requires.basis in
    let rest = c.in_ok-rest.rest in
    pair_to_lead (presented g.F.Field.ops g.O.Order.order c.args.p.now) c.requires.presentation c.args.basis.now h.0 h.1 h.2 c.args.pair.now c.requires.pair
    c.index.result.now c.index-2.result.now (sym c.index.ensures) (sym c.index-2.ensures) c.in_ok-a.a c.in_ok-a.ensures.canonical.decreasing c.in_ok-a.ensures.difference rest c.in_ok-rest.ensures
    (not_empty_is rest c.is_empty.result (c.is_empty.ensures ∙ ap (λ xs. nat_eq (length xs) 0) c.terms.ensures) t)

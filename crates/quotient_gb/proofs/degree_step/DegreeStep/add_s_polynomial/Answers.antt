use Rattle.std.proofs.Common.{◌≤◌, ◌≡◌, ℕ, sym, arith, rules}
use Rattle.monomial_order.specs.Monomial.{least_common_multiple}
use Rattle.polynomials.specs.Polynomial.{lead_monomial}
use Rattle.poly_core.specs.Presentation.{presented}
use Rattle.quotient_gb.proofs.SPolynomials.{first_within, second_within, first_in, second_in, lcm_degree, inside, at_most, reduced}
use Rattle.quotient_gb.proofs.Steps.{reducers}
use Rattle.quotient_gb.proofs.degree_step.DegreeStep.add_s_polynomial.Goals as goal

small : (a b d : ℕ) → a ≡ b → a ≡ d → d ≤ 30000 → b ≤ 65535
small a b d e f l = omega arith

pub index-requires : goal.index-requires
index-requires g c = let l = first_within (presented g.F.Field.ops g.O.Order.order c.args.p.now) c.requires.step.presentation c.args.before.now c.args.self.now c.requires.step c.args.pair.now c.requires.pair in search rules

pub index-requires-2 : goal.index-requires-2
index-requires-2 g c = let l = second_within (presented g.F.Field.ops g.O.Order.order c.args.p.now) c.requires.step.presentation c.args.before.now c.args.self.now c.requires.step c.args.pair.now c.requires.pair in search rules

pub s_polynomial-requires : goal.s_polynomial-requires
s_polynomial-requires g c =
    let P = presented g.F.Field.ops g.O.Order.order c.args.p.now in
    let H = c.requires.step.presentation in
    let b = c.args.before.now in
    let s = c.args.self.now in
    let h = c.requires.step in
    let x = c.index.result.now in
    let y = c.index-2.result.now in
    record {
      presentation = H;
      g = reducers P H b s h x (first_in P H b s h c.args.pair.now c.requires.pair x y (sym c.index.ensures) (sym c.index-2.ensures));
      h = reducers P H b s h y (second_in P H b s h c.args.pair.now c.requires.pair x y (sym c.index.ensures) (sym c.index-2.ensures));
      small = small c.args.pair.now.degree (P.order.degree (least_common_multiple (lead_monomial x) (lead_monomial y))) s.degree
          (lcm_degree P H b s h c.args.pair.now c.requires.pair x y (sym c.index.ensures) (sym c.index-2.ensures)) c.requires.degree h.small;
    }

pub reduce_and_insert-requires : goal.reduce_and_insert-requires
reduce_and_insert-requires g c =
    let P = presented g.F.Field.ops g.O.Order.order c.args.p.now in
    let H = c.requires.step.presentation in
    let b = c.args.before.now in
    let s = c.args.self.now in
    let h = c.requires.step in
    let a = c.in_ok-a.a in
    record {
      step = h;
      canonical = c.in_ok-a.ensures.canonical;
      inside = inside P H b s h c.args.pair.now c.requires.pair c.index.result.now c.index-2.result.now (sym c.index.ensures) (sym c.index-2.ensures) a c.in_ok-a.ensures.canonical.decreasing c.in_ok-a.ensures.difference;
      at_most = at_most P H b s h c.args.pair.now c.requires.pair c.index.result.now c.index-2.result.now (sym c.index.ensures) (sym c.index-2.ensures) a c.in_ok-a.ensures.canonical.decreasing c.in_ok-a.ensures.difference c.requires.degree;
    }

pub returns-clause-reduces : goal.returns-clause-reduces
returns-clause-reduces g c =
    reduced (presented g.F.Field.ops g.O.Order.order c.args.p.now) c.requires.step.presentation c.args.before.now c.args.self.now c.requires.step c.args.pair.now c.requires.pair c.index.result.now c.index-2.result.now (sym c.index.ensures) (sym c.index-2.ensures)
    c.in_ok-a.a c.in_ok-a.ensures.canonical.decreasing c.in_ok-a.ensures.difference c.reduce_and_insert.new.self c.in_ok-reduce_and_insert.ensures.reduces

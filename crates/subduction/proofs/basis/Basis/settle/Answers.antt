use Rattle.std.proofs.Common.{sym, refl}
use Rattle.poly_core.specs.Presentation.{presented}
use Rattle.subduction.proofs.SettledBasis.{comparable, count_is, count_within, last_canonical, last_comparable}
use Rattle.subduction.proofs.SettledWhole.{basis, number_last, orders, settled, short}
use Rattle.subduction.proofs.basis.Basis.settle.Goals as goal

pub lower_count-count-requires : goal.lower_count-count-requires
lower_count-count-requires g c =
    let P = presented g.F.Field.ops g.O.Order.order c.args.p.now in
    let B = rw (sym c.self.view_is) at c.requires.basis in
    let p = B.parts in
    rw c.leads.ensures.same (comparable P c.requires.presentation.presentation _ B p.0 p.1 p.2)

pub split_at-requires : goal.split_at-requires
split_at-requires g c =
    let P = presented g.F.Field.ops g.O.Order.order c.args.p.now in
    let B = rw (sym c.self.view_is) at c.requires.basis in
    let p = B.parts in
    let H = c.requires.presentation.presentation in
    rw c.as_slice.ensures.value (count_within P H _ B p.0 p.1 p.2 c.lower_count-count.result
    (count_is P H _ B p.0 p.1 p.2 c.lower_count-count.result c.degree.result c.leads.result.now c.leads.ensures.same c.degree.ensures c.lower_count-count.ensures))

pub settle-requires : goal.settle-requires
settle-requires g c =
    let P = presented g.F.Field.ops g.O.Order.order c.args.p.now in
    let B = rw (sym c.self.view_is) at c.requires.basis in
    orders P c.requires.presentation.presentation _ B

pub reduced_by_each_other-requires-clause-elements : goal.reduced_by_each_other-requires-clause-elements
reduced_by_each_other-requires-clause-elements g c =
    let P = presented g.F.Field.ops g.O.Order.order c.args.p.now in
    let B = rw (sym c.self.view_is) at c.requires.basis in
    let p = B.parts in
    rw c.split_at.ensures.back (rw c.as_slice.ensures.value (last_canonical P c.requires.presentation.presentation _ B p.0 p.1 p.2 c.lower_count-count.result))

pub reduced_by_each_other-requires-clause-comparable : goal.reduced_by_each_other-requires-clause-comparable
reduced_by_each_other-requires-clause-comparable g c =
    let P = presented g.F.Field.ops g.O.Order.order c.args.p.now in
    let B = rw (sym c.self.view_is) at c.requires.basis in
    let p = B.parts in
    rw c.split_at-2.ensures.back (rw c.leads-2.ensures.same (last_comparable P c.requires.presentation.presentation _ B p.0 p.1 p.2 c.lower_count-count.result))

pub put_last-requires : goal.put_last-requires
put_last-requires g c =
    let P = presented g.F.Field.ops g.O.Order.order c.args.p.now in
    let H = c.requires.presentation.presentation in
    let B = rw (sym c.self.view_is) at c.requires.basis in
    let p = B.parts in
    let n = c.lower_count-count.result in
    let at = count_is P H _ B p.0 p.1 p.2 n c.degree.result c.leads.result.now c.leads.ensures.same c.degree.ensures c.lower_count-count.ensures in
    let made = rw c.leads-2.ensures.same at (rw c.as_slice.ensures.value at (rw c.split_at-2.ensures.back at (rw c.split_at.ensures.back at c.in_ok-new.ensures))) in
    number_last P H _ B p.0 p.1 p.2 n at c.in_ok-new.new.items made

pub returns-clause-settled : goal.returns-clause-settled
returns-clause-settled g c =
    let P = presented g.F.Field.ops g.O.Order.order c.args.p.now in
    let H = c.requires.presentation.presentation in
    let B = rw (sym c.self.view_is) at c.requires.basis in
    let p = B.parts in
    let n = c.lower_count-count.result in
    let at = count_is P H _ B p.0 p.1 p.2 n c.degree.result c.leads.result.now c.leads.ensures.same c.degree.ensures c.lower_count-count.ensures in
    let made = rw c.leads-2.ensures.same at (rw c.as_slice.ensures.value at (rw c.split_at-2.ensures.back at (rw c.split_at.ensures.back at c.in_ok-new.ensures))) in
    rw (sym c.self.view_is) (settled P H _ B p.0 p.1 p.2 n at c.in_ok-new.new.items made c.put_last.new.elements.items c.put_last.ensures)

pub returns-clause-short : goal.returns-clause-short
returns-clause-short g c =
    let P = presented g.F.Field.ops g.O.Order.order c.args.p.now in
    let H = c.requires.presentation.presentation in
    let B = rw (sym c.self.view_is) at c.requires.basis in
    let p = B.parts in
    let n = c.lower_count-count.result in
    let at = count_is P H _ B p.0 p.1 p.2 n c.degree.result c.leads.result.now c.leads.ensures.same c.degree.ensures c.lower_count-count.ensures in
    let made = rw c.leads-2.ensures.same at (rw c.as_slice.ensures.value at (rw c.split_at-2.ensures.back at (rw c.split_at.ensures.back at c.in_ok-new.ensures))) in
    rw (sym c.self.view_is) (short P H _ B p.0 p.1 p.2 n at c.in_ok-new.new.items made c.put_last.new.elements.items c.put_last.ensures)

pub returns-clause-basis : goal.returns-clause-basis
returns-clause-basis g c =
    let P = presented g.F.Field.ops g.O.Order.order c.args.p.now in
    let H = c.requires.presentation.presentation in
    let B = rw (sym c.self.view_is) at c.requires.basis in
    let p = B.parts in
    let n = c.lower_count-count.result in
    let at = count_is P H _ B p.0 p.1 p.2 n c.degree.result c.leads.result.now c.leads.ensures.same c.degree.ensures c.lower_count-count.ensures in
    let made = rw c.leads-2.ensures.same at (rw c.as_slice.ensures.value at (rw c.split_at-2.ensures.back at (rw c.split_at.ensures.back at c.in_ok-new.ensures))) in
    let s = c.in_ok-settle.ensures in
    basis P H _ B p.0 p.1 p.2 n at c.in_ok-new.new.items made (c.uniqueness.ensures.lists P H) _ c.put_last.ensures refl refl c.leads-listed.ensures.listing s.x s.zeros s.degree s.settled

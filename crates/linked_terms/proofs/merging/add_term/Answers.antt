use Rattle.std.proofs.Common.{◌≡◌, ◌-◌, ◌++◌, ◌∷◌, [], refl, subst}
use Rattle.polynomials.specs.Polynomial.{term_of, IsDecreasing}
use Rattle.polynomials.specs.laws.Terms.{canonical_measured, canonical_right, decreasing_values, IsDecreasing-right}
use Rattle.linked_terms.proofs.Adding.{added_new, added_found}
use Rattle.linked_terms.proofs.merging.add_term.Goals as goal

pub seek-requires-clause-list : goal.seek-requires-clause-list
seek-requires-clause-list g c =
    canonical_measured (g.F.Field.ops c.args.f.now) (g.O.Order.order c.args.o.now) c.args.list.now.after
    (canonical_right (g.F.Field.ops c.args.f.now) (g.O.Order.order c.args.o.now) c.args.list.now.before c.args.list.now.after c.requires.list)

pub seek-requires-clause-monomial : goal.seek-requires-clause-monomial
seek-requires-clause-monomial g c = (term_of c.args.at.now c.args.by, refl, record { monomial = c.requires.term.monomial; small = c.requires.small })

pub combine-requires-clause-values : goal.combine-requires-clause-values
combine-requires-clause-values g c =
    let K = g.F.Field.ops c.args.f.now in
    let O = g.O.Order.order c.args.o.now in
    let walk = c.seek.ensures.walk in
    decreasing_values K O c.seek.new.list.after
    (IsDecreasing-right K O walk.passed c.seek.new.list.after
    (subst (IsDecreasing K O) walk.right (IsDecreasing-right K O c.args.list.now.before c.args.list.now.after c.requires.list.decreasing)))

pub returns-then-seek : goal.returns-then-seek
returns-then-seek g c =
    added_found (g.F.Field.ops c.args.f.now) (g.met.F.Field.laws c.args.f.now) (g.O.Order.order c.args.o.now) (g.met.O.Order.laws c.args.o.now)
    (term_of c.args.at.now c.args.by) c.requires.term c.requires.small c.args.list.now c.seek.new.list c.requires.list c.requires.above c.requires.spare c.if-seek.ensures.walk
    c.combine.new.list c.if-seek.ensures.next c.combine.ensures

pub returns : goal.returns
returns g c =
    added_new (g.F.Field.ops c.args.f.now) (g.met.F.Field.laws c.args.f.now) (g.O.Order.order c.args.o.now) (g.met.O.Order.laws c.args.o.now)
    (term_of c.args.at.now c.args.by) c.requires.term c.requires.small c.args.list.now c.seek.new.list c.requires.list c.requires.above c.requires.spare c.if-seek.ensures.walk
    c.insert.new.self c.requires.nonzero c.if-seek.ensures.next
    (subst (λ k. c.insert.new.self ≡ record { before = c.seek.new.list.before ++ term_of k c.args.by ∷ []; after = c.seek.new.list.after; spare = c.seek.new.list.spare - 1 })
    c.in-Ok.ensures.same c.insert.ensures)

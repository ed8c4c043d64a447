use Rattle.std.proofs.Common.{◌∙◌, ap, subst, sym, [], arith}
use Rattle.std.specs.Prelude.{ℕ, List, ◌≡◌, true}
use Rattle.monomial_order.specs.Ranges.{all_between}
use Rattle.poly_core.specs.Presentation.{presented}
use Rattle.toric_ideal.specs.Leads.{letters}
use Rattle.subduction.proofs.IdealLeads.{small_variables}
use Rattle.subduction.proofs.Growing.{first_basis}
use Rattle.subduction.proofs.basis.Basis.new.Goals as goal

pub new-requires-2 : goal.new-requires-2
new-requires-2 g c =
    let O = g.O.Order.order c.args.p.now.order in
    subst (λ (ds : List ℕ). all_between 1 30000 ds ≡ true) (sym (c.as_slice.ensures.value ∙ c.in_ok-degrees.ensures))
    (small_variables O (g.met.O.Order.laws c.args.p.now.order) (g.met.O.Order.small c.args.p.now.order) O.places (omega arith))

pub returns-clause-basis : goal.returns-clause-basis
returns-clause-basis g c =
    let P = presented g.F.Field.ops g.O.Order.order c.args.p.now in
    rw c.new-3.ensures.items
    (first_basis P c.requires.presentation.presentation c.in_ok-new.field-0 c.in_ok-new-2.field-0 c.in_ok-copy.field-0 c.in_ok-new.ensures.quotient c.words_are_listed.ensures
    (c.in_ok-new-2.ensures.letters ∙ ap (λ ds. letters ds []) (c.as_slice.ensures.value ∙ c.in_ok-degrees.ensures))
    c.in_ok-new-2.ensures.zeros c.in_ok-new-2.ensures.degree
    (c.in_ok-copy.ensures.x ∙ c.requires.presentation.no_x) (c.in_ok-copy.ensures.s ∙ c.requires.presentation.degrees))

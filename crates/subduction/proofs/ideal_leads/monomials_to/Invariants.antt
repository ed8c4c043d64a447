use Rattle.std.proofs.Common.{◌≡◌, take}
use Rattle.std.specs.Prelude.{filter, nat_le}
use Rattle.subduction.proofs.ideal_leads.monomials_to.Given as goal

abbrev pub invariant-list : goal.invariant-list
invariant-list g l = l.copies.items ≡ filter (λ m. nat_le ((g.O.Order.order l.o).degree m) l.c) (take l.m-index l.list)

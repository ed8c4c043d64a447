use Rattle.std.proofs.Common.{◌≤◌, length, subst}
use Rattle.quotient_gb.proofs.Places.{below_stop, no_divisor}
use Rattle.quotient_gb.proofs.basis.Basis.reducer.Goals as goal

pub returns-clause-none : goal.returns-clause-none
returns-clause-none g c = λ e.
    let b = c.args.self.now in
    no_divisor b.members.items b.leads.items c.args.m.now c.requires (λ k l. c.search.invariant k (below_stop k (length b.leads.items) c.search.i l (subst (λ xs. length xs ≤ c.search.i) c.as_slice-i-end.ensures.value c.search-test.false)))

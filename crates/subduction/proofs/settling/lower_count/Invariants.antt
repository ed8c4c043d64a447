use Rattle.std.proofs.Common.{◌≡◌, ◌≤◌, ◌<◌, ◌++◌, ◌-◌, List, length}
use Rattle.std.specs.Prelude.{All}
use Rattle.monomial_order.specs.Monomial.{Exponents}
use Rattle.subduction.proofs.settling.lower_count.Given as goal

-- the first part ends between the two indexes
abbrev pub invariant-seek : goal.invariant-seek
invariant-seek g l = record {
  within : l.high ≤ length l.leads;
  between : (lower last : List Exponents) → l.leads ≡ lower ++ last →
      All (λ m. (g.O.Order.order l.o).degree m < l.d) lower → All (λ m. l.d ≤ (g.O.Order.order l.o).degree m) last →
      (l.low ≤ length lower) × (length lower ≤ l.high);
}

abbrev pub decreases-seek : goal.decreases-seek
decreases-seek g l = l.high - l.low

use Rattle.std.proofs.Common.{◌≡◌, ◌<◌, ◌≤◌, ◌-◌, ℕ, get_or}
use Rattle.monomial_order.proofs.places.subtract_places.Given as goal

abbrev pub invariant-loop-i : goal.invariant-loop-i
invariant-loop-i l = record {
  done : (k : ℕ) → k < l.i → get_or l.rest k 0 ≡ get_or l.initial.rest k 0 - get_or l.exponents k 0;
  left : (k : ℕ) → l.i ≤ k → get_or l.rest k 0 ≡ get_or l.initial.rest k 0;
}

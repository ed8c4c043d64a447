use Rattle.std.proofs.Common.{◌≡◌, ◌<◌, ◌≤◌, ℕ, get_or}
use Rattle.std.specs.Prelude.{max}
use Rattle.monomial_order.proofs.places.raise_places.Given as goal

abbrev pub invariant-loop-i : goal.invariant-loop-i
invariant-loop-i l = record {
  done : (k : ℕ) → k < l.i → get_or l.maxima k 0 ≡ max (get_or l.initial.maxima k 0) (get_or l.exponents k 0);
  left : (k : ℕ) → l.i ≤ k → get_or l.maxima k 0 ≡ get_or l.initial.maxima k 0;
}

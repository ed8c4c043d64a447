use Rattle.std.proofs.Common.{◌≡◌, ◌≤◌, ℕ, List, length, sym, false, arith}
use Rattle.std.specs.Prelude.{◌==◌}
use Rattle.std.proofs.lemmas.Bool.Decides.{nat_tests}
use Rattle.monomial_order.specs.Faults.{HasPlaces}
use Rattle.monomial_order.proofs.FaultLemmas.{zero_first, uneven_first}
use Rattle.monomial_order.proofs.order_fault.find_fault.Goals as goal

has_places : (ws : List ℕ) → false ≡ (length ws == 0) → length ws ≤ 32 → HasPlaces ws
has_places ws e l = record { some = positive (length ws) e; few = l }
  where
    positive : (n : ℕ) → false ≡ (n == 0) → 1 ≤ n
    positive n e = grind (arith, nat_tests)

pub returns-in-Some-clause-fault : goal.returns-in-Some-clause-fault
returns-in-Some-clause-fault c =
    (has_places c.args.weights.now c.if-is_empty.ensures c.if-weights-gt32.false, c.if-rows-gt4.false, zero_first c.args.weights.now c.in-Some.i (sym c.in-Some.ensures.first))

pub returns-clause-fault : goal.returns-clause-fault
returns-clause-fault c = (
  has_places c.args.weights.now c.if-is_empty.ensures c.if-weights-gt32.false,
  c.if-rows-gt4.false,
  c.in_default.ensures.none,
  c.in_default-find_heavy.ensures.none,
  uneven_first (length c.args.weights.now) c.args.rows.now c.in_ok-row.row (sym c.in_ok-row.ensures.first),
)

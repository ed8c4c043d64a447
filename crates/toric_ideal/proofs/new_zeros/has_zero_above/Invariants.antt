use Rattle.std.proofs.Common.{◌≤◌, take, List, ℕ}
use Rattle.std.specs.Prelude.{Contains}
use Rattle.monomial_order.specs.Monomial.{weighted_degree}
use Rattle.toric_ideal.specs.Alphabet.{letters_of}
use Rattle.toric_ideal.proofs.new_zeros.has_zero_above.Given as goal

abbrev pub invariant-zeros : goal.invariant-zeros
invariant-zeros l = (z : List ℕ) → Contains (take l.zero-index l.zeros) z → weighted_degree (letters_of l.alphabet).degrees z ≤ l.d

use Rattle.std.proofs.Common.{◌≡◌, ◌<◌, ℕ}
use Rattle.monomial_order.specs.Monomial.{exponent}
use Rattle.toric_ideal.proofs.alphabet.Alphabet.has_x.Given as goal

abbrev pub invariant-loop-place : goal.invariant-loop-place
invariant-loop-place l = (j : ℕ) → j < l.place → exponent l.w j ≡ 0

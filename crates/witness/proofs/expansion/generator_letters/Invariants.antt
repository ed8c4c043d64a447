use Rattle.std.proofs.Common.{◌≡◌, ℕ, ◌<◌, [], length, get_or}
use Rattle.witness.specs.Tracking.{letter_poly}
use Rattle.witness.proofs.expansion.generator_letters.Given as goal

abbrev pub invariant-letters : goal.invariant-letters
invariant-letters g l = record {
  long : length l.at.items ≡ l.i;
  each : (j : ℕ) → j < l.i → get_or l.at.items j [] ≡ letter_poly (g.F.Field.ops l.p.field) j;
}

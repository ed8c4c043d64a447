use Rattle.std.proofs.Common.{◌≡◌, ◌<◌, ◌*◌, ◌%◌}
use Rattle.word_field.proofs.WordFieldField.inv.Given as goal

-- the product of a and the factor found is the rest, and the rest is not 0
abbrev pub invariant-loop-rest : goal.invariant-loop-rest
invariant-loop-rest l = record {
  size : l.p ≡ l.self.modulus;
  positive : 0 < l.rest;
  below : l.rest < l.p;
  kept : l.inverse < l.p;
  product : (l.a * l.inverse) % l.p ≡ l.rest;
}

abbrev pub decreases-loop-rest : goal.decreases-loop-rest
decreases-loop-rest l = l.rest

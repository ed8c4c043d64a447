use Rattle.std.proofs.Common.{◌<◌, ◌%◌, arith}
use Rattle.std.proofs.Math.Nat.{mod-lt}
use Rattle.word_field.specs.laws.Residues.{inversion_step, remainder_positive}
use Rattle.word_field.proofs.WordFieldField.inv.Goals as goal

-- the next rest is a remainder by this one, and so smaller, and not 0 as the size is prime
pub loop-rest-preserved : goal.loop-rest-preserved
loop-rest-preserved c =
    let i = c.loop-rest.invariant in
    let positive : 0 < c.args.self.now.modulus = omega arith in
    let low : c.args.self.now.modulus % c.loop-rest.rest < c.loop-rest.rest = mod-lt c.args.self.now.modulus i.positive in
    record {
      size = omega arith;
      positive = remainder_positive c.args.self.now.modulus c.loop-rest.rest c.args.self.now.listed i.positive (omega arith) i.below;
      below = omega arith;
      kept = mod-lt _ positive;
      product = inversion_step c.args.self.now.modulus c.args.a c.loop-rest.inverse c.loop-rest.rest i.positive i.below i.product;
    }

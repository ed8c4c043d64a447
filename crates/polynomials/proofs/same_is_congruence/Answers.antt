use Rattle.std.proofs.Common.{refl, sym, ◌∙◌}
use Rattle.polynomials.specs.laws.Same.{append_same, times_same}
use Rattle.polynomials.proofs.same_is_congruence.Goals as goal

pub returns-clause-reflexive : goal.returns-clause-reflexive
returns-clause-reflexive g c p m = refl

pub returns-clause-symmetric : goal.returns-clause-symmetric
returns-clause-symmetric g c p q h m = sym (h m)

pub returns-clause-transitive : goal.returns-clause-transitive
returns-clause-transitive g c p q r h k m = h m ∙ k m

pub returns-clause-sums : goal.returns-clause-sums
returns-clause-sums g c p q r s h k = append_same (g.F.Field.ops c.args.f.now) (g.met.F.Field.laws c.args.f.now) p q r s h k

pub returns-clause-products : goal.returns-clause-products
returns-clause-products g c p q r s h k = times_same (g.F.Field.ops c.args.f.now) (g.met.F.Field.laws c.args.f.now) p q r s h k

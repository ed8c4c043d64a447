use Rattle.std.proofs.Common.{◌≡◌, take}
use Rattle.std.specs.Prelude.{map}
use Rattle.monomial_order.specs.Monomial.{weighted_degree}
use Rattle.toric_ideal.proofs.alphabet.Alphabet.new.Given as goal

abbrev pub invariant-leads : goal.invariant-leads
invariant-leads l = (l.order.x_degrees.items ≡ l.x_degrees) × (l.order.s_degrees.items ≡ map (weighted_degree l.x_degrees) (take l.lead-index l.lead-items))

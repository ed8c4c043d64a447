use Rattle.std.proofs.Common.{◌≡◌, List, ℕ, subst, IfOk}
use Rattle.monomial_order.specs.laws.Monomial.{least_common_multiple_comm}
use Rattle.monomial_order.proofs.monomials.Monomial.lcm.Goals as goal

pub returns-then-places-clause-multiple : goal.returns-then-places-clause-multiple
returns-then-places-clause-multiple c =
    subst (λ (x : List ℕ). IfOk c.lcm_shorter.result (λ m. m ≡ x)) (least_common_multiple_comm c.args.b.now c.args.self.now) c.lcm_shorter.ensures.multiple

use Rattle.std.proofs.Common.{◌≡◌, List, ℕ, subst, IfOk}
use Rattle.monomial_order.specs.laws.Monomial.{product_comm}
use Rattle.monomial_order.proofs.monomials.Monomial.times.Goals as goal

pub returns-then-places-clause-product : goal.returns-then-places-clause-product
returns-then-places-clause-product c =
    subst (λ (x : List ℕ). IfOk c.times_shorter.result (λ m. m ≡ x)) (product_comm c.args.b.now c.args.self.now) c.times_shorter.ensures.product

use Rattle.std.proofs.Common.{◌≡◌, ◌≤◌, take, true}
use Rattle.std.specs.Prelude.{All, ◌⊎◌}
use Rattle.monomial_order.specs.Monomial.{IsMonomial}
use Rattle.polynomials.specs.Subalgebra.{IsStandard}
use Rattle.poly_core.specs.Presentation.{presented}
use Rattle.word_values.proofs.products.is_normal.Given as goal

abbrev pub invariant-terms : goal.invariant-terms
invariant-terms g l =
    let P = presented g.F.Field.ops g.O.Order.order l._p in
    All (λ t. IsMonomial P.order.places t.at × ((P.order.degree t.at ≤ l.q.degree) ⊎ (l.q.closed ≡ true)) → IsStandard P t.at)
    (take l.t-index l.t-items)

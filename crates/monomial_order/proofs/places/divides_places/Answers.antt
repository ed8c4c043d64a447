use Rattle.std.proofs.lemmas.Bool.{false≢true}
use Rattle.monomial_order.proofs.PlaceLemmas.{longer_does_not_divide}
use Rattle.monomial_order.proofs.places.divides_places.Goals as goal

pub returns-then-a-b : goal.returns-then-a-b
returns-then-a-b c = (λ e. absurd (false≢true e), λ d. absurd (longer_does_not_divide c.args.a.now c.args.b.now c.requires c.if-a-b.true d))

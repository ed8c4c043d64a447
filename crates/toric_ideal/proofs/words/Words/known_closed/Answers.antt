use Rattle.std.proofs.Common.{subst}
use Rattle.toric_ideal.specs.Listing.{IsClosed, Listing}
use Rattle.toric_ideal.proofs.words.Words.known_closed.Goals as goal

pub returns-clause-closed : goal.returns-clause-closed
returns-clause-closed c t = subst (λ (W : Listing). IsClosed W) c.self.view_is (c.self.invariant.listing.closed t)

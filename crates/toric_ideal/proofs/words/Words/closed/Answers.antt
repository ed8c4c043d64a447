use Rattle.std.proofs.Common.{◌≡◌, subst, true, false}
use Rattle.std.specs.Prelude.{IfOk}
use Rattle.toric_ideal.specs.Closing.{HasMissedWord}
use Rattle.toric_ideal.specs.Listing.{IsClosed, Listing}
use Rattle.toric_ideal.proofs.words.Words.closed.Goals as goal

pub returns-clause-yes : goal.returns-clause-yes
returns-clause-yes c = subst (λ (W : Listing). IfOk c.close.result (λ r. r ≡ true → IsClosed W)) c.self.view_is c.close.ensures.yes

pub returns-clause-no : goal.returns-clause-no
returns-clause-no c = subst (λ (W : Listing). IfOk c.close.result (λ r. r ≡ false → HasMissedWord W)) c.self.view_is c.close.ensures.no

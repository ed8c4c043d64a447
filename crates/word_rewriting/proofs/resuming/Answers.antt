use Rattle.std.proofs.Common.{◌++◌, ◌∷◌, [], arith}
use Rattle.std.specs.Prelude.{List, length}
use Rattle.monomial_order.specs.Monomial.{Exponents, IsMultiple}
use Rattle.monomial_order.specs.laws.Lists.{contains_here, contains_left, contains_right}
use Rattle.word_laws.specs.laws.Reducible.{multiple_closed}
use Rattle.word_rewriting.specs.laws.Complete.{zero_multiples}
use Rattle.word_rewriting.specs.laws.Completion.{adds_lead, adds_zeros, adds_zero_rule, restarts}
use Rattle.word_rewriting.proofs.resuming.Goals as goal

more : (Z : List Exponents) (z m : Exponents) → IsMultiple Z m → IsMultiple (Z ++ z ∷ []) m
more Z z m k = (k.0, contains_left Z (z ∷ []) k.0 k.1, k.2)

pub returns-clause-leads : goal.returns-clause-leads
returns-clause-leads g Z L R listed H h new m u = adds_lead (IsMultiple Z) L H (multiple_closed (length L.degrees) Z) Z R listed new m u h

pub returns-clause-zeros : goal.returns-clause-zeros
returns-clause-zeros g Z L R listed H h Y more to =
    adds_zeros (IsMultiple Z) L H (multiple_closed (length L.degrees) Z) Z (IsMultiple Y) (λ m k. (k.0, more k.0 k.1, k.2)) R listed Y h to

pub returns-clause-zero_rules : goal.returns-clause-zero_rules
returns-clause-zero_rules g Z L R listed H h new z u hz =
    adds_zero_rule (IsMultiple Z) L H (multiple_closed (length L.degrees) Z) Z (IsMultiple (Z ++ z ∷ [])) (more Z z) R listed new z u h hz
    (z, contains_right Z (z ∷ []) z (contains_here z []), λ i. omega arith)

pub returns-clause-rules : goal.returns-clause-rules
returns-clause-rules g Z L R c H rules generates in_x listed =
    restarts (IsMultiple Z) Z L H (multiple_closed (length L.degrees) Z) R listed c rules (zero_multiples L Z in_x c) generates

use Rattle.std.specs.Prelude.{length}
use Rattle.monomial_order.specs.Monomial.{IsMultiple}
use Rattle.word_laws.specs.Words.{word_order_of}
use Rattle.word_laws.specs.laws.Reducible.{multiple_closed}
use Rattle.word_rewriting.specs.laws.Criterion.{decreasing_rules}
use Rattle.word_laws.specs.laws.Words.{word_laws}
use Rattle.word_rewriting.specs.laws.Connected.{chain, later_connected}
use Rattle.word_rewriting.specs.laws.Pairs.{one_pair, pair_exists, coprime_joinable, pairs_enough}
use Rattle.word_rewriting.specs.laws.NormalForms.{pair_images, pair_shows}
use Rattle.word_rewriting.proofs.critical_pairs.Goals as goal

pub returns-clause-coprime : goal.returns-clause-coprime
returns-clause-coprime g Z L R rules = coprime_joinable (word_order_of L) R (decreasing_rules (IsMultiple Z) L R rules)

pub returns-clause-later : goal.returns-clause-later
returns-clause-later g Z L R rules = pairs_enough (word_order_of L) R (decreasing_rules (IsMultiple Z) L R rules)

pub returns-clause-image : goal.returns-clause-image
returns-clause-image g Z L R H rules = pair_images (IsMultiple Z) L H R rules (multiple_closed (length L.degrees) Z)

pub returns-clause-missed : goal.returns-clause-missed
returns-clause-missed g Z L R H rules = pair_shows (IsMultiple Z) L H R rules (multiple_closed (length L.degrees) Z)

pub returns-clause-connected : goal.returns-clause-connected
returns-clause-connected g Z L R H rules c listed =
    later_connected (word_order_of L) (word_laws L H) R (decreasing_rules (IsMultiple Z) L R rules) c listed

pub returns-clause-chain : goal.returns-clause-chain
returns-clause-chain g R listed = chain R listed

pub returns-clause-exist : goal.returns-clause-exist
returns-clause-exist g Z L R H rules r s hr hs = pair_exists r s (rules r hr).0.trimmed (rules s hs).0.trimmed

pub returns-clause-unique : goal.returns-clause-unique
returns-clause-unique g = one_pair

use Rattle.monomial_order.proofs.PlaceLemmas.{take_trimmed, least_used}
use Rattle.monomial_order.proofs.places.used_places.Goals as goal

pub returns-else-exponents-used-eq0-clause-trimmed : goal.returns-else-exponents-used-eq0-clause-trimmed
returns-else-exponents-used-eq0-clause-trimmed c = take_trimmed c.loop-used.used c.args.exponents.now c.loop-used.invariant.within c.if-exponents-used-eq0.false

pub returns-else-exponents-used-eq0-clause-least : goal.returns-else-exponents-used-eq0-clause-least
returns-else-exponents-used-eq0-clause-least c = least_used c.loop-used.used c.args.exponents.now c.if-exponents-used-eq0.false

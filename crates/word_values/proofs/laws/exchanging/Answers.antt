use Rattle.word_values.proofs.Growing.{values_grow, values_back, degrees_grow, degrees_back, kept_short}
use Rattle.word_values.proofs.laws.exchanging.Goals as goal

pub returns-clause-values : goal.returns-clause-values
returns-clause-values g c P S U T kept d H hs e h le =
    values_grow P S T (c.growing.ensures.values P S T) kept (values_back P S U (c.growing.ensures.values P S U) kept (kept_short P H S U hs d e kept h le) h)

pub returns-clause-degrees : goal.returns-clause-degrees
returns-clause-degrees g c P S U T kept d H hs e h le =
    let short = kept_short P H S U hs d e kept h le in
    degrees_grow P S T kept d (values_back P S U (c.growing.ensures.values P S U) kept short h) (degrees_back P S U kept d short h le)

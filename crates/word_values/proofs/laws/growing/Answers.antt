use Rattle.word_values.proofs.Growing.{values_grow, degrees_grow}
use Rattle.word_values.proofs.laws.growing.Goals as goal

pub returns-clause-values : goal.returns-clause-values
returns-clause-values g c P S T kept h = values_grow P S T (c.growing.ensures.values P S T) kept h

pub returns-clause-degrees : goal.returns-clause-degrees
returns-clause-degrees g c P S T kept d h le = degrees_grow P S T kept d h le

use Rattle.std.specs.List.{IsDistinct}
use Rattle.poly_core.proofs.name_table.NameTable.new.Goals as goal

pub invariant_of-result : goal.invariant_of-result
unfolding IsDistinct
invariant_of-result c = rw c.new.ensures.empty tt

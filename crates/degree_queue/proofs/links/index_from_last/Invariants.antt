use Rattle.std.proofs.Common.{length, ◌+◌, ◌-◌}
use Rattle.degree_queue.specs.Links.{path_of}
use Rattle.degree_queue.proofs.Walking.{IsAt}
use Rattle.degree_queue.proofs.links.index_from_last.Given as goal

abbrev pub invariant-steps : goal.invariant-steps
invariant-steps g l = IsAt (length l.nodes) (path_of l.nodes l.fn.ends) (l.fn.ends.len + l.k - l._step) l.at

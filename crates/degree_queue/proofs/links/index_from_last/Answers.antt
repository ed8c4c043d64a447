use Rattle.std.proofs.Common.{arith, ◌∙◌, ap}
use Rattle.std.specs.List.{slice_index}
use Rattle.degree_queue.specs.Links.{path_of}
use Rattle.degree_queue.proofs.Walking.{at_last, at_prev}
use Rattle.degree_queue.proofs.links.index_from_last.Goals as goal

pub steps-init : goal.steps-init
steps-init g c = at_last c.args.nodes.now c.args.ends _ c.requires.list c.requires.apart _ (omega arith)

pub steps-preserved : goal.steps-preserved
steps-preserved g c = at_prev c.args.nodes.now c.args.ends _ c.requires.list c.requires.apart _ c.steps.at _ c.steps.invariant _ (omega arith) (omega arith)

pub returns-clause-at : goal.returns-clause-at
returns-clause-at g c = c.steps.invariant.here ∙ ap (slice_index (path_of c.args.nodes.now c.args.ends)) (omega arith)

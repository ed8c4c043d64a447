use Rattle.degree_queue.proofs.Paths.{joined}
use Rattle.degree_queue.proofs.links.join.Goals as goal

pub returns : goal.returns
returns g c = joined c.args.nodes.now c.args.a c.args.b _ _ c.requires.a c.requires.b

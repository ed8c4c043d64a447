use Rattle.std.proofs.Common.{subst}
use Rattle.std.specs.Prelude.{IfOk}
use Rattle.poly_core.specs.Presentation.{presented}
use Rattle.outputs.specs.RelationsText.{IsRelationsText}
use Rattle.outputs.proofs.relation_lines.relations.Goals as goal

pub returns : goal.returns
returns g c =
    subst (λ p. IfOk c.run_relations-text.result (λ text. IsRelationsText g.row.F.Denot (presented g.F.Field.ops g.O.Order.order p) c.args.bound text.items))
    c.in_ok-c.ensures.presentation c.run_relations-text.ensures

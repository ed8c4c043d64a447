use Rattle.poly_core.specs.Presentation.{presented}
use Rattle.completion.proofs.Restored.{restored_standing}
use Rattle.completion.proofs.completion.Completion.restore.Goals as goal

pub returns-clause-completion : goal.returns-clause-completion
returns-clause-completion g c =
    let P = presented g.F.Field.ops g.O.Order.order c.args.p in
    record {
      presentation = c.requires.presentation;
      standing = restored_standing P c.args.b c.requires.basis c.args.c c.requires.small c.requires.quotient c.requires.words
          c.requires.reduced c.args.relations.items c.requires.relations c.args.p _ _ _ c.new.ensures c.new-2.ensures;
    }

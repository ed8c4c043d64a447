use Rattle.poly_core.specs.Presentation.{presented}
use Rattle.completion.proofs.FirstDegree.{first_standing}
use Rattle.completion.proofs.completion.Completion.new.Goals as goal

pub returns-clause-completion : goal.returns-clause-completion
returns-clause-completion g c =
    let P = presented g.F.Field.ops g.O.Order.order c.args.p in
    let H = c.requires.presentation.presentation in
    record {
      presentation = c.requires.presentation;
      standing = first_standing P H c.in_ok-basis.basis c.in_ok-basis.ensures.basis c.in_ok-basis.ensures.words
          (c.lower_bases.ensures.empty P H)
          c.in_ok-basis.ensures.elements c.in_ok-basis.ensures.quotient c.args.p _ _ _ _ c.new-values.ensures
          c.new-relations.ensures.items c.new-queue.ensures;
    }

use Rattle.std.proofs.Common.{◌≡◌, ◌+◌, suc, sym, subst, arith}
use Rattle.poly_core.specs.Presentation.{presented}
use Rattle.completion.specs.Taking.{IsTreated}
use Rattle.completion.proofs.Taking.{taken_stands}
use Rattle.completion.proofs.completion.Completion.take.Goals as goal

pub returns-clause-completion : goal.returns-clause-completion
returns-clause-completion g c =
    let C = rw (sym c.self-2.view_is) at c.take_candidate.ensures.completion in
    let P = presented g.F.Field.ops g.O.Order.order c.self-2.inside.presentation in
    let H = C.presentation.presentation in
    let begun = rw (sym c.self-2.view_is) at c.take_candidate.ensures.begun in
    let degree = rw (sym c.self.view_is, sym c.self-2.view_is) at c.take_candidate.ensures.degree in
    let at : c.self.inside.degree + 1 ≡ suc c.self-2.inside.degree = omega (arith, degree) in
    let queue = rw (sym c.self.view_is, sym c.self-2.view_is) at c.take_candidate.ensures.queue in
    let x = c.get-candidate.result.now in
    let treated = subst (λ p. IsTreated (presented g.F.Field.ops g.O.Order.order p) c.take_candidate.new.self x)
    (sym c.take_candidate.ensures.kept.presentation) c.in_ok-take_candidate.ensures.treated in
    let is_treated = rw (sym c.self-2.view_is) at treated in
    record {
      presentation = C.presentation;
      standing = taken_stands P H _ C.standing begun (c.self.inside.degree + 1) c.self.inside.queue
          c.pop_at-candidate.new.self at queue (c.growing.ensures.values P) c.args.k x
          c.get-candidate.ensures is_treated c.pop_at-candidate.ensures.rest c.pop_at-candidate.ensures.others;
    }

pub returns-clause-kept : goal.returns-clause-kept
returns-clause-kept g c =
    let K = rw (sym c.self-2.view_is) at c.take_candidate.ensures.kept in
    record { presentation = K.presentation; read = K.read; elements = K.elements; relations = K.relations }

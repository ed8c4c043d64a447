use Rattle.std.proofs.Common.{◌∙◌, ap}
use Rattle.poly_core.specs.Presentation.{presented}
use Rattle.toric_ideal.specs.Listing.{Listing}
use Rattle.witness.specs.Tracking.{values_of}
use Rattle.completion.proofs.LastDegree.{left_values, settled_values, settled_words}
use Rattle.completion.proofs.closing.settle_last.Goals as goal

pub returns-in_err-settle-clause-values : goal.returns-in_err-settle-clause-values
returns-in_err-settle-clause-values g c =
    rw c.in_err-settle.ensures.memory
    (left_values (presented g.F.Field.ops g.O.Order.order c.args.p.now) (values_of c.args.basis.now.elements)
    c.args.values.now c.forget_above.new.values c.args.kept.now c.degree-d.result c.forget_above.ensures
    c.requires.values)

pub returns-clause-values : goal.returns-clause-values
returns-clause-values g c =
    settled_values _ c.requires.presentation.presentation c.args.basis.now c.requires.basis c.args.values.now
    c.forget_above.new.values c.args.kept.now c.degree-d.result
    (c.degree-d.ensures ∙ ap (λ (w : Listing). w.degree) c.words.ensures) c.forget_above.ensures c.requires.values
    c.requires.kept c.settle.new.self.elements c.in_ok-settle.ensures.settled
    c.exchanging.ensures.values

pub returns-clause-kept : goal.returns-clause-kept
returns-clause-kept g c =
    settled_words _ c.requires.presentation.presentation c.args.basis.now c.requires.basis c.args.values.now
    c.forget_above.new.values c.args.kept.now c.degree-d.result
    (c.degree-d.ensures ∙ ap (λ (w : Listing). w.degree) c.words.ensures) c.forget_above.ensures c.requires.values
    c.requires.kept c.settle.new.self.elements c.in_ok-settle.ensures.settled
    c.exchanging.ensures.degrees

pub returns-clause-settled : goal.returns-clause-settled
returns-clause-settled g c = record {
  basis = c.settle.ensures.basis;
  settled = c.in_ok-settle.ensures.settled;
  short = c.in_ok-settle.ensures.short;
  degree = c.settle.ensures.degree;
  quotient = c.settle.ensures.quotient;
}

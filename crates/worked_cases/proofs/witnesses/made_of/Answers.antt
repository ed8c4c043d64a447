use Rattle.std.proofs.Common.{sym, ap, length}
use Rattle.word_field.specs.Residues.{residues}
use Rattle.polynomials.specs.Polynomial.{coefficient}
use Rattle.polynomials.specs.laws.Congruence.{congruent_same}
use Rattle.witness.specs.Tracking.{by_order}
use Rattle.worked_cases.proofs.witnesses.made_of.Goals as goal

pub scale-requires-clause-a : goal.scale-requires-clause-a
scale-requires-clause-a c = (by_order c.args.w.now, (c.in_ok-a.ensures c.args.w.now c.requires.room).pair)

pub returns-in_ok-scale-in-text : goal.returns-in_ok-scale-in-text
returns-in_ok-scale-in-text c = c.in_ok-scale-in-text.ensures.canonical (by_order c.args.w.now) (c.in_ok-a.ensures c.args.w.now c.requires.room).pair

pub reduce-requires : goal.reduce-requires
reduce-requires c =
    let p = c.args.p.now in
    let K = residues p.field.modulus in
    let copy = c.in_ok-normal_form-in-reduced in
    congruent_same K c.requires.valid.presentation.field (length p.order.weights.items) p.ideal.items c.in_ok-a.a.value copy.normal_form
    (λ m. ap (λ f. coefficient K f m) (sym copy.ensures))

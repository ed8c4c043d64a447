use Rattle.std.proofs.Common.{◌∙◌}
use Rattle.poly_core.specs.Presentation.{presented}
use Rattle.polynomials.specs.laws.Congruence.{minus_same}
use Rattle.subduction.specs.Subduced.{witness_sum}
use Rattle.subduction.proofs.subduction.without_words.Goals as goal

pub returns-clause-difference : goal.returns-clause-difference
returns-clause-difference g c = λ m.
    let P = presented g.F.Field.ops g.O.Order.order c.args.p.now in
    c.in_ok-difference.ensures.difference m ∙
    minus_same P.field (g.met.F.Field.laws c.args.p.now.field) c.args.by.now c.args.by.now c.in_ok-moved.moved (witness_sum P c.args.word_sum.now) (λ i. Rattle.std.proofs.Common.refl) c.in_ok-moved.ensures.same m

use Rattle.std.proofs.Common.{◌≡◌, ◌-◌, ◌∙◌, [], ◌∷◌, ◌++◌, ap, arith}
use Rattle.std.specs.List.{range_with_len}
use Rattle.power_sums.proofs.Ranges.{range_more}
use Rattle.power_sums.proofs.generators.gen_order.Goals as goal

pub loop-degree-preserved : goal.loop-degree-preserved
loop-degree-preserved c = record {
  x = c.push_place.ensures.x ∙ c.loop-degree.invariant.x;
  s = c.in_ok-push_place.ensures.s ∙ (ap (λ ds. ds ++ c.loop-degree.degree ∷ []) c.loop-degree.invariant.s ∙ range_more c.loop-degree.degree (omega arith));
}

pub returns-clause-s : goal.returns-clause-s
returns-clause-s c = c.loop-degree.invariant.s ∙ ap (range_with_len 1) (let e : c.loop-degree.degree - 1 ≡ c.args.count = omega arith in e)

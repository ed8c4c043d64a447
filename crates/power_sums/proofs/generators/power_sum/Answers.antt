use Rattle.power_sums.proofs.SumForms.{sum_push}
use Rattle.power_sums.proofs.generators.power_sum.Goals as goal

pub loop-place-preserved : goal.loop-place-preserved
loop-place-preserved g c =
    sum_push (g.F.Field.ops c.args.field.now) (g.met.F.Field.laws c.args.field.now) c.loop-place.terms.items c.push.new.self.items (record { at = c.in_ok-power.field-0; by = c.one.result })
    c.loop-place.place c.args.exponent c.loop-place.invariant c.in_ok-push.ensures.items c.in_ok-power.ensures c.one.ensures

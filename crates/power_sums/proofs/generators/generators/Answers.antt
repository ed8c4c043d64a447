use Rattle.std.proofs.Common.{◌≡◌, ◌-◌, ◌∙◌, map, ap, arith}
use Rattle.std.specs.List.{range_with_len}
use Rattle.power_sums.specs.PowerSums.{power_sum}
use Rattle.power_sums.proofs.Ranges.{pushed}
use Rattle.power_sums.proofs.generators.generators.Goals as goal

pub loop-exponent-preserved : goal.loop-exponent-preserved
loop-exponent-preserved g c =
    pushed (power_sum (g.F.Field.ops c.args.field.now) c.args.count) c.loop-exponent.generators.items c.push.new.self.items c.in_ok-power_sum.field-0
    c.loop-exponent.exponent (omega arith) c.loop-exponent.invariant c.in_ok-push.ensures.items c.in_ok-power_sum.ensures

pub returns : goal.returns
returns g c =
    c.loop-exponent.invariant ∙
    ap (λ n. map (power_sum (g.F.Field.ops c.args.field.now) c.args.count) (range_with_len 1 n)) (let e : c.loop-exponent.exponent - 1 ≡ c.args.count = omega arith in e)

use Rattle.std.proofs.Common.{◌≡◌, ◌-◌, ◌∷◌, subst, arith, rules}
use Rattle.std.specs.Prelude.{Contains}
use Rattle.std.specs.Fmt.{decimal}
use Rattle.power_sums.proofs.Ranges.{pushed}
use Rattle.power_sums.proofs.VariableNames.{new_name}
use Rattle.power_sums.proofs.variables.names.Goals as goal

pub push_new-requires : goal.push_new-requires
push_new-requires c =
    let text : c.as_str.result.now ≡ 120 ∷ decimal c.loop-number.number-counter = search rules in
    λ h. new_name (c.loop-number.number-counter - 1) c.loop-number.number-counter (omega arith) (omega arith)
    (subst (λ t. Contains t (120 ∷ decimal c.loop-number.number-counter)) c.loop-number.invariant.names (subst (Contains c.loop-number.names) text h))

pub loop-number-preserved : goal.loop-number-preserved
loop-number-preserved c =
    let text : c.as_str.result.now ≡ 120 ∷ decimal c.loop-number.number-counter = search rules in
    record {
      names = pushed (λ i. 120 ∷ decimal i) c.loop-number.names c.push_new.new.names c.as_str.result.now c.loop-number.number-counter (omega arith) c.loop-number.invariant.names c.in_ok-push_new.ensures.pushed text;
      distinct = c.in_ok-push_new.ensures.distinct;
    }

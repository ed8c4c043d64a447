use Rattle.std.proofs.Common.{◌<◌, ◌≤◌, drop, length}
use Rattle.std.specs.Prelude.{All}
use Rattle.witness.specs.Tracking.{by_order}
use Rattle.completion.proofs.cutting.low_count.Given as goal

-- the relations from the index on have greater degrees
abbrev pub invariant-relations : goal.invariant-relations
invariant-relations g l = record {
  within : l.count ≤ length l.relations;
  above : let W = by_order l.w in All (λ r. l.d < W.degree r.word) (drop l.count l.relations);
}

abbrev pub decreases-relations : goal.decreases-relations
decreases-relations g l = l.count

use Rattle.std.proofs.Common.{length, sym, subst}
use Rattle.quotient_gb.specs.CriticalPairs.{HasPairs}
use Rattle.quotient_gb.proofs.Listing.{no_pairs}
use Rattle.quotient_gb.proofs.Places.{below_stop}
use Rattle.quotient_gb.proofs.critical_pair.critical_pairs.Goals as goal

pub seconds-init : goal.seconds-init
seconds-init g c =
    subst (HasPairs (g.O.Order.order c.args.o.now) c.args.leads.now c.args.start c.args.start) (sym c.new-pairs.ensures.items) (no_pairs (g.O.Order.order c.args.o.now) c.args.leads.now c.args.start)

pub seconds-preserved : goal.seconds-preserved
seconds-preserved g c = c.in_ok-push_pairs.ensures c.args.start c.seconds.invariant

pub returns : goal.returns
returns g c = record {
  each = c.seconds.invariant.each;
  listed = λ i j lt from below. c.seconds.invariant.listed i j lt from (below_stop j (length c.args.leads.now) c.seconds.second below c.seconds-test.false);
}

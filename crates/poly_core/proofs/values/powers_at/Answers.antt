use Rattle.std.proofs.Common.{◌≤◌, ◌+◌, length, arith, subst}
use Rattle.std.specs.Prelude.{All}
use Rattle.std.proofs.lemmas.List.{take_all}
use Rattle.std.proofs.lemmas.List.Elements.{All-more}
use Rattle.monomial_order.specs.Monomial.{exponent}
use Rattle.poly_core.proofs.values.powers_at.Goals as goal

pub loop-t-preserved : goal.loop-t-preserved
loop-t-preserved g c = record {
  powers = c.in_ok-reach.ensures.powers;
  reached = All-more (λ t. exponent t.at c.args.place ≤ length c.reach.new.self + 1) c.args.h.now c.loop-t.t-index c.t-item.result c.loop-t-test.true
      (λ k d l. let a = c.loop-t.invariant.reached k d l in let b = c.in_ok-reach.ensures.longer in omega arith)
      (subst (λ t. exponent t.at c.args.place ≤ length c.reach.new.self + 1) c.t-item.is
      (let a = c.in_ok-reach.ensures.reached in let b = c.exponent.ensures in omega arith));
}

pub returns-clause-reached : goal.returns-clause-reached
returns-clause-reached g c =
    subst (All (λ t. exponent t.at c.args.place ≤ length c.loop-t.powers + 1)) (take_all c.loop-t.t-index c.args.h.now (omega arith)) c.loop-t.invariant.reached

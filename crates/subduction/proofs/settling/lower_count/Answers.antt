use Rattle.std.proofs.Common.{◌<◌, ◌+◌, ◌-◌, ◌/◌, ◌++◌, sym, ap, subst, get_or, length, length-append, arith}
use Rattle.subduction.proofs.LowerCounts.{in_lower, not_in_lower}
use Rattle.subduction.proofs.settling.lower_count.Goals as goal

pub seek-init : goal.seek-init
seek-init g c = record {
  within = omega arith;
  between = λ lower last e less same.
      let a = length-append lower last in
      let n = ap length e in (omega arith, omega arith);
}

pub seek-preserved-then-degree-d : goal.seek-preserved-then-degree-d
seek-preserved-then-degree-d g c = record {
  within = c.seek.invariant.within;
  between = λ lower last e less same.
      let f = (g.O.Order.order c.args.o.now).degree in
      let j = c.seek.low + (c.seek.high - c.seek.low) / 2 in
      let m = c.index-leads-middle.result in
      let t = c.seek-test.true in
      let w = c.seek.invariant.within in
      let here : f (get_or (lower ++ last) j m) < c.args.d =
      subst (λ xs. f (get_or xs j m) < c.args.d) e
      (subst (λ x. f x < c.args.d) c.index-leads-middle.is (let h = c.degree.ensures in let b = c.if-degree-d.true in omega arith)) in
      let n = ap length e in
      let k = in_lower f c.args.d lower last less same j m (omega arith) here in
      (omega arith, (c.seek.invariant.between lower last e less same).1);
}

pub seek-preserved : goal.seek-preserved
seek-preserved g c = record {
  within = let w = c.seek.invariant.within in let t = c.seek-test.true in omega arith;
  between = λ lower last e less same.
      let f = (g.O.Order.order c.args.o.now).degree in
      let j = c.seek.low + (c.seek.high - c.seek.low) / 2 in
      let m = c.index-leads-middle.result in
      let other : f (get_or (lower ++ last) j m) < c.args.d → ⊥ = λ less_here.
      let back : f m < c.args.d = subst (λ x. f x < c.args.d) (sym c.index-leads-middle.is) (subst (λ xs. f (get_or xs j m) < c.args.d) (sym e) less_here) in
      let h = c.degree.ensures in let b = c.if-degree-d.false in absurd (omega arith) in
      ((c.seek.invariant.between lower last e less same).0, not_in_lower f c.args.d lower last less same j m other);
}

pub returns : goal.returns
returns g c lower last e less same = let b = c.seek.invariant.between lower last e less same in let t = c.seek-test.false in omega arith

use Rattle.std.proofs.Common.{◌+◌, ◌≤◌, ℕ, sym, subst, arith}
use Rattle.monomial_order.specs.Monomial.{IsMonomial, least_common_multiple}
use Rattle.monomial_order.specs.laws.Monomial.{IsMonomial-least_common_multiple}
use Rattle.quotient_gb.proofs.Multiples.{degree-lcm}
use Rattle.quotient_gb.proofs.critical_pair.critical_pair.Goals as goal

sum : (a b d : ℕ) → a ≤ b + d → b ≤ 30000 → d ≤ 30000 → a ≤ 65535
sum a b d h k l = omega arith

pub degree-degree-requires : goal.degree-degree-requires
degree-degree-requires g c =
    let O = g.O.Order.order c.args.o.now in
    let m = c.index-leads-first.result in
    let n = c.index-leads-second.result in
    let hm = c.requires.leads m (c.args.first, c.requires.first, sym c.index-leads-first.is) in
    let hn = c.requires.leads n (c.args.second, c.requires.second, sym c.index-leads-second.is) in
    record {
      monomial = subst (IsMonomial O.places) (sym c.in_ok-lcm.ensures.multiple) (IsMonomial-least_common_multiple O.places m n hm hn);
      small = subst (λ x. O.degree x ≤ 65535) (sym c.in_ok-lcm.ensures.multiple)
          (sum (O.degree (least_common_multiple m n)) (O.degree m) (O.degree n) (degree-lcm O (g.met.O.Order.laws c.args.o.now) O.places m n hm hn)
          (c.requires.small m (c.args.first, c.requires.first, sym c.index-leads-first.is)) (c.requires.small n (c.args.second, c.requires.second, sym c.index-leads-second.is)));
    }

use Rattle.std.proofs.Common.{◌≡◌, ◌≤◌, length, sym, ap, ◌∙◌, arith}
use Rattle.monomial_order.specs.Monomial.{least_common_multiple}
use Rattle.monomial_order.specs.laws.Monomial.{IsTrimmed-least_common_multiple, length-least_common_multiple}
use Rattle.monomial_order.proofs.PlaceLemmas.{trimmed_refill}
use Rattle.monomial_order.proofs.monomials.Monomial.lcm_shorter.Goals as goal

pub invariant_of-result : goal.invariant_of-result
invariant_of-result c =
    let is = c.in_ok-exponents.ensures.ok ∙ c.as_slice.ensures.same in
    let shorter : length c.args.b.now ≤ length c.args.self.now = c.requires in
    let long : length (least_common_multiple c.args.self.now c.args.b.now) ≡ length c.args.self.now = omega (arith, length-least_common_multiple c.args.self.now c.args.b.now) in
    trimmed_refill c.in_ok-exponents.exponents.items c.raise_places.new.maxima (least_common_multiple c.args.self.now c.args.b.now)
    (c.raise_places.ensures ∙ (ap (λ x. least_common_multiple x c.as_slice-2.result.now) (c.as_mut_slice.ensures.value ∙ is) ∙ ap (least_common_multiple c.args.self.now) c.as_slice-2.ensures.same))
    (long ∙ ap length (sym is)) (IsTrimmed-least_common_multiple c.args.self.now c.args.b.now c.as_slice.ensures.trimmed c.as_slice-2.ensures.trimmed)

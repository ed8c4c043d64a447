use Rattle.std.proofs.Common.{sym, ◌∙◌, ap, subst}
use Rattle.word_field.specs.Field.{IsValue}
use Rattle.polynomials.specs.Polynomial.{lead_monomial}
use Rattle.polynomials.specs.laws.Ring.{coefficient_value}
use Rattle.subduction.proofs.Reducing.{difference_is, difference_nothing}
use Rattle.witness.specs.Tracking.{by_order}
use Rattle.subduction.proofs.settling.without_lead.Goals as goal

pub returns-then-eq : goal.returns-then-eq
returns-then-eq g c =
    let K = g.F.Field.ops c.args.p.now.field in
    let F = g.met.F.Field.laws c.args.p.now.field in
    let z = sym c.coefficient_at_lead-c.ensures ∙ ((g.met.F.Field.eq_is c.coefficient_at_lead-c.result c.zero.result).0 (sym c.eq.ensures ∙ c.if-eq.true) ∙ c.zero.ensures) in
    record {
      value = difference_nothing K F _ c.args.t.value c.args.u.now.value z;
      by = difference_nothing K F _ c.args.t.by c.args.u.now.by z;
      canonical = c.requires.t;
      tracks = λ S a b. a;
      graded = λ d a b. a;
    }

pub neg-requires : goal.neg-requires
neg-requires g c =
    let K = g.F.Field.ops c.args.p.now.field in
    subst (IsValue K) (sym c.coefficient_at_lead-c.ensures) (coefficient_value K (g.met.F.Field.laws c.args.p.now.field) c.args.t.value (lead_monomial c.args.u.now.value))

pub sum-requires-clause-b : goal.sum-requires-clause-b
sum-requires-clause-b g c = c.in_ok-multiple.ensures.canonical (by_order c.args.w.now) c.requires.u

pub returns : goal.returns
returns g c =
    let K = g.F.Field.ops c.args.p.now.field in
    let F = g.met.F.Field.laws c.args.p.now.field in
    let W = by_order c.args.w.now in
    let n = c.neg.ensures ∙ ap K.negate c.coefficient_at_lead-c.ensures in
    record {
      value = difference_is K F _ c.neg.result c.args.t.value c.args.u.now.value c.in_ok-multiple.multiple.value c.in_ok-difference.difference.value n c.in_ok-multiple.ensures.value c.in_ok-difference.ensures.value;
      by = difference_is K F _ c.neg.result c.args.t.by c.args.u.now.by c.in_ok-multiple.multiple.by c.in_ok-difference.difference.by n c.in_ok-multiple.ensures.by c.in_ok-difference.ensures.by;
      canonical = c.in_ok-difference.ensures.canonical;
      tracks = λ S a b. c.in_ok-difference.ensures.tracks S a (c.in_ok-multiple.ensures.tracks S b);
      graded = λ d a b. c.in_ok-difference.ensures.graded d a (c.in_ok-multiple.ensures.graded W d b);
    }

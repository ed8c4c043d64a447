use Rattle.std.proofs.Common.{sym, ◌∙◌, subst, refl}
use Rattle.word_field.specs.Field.{IsValue}
use Rattle.polynomials.specs.Polynomial.{lead_monomial}
use Rattle.polynomials.specs.laws.Ring.{coefficient_value}
use Rattle.witness.specs.Tracking.{by_order}
use Rattle.witness.specs.laws.Letters.{by_laws}
use Rattle.subduction.proofs.NextElement.{put_gone, put_others, put_same}
use Rattle.subduction.proofs.new_elements.with_witness.Goals as goal

pub coefficient_at_lead-c-requires : goal.coefficient_at_lead-c-requires
coefficient_at_lead-c-requires g c = (by_order c.args.w.now, by_laws c.args.w.now, c.requires.t.by)

pub returns-then-eq : goal.returns-then-eq
returns-then-eq g c =
    let K = g.F.Field.ops c.args.p.now.field in
    let z = sym c.coefficient_at_lead-c.ensures ∙ ((g.met.F.Field.eq_is c.coefficient_at_lead-c.result c.zero.result).0 (sym c.eq.ensures ∙ c.if-eq.true) ∙ c.zero.ensures) in
    record {
      value = λ m. refl;
      gone = λ n. z;
      others = λ m n a b. a;
      canonical = c.requires.t;
      tracks = λ S a b l. a;
      graded = λ d a b l. a;
    }

pub neg-requires : goal.neg-requires
neg-requires g c =
    let K = g.F.Field.ops c.args.p.now.field in
    subst (IsValue K) (sym c.coefficient_at_lead-c.ensures) (coefficient_value K (g.met.F.Field.laws c.args.p.now.field) c.args.t.by (lead_monomial c.args.letter.now.by))

pub scale-requires-2-clause-factor : goal.scale-requires-2-clause-factor
scale-requires-2-clause-factor g c =
    let K = g.F.Field.ops c.args.p.now.field in
    subst (IsValue K) (sym c.coefficient_at_lead-c.ensures) (coefficient_value K (g.met.F.Field.laws c.args.p.now.field) c.args.t.by (lead_monomial c.args.letter.now.by))

pub sum-requires-clause-a : goal.sum-requires-clause-a
sum-requires-clause-a g c = c.in_ok-taken.ensures.canonical (by_order c.args.w.now) c.requires.letter

pub sum-requires-clause-b : goal.sum-requires-clause-b
sum-requires-clause-b g c = c.in_ok-given.ensures.canonical (by_order c.args.w.now) c.requires.s

pub returns : goal.returns
returns g c =
    let K = g.F.Field.ops c.args.p.now.field in
    let F = g.met.F.Field.laws c.args.p.now.field in
    let W = by_order c.args.w.now in
    let t = c.args.t in
    let s = c.args.s.now in
    let l = c.args.letter.now in
    let x = c.in_ok-taken.taken in
    let y = c.in_ok-given.given in
    let d = c.in_ok-difference.difference in
    let r = c.in_ok-replaced.replaced in
    let n = c.neg.result in
    let q = c.coefficient_at_lead-c.result in
    record {
      value = put_same K F n q t.value l.value s.value x.value y.value d.value r.value c.neg.ensures c.in_ok-taken.ensures.value c.in_ok-given.ensures.value c.in_ok-difference.ensures.value c.in_ok-replaced.ensures.value c.requires.value;
      gone = put_gone K F n q t.by l.by s.by x.by y.by d.by r.by c.neg.ensures c.in_ok-taken.ensures.by c.in_ok-given.ensures.by c.in_ok-difference.ensures.by c.in_ok-replaced.ensures.by c.requires.by.0 c.requires.by.1 c.coefficient_at_lead-c.ensures;
      others = put_others K F n q t.by l.by s.by x.by y.by d.by r.by c.neg.ensures c.in_ok-taken.ensures.by c.in_ok-given.ensures.by c.in_ok-difference.ensures.by c.in_ok-replaced.ensures.by c.requires.by.0 c.requires.by.1;
      canonical = c.in_ok-replaced.ensures.canonical;
      tracks = λ S a b e. c.in_ok-replaced.ensures.tracks S a (c.in_ok-difference.ensures.tracks S (c.in_ok-taken.ensures.tracks S e) (c.in_ok-given.ensures.tracks S b));
      graded = λ k a b e. c.in_ok-replaced.ensures.graded k a (c.in_ok-difference.ensures.graded k (c.in_ok-taken.ensures.graded W k e) (c.in_ok-given.ensures.graded W k b));
    }

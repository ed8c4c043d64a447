use Rattle.std.proofs.Common.{◌≡◌, sym, ◌∙◌, ap, subst, refl, true≢false}
use Rattle.polynomials.specs.Polynomial.{coefficient, first_coefficient}
use Rattle.polynomials.specs.laws.Ring.{coefficient_value}
use Rattle.word_field.specs.laws.Field.{one-times}
use Rattle.monomial_order.specs.Monomial.{Exponents}
use Rattle.subduction.proofs.NextElement.{first_is, monic_of, multiple_of, zero_of}
use Rattle.subduction.proofs.new_elements.made_monic.Goals as goal

pub returns-then-eq : goal.returns-then-eq
returns-then-eq g c =
    let K = g.F.Field.ops c.args.p.now.field in
    let F = g.met.F.Field.laws c.args.p.now.field in
    let O = g.O.Order.order c.args.p.now.order in
    let t = c.args.t in
    let u = c.in-Some.first.now in
    let one : u.by ≡ K.one = (g.met.F.Field.eq_is u.by c.one.result).0 (sym c.eq.ensures ∙ c.if-eq.true) ∙ c.one.ensures in
    let f : first_coefficient K t.value ≡ K.one = ap (first_coefficient K) c.in-Some.ensures.first.1 ∙ one in
    let same : (m : Exponents) → coefficient K t.value m ≡ K.times K.one (coefficient K t.value m) = λ m. sym (one-times K F (coefficient K t.value m) ∙ coefficient_value K F t.value m) in
    record {
      multiple = subst (λ x. (m : Exponents) → coefficient K t.value m ≡ K.times x (coefficient K t.value m)) (sym f) same;
      monic = first_is K F O (g.met.O.Order.laws c.args.p.now.order) t.value c.requires.canonical.1.value.decreasing c.requires.nonzero ∙ f;
      value = λ m z. z;
      by = λ m z. z;
      canonical = λ W h. h;
      tracks = λ S h. h;
      graded = λ W d h. h;
      kept = λ _. refl;
    }

pub returns : goal.returns
returns g c =
    let K = g.F.Field.ops c.args.p.now.field in
    let F = g.met.F.Field.laws c.args.p.now.field in
    let O = g.O.Order.order c.args.p.now.order in
    let t = c.args.t in
    let r = c.in_ok-monic-in-Some-inv.monic in
    let b = c.in-Some-inv.inverse in
    let u = c.in-Some.first.now in
    let v = c.in_ok-monic-in-Some-inv.ensures.value in
    let f : u.by ≡ first_coefficient K t.value = sym (ap (first_coefficient K) c.in-Some.ensures.first.1) in
    let one = c.in-Some-inv.ensures.some in
    record {
      multiple = subst (λ x. (m : Exponents) → coefficient K t.value m ≡ K.times x (coefficient K r.value m)) f (multiple_of K F u.by b t.value r.value one v);
      monic = monic_of K F O (g.met.O.Order.laws c.args.p.now.order) u.by b t.value r.value c.requires.canonical.1.value.decreasing c.requires.nonzero f one v;
      value = zero_of K F b t.value r.value v;
      by = zero_of K F b t.by r.by c.in_ok-monic-in-Some-inv.ensures.by;
      canonical = c.in_ok-monic-in-Some-inv.ensures.canonical;
      tracks = c.in_ok-monic-in-Some-inv.ensures.tracks;
      graded = c.in_ok-monic-in-Some-inv.ensures.graded;
      kept = λ e. absurd (true≢false (sym ((g.met.F.Field.eq_is u.by c.one.result).1 ((f ∙ e) ∙ sym c.one.ensures)) ∙ (sym c.eq.ensures ∙ c.if-eq.false)));
    }

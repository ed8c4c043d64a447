use Rattle.std.proofs.Common.{◌∙◌, ap, sym, subst}
use Rattle.std.specs.Prelude.{IfOk}
use Rattle.polynomials.specs.Polynomial.{coefficient, Same}
use Rattle.polynomials.specs.laws.Same.{append_same}
use Rattle.subduction.proofs.Singles.{one_item}
use Rattle.subduction.proofs.term_sum.+sum_of_terms.Goals as goal

pub returns-in-len1-clause-sum : goal.returns-in-len1-clause-sum
returns-in-len1-clause-sum g t c =
    subst (λ p. IfOk c.single_term.result (λ r. Same (g.F.Field.ops c.args.f.now) r p)) (one_item c.args.terms.now c.t-item.result c.in-len1.len_at_least c.in-len1.len_below c.t-item.is) c.single_term.ensures.same

pub returns-in_ok-sum-in_default-clause-sum : goal.returns-in_ok-sum-in_default-clause-sum
returns-in_ok-sum-in_default-clause-sum g t c = λ m.
    let K = g.F.Field.ops c.args.f.now in
    c.in_ok-sum-in_default.ensures.sum m ∙
    (append_same K (g.met.F.Field.laws c.args.f.now) c.in_ok-left-in_default.left c.halves.result.0.now c.in_ok-right-in_default.right c.halves.result.1.now c.in_ok-left-in_default.ensures.sum c.in_ok-right-in_default.ensures.sum m ∙
    ap (λ p. coefficient K p m) (sym c.halves.ensures.whole))

use Rattle.std.proofs.Common.{◌++◌, arith}
use Rattle.polynomials.specs.Polynomial.{Same}
use Rattle.polynomials.specs.Value.{value, term_value}
use Rattle.poly_core.proofs.Steps.{if_ok, single}
use Rattle.poly_core.proofs.Evaluating.{single_value, value_halves}
use Rattle.poly_core.proofs.values.+sum_of_values.Goals as goal

pub returns-in-len1-clause-value : goal.returns-in-len1-clause-value
returns-in-len1-clause-value g t c =
    if_ok (λ r. Same (g.F.Field.ops c.args.f.now) r.items (term_value (g.F.Field.ops c.args.f.now) c.args.at.now c.t-item.result)) (λ r. Same (g.F.Field.ops c.args.f.now) r.items (value (g.F.Field.ops c.args.f.now) c.args.h.now c.args.at.now)) c.value_of_term.result
    (λ r. single_value (g.F.Field.ops c.args.f.now) (g.met.F.Field.laws c.args.f.now) c.args.at.now c.args.h.now c.t-item.result r.items (single c.args.h.now c.t-item.result (omega arith) (omega arith) c.t-item.is))
    c.value_of_term.ensures.value

pub returns-in_ok-smaller-in_default-clause-value : goal.returns-in_ok-smaller-in_default-clause-value
returns-in_ok-smaller-in_default-clause-value g t c =
    if_ok (λ r. Same (g.F.Field.ops c.args.f.now) r.items (c.in_ok-greater-in_default.greater.items ++ c.in_ok-smaller-in_default.smaller.items))
    (λ r. Same (g.F.Field.ops c.args.f.now) r.items (value (g.F.Field.ops c.args.f.now) c.args.h.now c.args.at.now)) c.merge.result
    (λ r. value_halves (g.F.Field.ops c.args.f.now) (g.met.F.Field.laws c.args.f.now) c.args.at.now c.args.h.now c.split_at.result.0.now c.split_at.result.1.now
    c.in_ok-greater-in_default.greater.items c.in_ok-smaller-in_default.smaller.items r.items c.split_at.ensures.by_index.0
    c.in_ok-greater-in_default.ensures.value c.in_ok-smaller-in_default.ensures.value)
    c.merge.ensures.sum

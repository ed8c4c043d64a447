use Rattle.std.proofs.Common.{subst, sym, ◌∙◌}
use Rattle.polynomials.specs.Polynomial.{AllAt}
use Rattle.witness.specs.Tracking.{values_of}
use Rattle.worked_bases.specs.Elements.{UsesBelow}
use Rattle.worked_bases.proofs.Elements.{next_element, same_test}
use Rattle.worked_bases.proofs.expansions.fourth.Goals as goal

pub judge_element-requires-clause-pair : goal.judge_element-requires-clause-pair
judge_element-requires-clause-pair c = (c.args.w.now, c.in_ok-t.ensures.pair)

pub returns : goal.returns
returns c =
    next_element c.args.p.now c.requires.valid c.args.w.now (values_of c.args.s.now) 4 c.in_ok-t.t c.in_ok-t.ensures.pair c.in_ok-t.ensures.made
    (sym c.degree.ensures ∙ same_test c.degree.result 4 c.in_ok-ensure.ensures)
    (subst (λ ds. AllAt (UsesBelow ds 4) c.in_ok-t.t.by) c.as_slice.ensures.value
    (subst (λ h. AllAt (UsesBelow c.as_slice.result.now 4) h) c.terms.ensures (c.uses_below.ensures c.in_ok-ensure-2.ensures)))

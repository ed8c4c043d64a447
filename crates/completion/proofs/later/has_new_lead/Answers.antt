use Rattle.std.proofs.Common.{◌-◌, sym, subst, length, arith}
use Rattle.std.specs.Prelude.{Contains}
use Rattle.std.proofs.lemmas.Bool.{ltb-false, ltb-true}
use Rattle.poly_core.specs.Presentation.{presented}
use Rattle.polynomials.specs.laws.NormalForm.{lead_is_monomial}
use Rattle.quotient_gb.specs.Quotient.{IsQuotientOf}
use Rattle.completion.proofs.ClosedBases.{new_lead}
use Rattle.completion.proofs.LastMembers.{got_contains, last_greatest}
use Rattle.completion.proofs.later.has_new_lead.Goals as goal

pub degree-requires-clause-monomial : goal.degree-requires-clause-monomial
degree-requires-clause-monomial g c =
    let P = presented g.F.Field.ops g.O.Order.order c.args.p.now in
    let H = c.requires.presentation.presentation in
    let ms = c.leads.result.now in
    let m = c.in-Some.last.now in
    let Q = subst (IsQuotientOf P) (sym c.quotient.ensures) c.requires.basis.quotient in
    lead_is_monomial P H m (c.leads.ensures.each P H Q m
    (got_contains ms (length ms - 1) m (sym c.in-Some.ensures.value))).0.leads

pub returns-in-Some-clause-yes : goal.returns-in-Some-clause-yes
returns-in-Some-clause-yes g c t =
    let P = presented g.F.Field.ops g.O.Order.order c.args.p.now in
    let H = c.requires.presentation.presentation in
    let ms = c.leads.result.now in
    let m = c.in-Some.last.now in
    let Q = subst (IsQuotientOf P) (sym c.quotient.ensures) c.requires.basis.quotient in
    new_lead P H c.args.basis.now c.requires.basis c.args.c m
    (c.leads.ensures.each P H Q m (got_contains ms (length ms - 1) m (sym c.in-Some.ensures.value))).0
    (let d = c.degree.ensures in let l = ltb-true c.args.c c.degree.result t in omega arith)

pub returns-in-Some-clause-no : goal.returns-in-Some-clause-no
returns-in-Some-clause-no g c t n k =
    let P = presented g.F.Field.ops g.O.Order.order c.args.p.now in
    let H = c.requires.presentation.presentation in
    let ms = c.leads.result.now in
    let m = c.in-Some.last.now in
    let Q = subst (IsQuotientOf P) (sym c.quotient.ensures) c.requires.basis.quotient in
    let is : Contains ms n = rw (c.leads.ensures.value, c.quotient.ensures) k in
    let low = last_greatest P.order H.order ms m (c.leads.ensures.increasing P H Q) (sym c.in-Some.ensures.value) n
    is in
    let d = c.degree.ensures in
    let l = ltb-false c.args.c c.degree.result t in omega arith

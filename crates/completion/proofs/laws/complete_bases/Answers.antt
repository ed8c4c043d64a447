use Rattle.std.proofs.Common.{arith}
use Rattle.completion.specs.Completion.{elements_of}
use Rattle.completion.proofs.ClosedBases.{decides_to}
use Rattle.completion.proofs.laws.complete_bases.Goals as goal

pub returns-clause-basis : goal.returns-clause-basis
returns-clause-basis g c P s H st begun closed d le =
    let a = st.at_degree begun in
    let low = a.words.0 in
    let top = st.basis.degree in
    c.closed_basis.ensures.basis P (elements_of s) s.degree d H (decides_to P H s.basis st.basis s.degree (omega arith))
    a.reduced closed le

pub returns-clause-leads : goal.returns-clause-leads
returns-clause-leads g c P s H st begun closed d =
    let a = st.at_degree begun in
    let low = a.words.0 in
    let top = st.basis.degree in
    c.closed_basis.ensures.all_leads P (elements_of s) s.degree d H
    (decides_to P H s.basis st.basis s.degree (omega arith)) a.reduced closed

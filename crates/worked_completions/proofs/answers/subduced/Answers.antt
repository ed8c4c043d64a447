use Rattle.std.proofs.Common.{◌≤◌, ◌∙◌, sym, subst, arith}
use Rattle.word_field.specs.Residues.{residues}
use Rattle.word_laws.specs.Words.{word_order_of}
use Rattle.poly_core.specs.Presentation.{weight_order_of}
use Rattle.poly_core.specs.Text.{AreValues}
use Rattle.poly_core.specs.laws.Text.{decreasing_values}
use Rattle.polynomials.specs.Polynomial.{degree_of}
use Rattle.worked_rows.specs.Rings.{IsIn, IsRing}
use Rattle.worked_completions.proofs.AtRest.{can_subduce, ring}
use Rattle.worked_completions.proofs.answers.subduced.Goals as goal

pub query-requires : goal.query-requires
query-requires c = subst IsRing (sym c.presentation.ensures) (ring c.args.c.now c.requires)

pub subduce-requires-clause-can : goal.subduce-requires-clause-can
subduce-requires-clause-can c =
    let a = c.in_ok-value.value in
    let same = c.presentation.ensures in
    let low : c.closed_degree.result ≤ c.args.c.now.degree = let e = c.closed_degree.ensures in omega arith in
    let within : degree_of (weight_order_of c.args.c.now.presentation.order) a ≤ c.closed_degree.result =
    subst (λ p. degree_of (weight_order_of p.order) a ≤ c.closed_degree.result) same c.in_ok-value.ensures.within in
    can_subduce c.args.c.now c.requires a c.zero-by.result c.zero-by.ensures
    (subst (λ p. IsIn p a) same c.in_ok-value.ensures.canonical) (omega arith)
    (subst (λ p. degree_of (weight_order_of p.order) a ≤ 30000) same c.in_ok-value.ensures.small)

pub subduced_text-requires-clause-valid : goal.subduced_text-requires-clause-valid
subduced_text-requires-clause-valid c =
    subst IsRing (sym c.presentation-2.ensures) c.in_ok-s.ensures.completion.presentation

pub subduced_text-requires-clause-word_sum : goal.subduced_text-requires-clause-word_sum
subduced_text-requires-clause-word_sum c =
    let K = residues c.args.c.now.presentation.field.modulus in
    subst (λ p. AreValues (residues p.field.modulus) c.in_ok-s.s.word_sum)
    (sym (c.presentation-2.ensures ∙ c.in_ok-s.ensures.unchanged.presentation))
    (decreasing_values K (word_order_of c.args.c.now.basis.words.letters) c.in_ok-s.s.word_sum
    c.in_ok-s.ensures.subduced.canonical_sum.decreasing)

pub subduced_text-requires-clause-rest : goal.subduced_text-requires-clause-rest
subduced_text-requires-clause-rest c =
    subst (λ p. IsIn p c.in_ok-s.s.rest.value)
    (sym (c.presentation-2.ensures ∙ c.in_ok-s.ensures.unchanged.presentation))
    c.in_ok-s.ensures.subduced.canonical.value

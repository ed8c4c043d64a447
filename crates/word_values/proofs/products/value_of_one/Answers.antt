use Rattle.std.proofs.Common.{◌≡◌, ◌≢◌, ◌∙◌, sym, ap, subst, inl, [], ◌∷◌, arith}
use Rattle.monomial_order.specs.laws.Comparing.{degree_one}
use Rattle.polynomials.specs.Polynomial.{constant, term_of, IsCanonical, degree_of}
use Rattle.poly_core.specs.Presentation.{presented}
use Rattle.witness.specs.Tracking.{values_of}
use Rattle.word_values.proofs.Multiplying.{one_canonical, one_is_value}
use Rattle.word_values.proofs.products.value_of_one.Goals as goal

pub normal_form-requires-clause-canonical : goal.normal_form-requires-clause-canonical
normal_form-requires-clause-canonical g c =
    let P = presented g.F.Field.ops g.O.Order.order c.args.p.now in
    let H = c.requires.presentation.presentation in
    let one : c.in_ok-one.one ≡ constant P.field P.field.one =
    c.in_ok-one.ensures.term (subst (λ x. x ≢ P.field.zero) (sym c.one-2.ensures) H.field.one_not_zero) ∙
    (ap (λ m. term_of m c.one-2.result ∷ []) c.one.ensures ∙ ap (constant P.field) c.one-2.ensures) in
    subst (IsCanonical P.field P.order) (sym one) (one_canonical P H)

pub normal_form-requires-clause-degree : goal.normal_form-requires-clause-degree
normal_form-requires-clause-degree g c =
    let P = presented g.F.Field.ops g.O.Order.order c.args.p.now in
    let H = c.requires.presentation.presentation in
    let one : c.in_ok-one.one ≡ constant P.field P.field.one =
    c.in_ok-one.ensures.term (subst (λ x. x ≢ P.field.zero) (sym c.one-2.ensures) H.field.one_not_zero) ∙
    (ap (λ m. term_of m c.one-2.result ∷ []) c.one.ensures ∙ ap (constant P.field) c.one-2.ensures) in
    let d : degree_of P.order c.in_ok-one.one ≡ 0 = ap (degree_of P.order) one ∙ degree_one P.order H.order in
    inl (omega arith)

pub returns : goal.returns
returns g c =
    let P = presented g.F.Field.ops g.O.Order.order c.args.p.now in
    let H = c.requires.presentation.presentation in
    let one : c.in_ok-one.one ≡ constant P.field P.field.one =
    c.in_ok-one.ensures.term (subst (λ x. x ≢ P.field.zero) (sym c.one-2.ensures) H.field.one_not_zero) ∙
    (ap (λ m. term_of m c.one-2.result ∷ []) c.one.ensures ∙ ap (constant P.field) c.one-2.ensures) in
    one_is_value P H (values_of c.args._elements.now) c.in_ok-one.one one c.in_ok-value.value c.in_ok-value.ensures.canonical c.in_ok-value.ensures.normal

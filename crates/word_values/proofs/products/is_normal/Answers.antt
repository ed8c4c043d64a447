use Rattle.std.proofs.Common.{◌≡◌, ◌≤◌, ◌⊎◌, inl, inr, ⊎_elim, subst, ◌∙◌, true, arith}
use Rattle.std.specs.Prelude.{All}
use Rattle.std.proofs.lemmas.List.{take_all}
use Rattle.std.proofs.lemmas.List.Elements.{All-more}
use Rattle.monomial_order.specs.Monomial.{Exponents, IsMonomial}
use Rattle.polynomials.specs.Subalgebra.{IsStandard}
use Rattle.poly_core.specs.Presentation.{presented}
use Rattle.word_values.proofs.Multiplying.{own_normal_form}
use Rattle.word_values.proofs.products.is_normal.Goals as goal

pub terms-preserved : goal.terms-preserved
terms-preserved g c =
    let P = presented g.F.Field.ops g.O.Order.order c.args._p.now in
    All-more (λ t. IsMonomial P.order.places t.at × ((P.order.degree t.at ≤ c.args.q.now.degree) ⊎ (c.args.q.now.closed ≡ true)) → IsStandard P t.at)
    c.terms-t-items.result.now c.terms.t-index c.t-item.result c.terms-test.true c.terms.invariant
    (subst (λ t. IsMonomial P.order.places t.at × ((P.order.degree t.at ≤ c.args.q.now.degree) ⊎ (c.args.q.now.closed ≡ true)) → IsStandard P t.at) c.t-item.is
    (λ h. c.is_standard.ensures.yes c.if-not-is_standard.false P c.requires.presentation.presentation c.requires.quotient h.0 h.1))

pub returns : goal.returns
returns g c _ =
    let P = presented g.F.Field.ops g.O.Order.order c.args._p.now in
    let Known : Exponents → Type 0 = λ m. (P.order.degree m ≤ c.args.q.now.degree) ⊎ (c.args.q.now.closed ≡ true) in
    own_normal_form P c.requires.presentation.presentation c.args.a.now Known c.requires.canonical.decreasing
    (λ m z. ⊎_elim (λ d. inl (d m z)) (λ k. inr k) c.requires.degree)
    (subst (All (λ t. IsMonomial P.order.places t.at × Known t.at → IsStandard P t.at))
    (take_all c.terms.t-index c.terms-t-items.result.now (omega arith) ∙ c.terms-t-items.ensures) c.terms.invariant)

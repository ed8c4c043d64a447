use Rattle.std.proofs.Common.{ℕ, ◌<◌, ◌≤◌, arith, ◌∙◌, refl, sym, ap, subst, length}
use Rattle.std.proofs.lemmas.List.{length-map}
use Rattle.polynomials.specs.Polynomial.{lead_monomial}
use Rattle.poly_core.specs.Presentation.{presented}
use Rattle.quotient_gb.specs.Quotient.{IsQuotientOf}
use Rattle.quotient_gb.proofs.EveryDegree.{closed_quotient}
use Rattle.quotient_gb.proofs.Extending.{restored}
use Rattle.quotient_gb.proofs.Finishing.{quotient_above}
use Rattle.quotient_gb.proofs.quotient.Quotient.extend_to.Goals as goal

pub returns-then-self-clause-quotient : goal.returns-then-self-clause-quotient
returns-then-self-clause-quotient g c =
    let P = presented g.F.Field.ops g.O.Order.order c.args.p.now in
    closed_quotient P _ (subst (IsQuotientOf P) (sym c.self.view_is) c.requires.quotient) c.if-self.true c.args.c (at_most c.self.inside.degree c.args.c c.if-c-degree.false) c.requires.small
  where
    at_most : (a b : ℕ) → a < b → a ≤ b
    at_most a b l = omega arith

pub returns-in-Ok-clause-quotient : goal.returns-in-Ok-clause-quotient
returns-in-Ok-clause-quotient g c =
    let P = presented g.F.Field.ops g.O.Order.order c.args.p.now in
    quotient_above P _ _ (subst (IsQuotientOf P) (sym c.self-2.view_is) c.in-Ok.ensures.quotient) refl refl refl refl c.retain_above.ensures

pub returns-in-Err-clause-memory : goal.returns-in-Err-clause-memory
returns-in-Err-clause-memory g c =
    let q = c.args.self.now in
    restored q c.add_degrees.new.self _ _ c.in-Err.ensures.extension c.self-2.view_is _ _
    (ap length c.as_slice-members.ensures.value ∙ ap (λ z. length z.members) c.self.view_is) (ap length c.requires.quotient.leads ∙ length-map q.members lead_monomial)
    (ap length c.as_slice-pairs.ensures.value ∙ ap (λ z. length z.pairs) c.self.view_is) (ap (λ z. z.degree) c.self.view_is) c.truncate-in-Err.ensures.items c.truncate.ensures.items c.truncate-in-Err-2.ensures.items refl

pub returns-in-Err-clause-quotient : goal.returns-in-Err-clause-quotient
returns-in-Err-clause-quotient g c = subst (IsQuotientOf (presented g.F.Field.ops g.O.Order.order c.args.p.now)) (sym (returns-in-Err-clause-memory g c)) c.requires.quotient

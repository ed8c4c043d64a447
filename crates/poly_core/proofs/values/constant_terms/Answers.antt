use Rattle.std.proofs.Common.{◌≤◌, ◌∷◌, ◌++◌, [], arith, sym, ap, subst, ◌∙◌, refl}
use Rattle.polynomials.specs.Polynomial.{term_of, constant, AllAt, IsCanonical, Same}
use Rattle.poly_core.proofs.Merging.{told_differ, told_same}
use Rattle.poly_core.proofs.Calls.{canonical_constant, zero_constant}
use Rattle.poly_core.proofs.values.constant_terms.Goals as goal
use Rattle.poly_core.proofs.values.constant_terms.Goals.{then-ne+in_ok-push, else-ne}
use Rattle.monomial_order.specs.laws.Comparing.{degree_one}

pub returns-clause-canonical : goal.returns-clause-canonical
returns-clause-canonical g c =
    elim c.if-ne.branch [
      | then-ne+in_ok-push w ↦
          subst (λ v. IsCanonical (g.F.Field.ops c.args.f.now) (g.O.Order.order c.args.o.now) v.items) (sym w.terms-is)
          (subst (IsCanonical (g.F.Field.ops c.args.f.now) (g.O.Order.order c.args.o.now)) (sym (w.in_ok-push.ensures.items ∙ (ap (λ x. x ++ (term_of w.one.result c.args.c ∷ [])) c.new-terms.ensures.items ∙ ap (λ m. term_of m c.args.c ∷ []) w.one.ensures)))
          (canonical_constant (g.F.Field.ops c.args.f.now) (g.O.Order.order c.args.o.now) (g.met.O.Order.laws c.args.o.now) c.args.c c.requires
          (λ z. told_differ c.ne.result (g.F.Elem.PartialEq.eq c.args.c c.zero.result) w.if-ne.true c.ne.ensures
          ((g.met.F.Field.eq_is c.args.c c.zero.result).1 (z ∙ sym c.zero.ensures)))))
      | else-ne w ↦ subst (λ v. IsCanonical (g.F.Field.ops c.args.f.now) (g.O.Order.order c.args.o.now) v.items) (sym w.terms-is) (subst (IsCanonical (g.F.Field.ops c.args.f.now) (g.O.Order.order c.args.o.now)) (sym c.new-terms.ensures.items) record { decreasing = tt; small = tt })
    ]

pub returns-clause-constant : goal.returns-clause-constant
returns-clause-constant g c =
    elim c.if-ne.branch [
      | then-ne+in_ok-push w ↦
          subst (λ v. Same (g.F.Field.ops c.args.f.now) v.items (constant (g.F.Field.ops c.args.f.now) c.args.c)) (sym w.terms-is)
          (subst (λ p. Same (g.F.Field.ops c.args.f.now) p (constant (g.F.Field.ops c.args.f.now) c.args.c)) (sym (w.in_ok-push.ensures.items ∙ (ap (λ x. x ++ (term_of w.one.result c.args.c ∷ [])) c.new-terms.ensures.items ∙ ap (λ m. term_of m c.args.c ∷ []) w.one.ensures))) (λ m. refl))
      | else-ne w ↦
          subst (λ v. Same (g.F.Field.ops c.args.f.now) v.items (constant (g.F.Field.ops c.args.f.now) c.args.c)) (sym w.terms-is)
          (subst (λ p. Same (g.F.Field.ops c.args.f.now) p (constant (g.F.Field.ops c.args.f.now) c.args.c)) (sym c.new-terms.ensures.items)
          (zero_constant (g.F.Field.ops c.args.f.now) (g.met.F.Field.laws c.args.f.now) c.args.c
          ((g.met.F.Field.eq_is c.args.c c.zero.result).0
          (told_same c.ne.result (g.F.Elem.PartialEq.eq c.args.c c.zero.result) w.if-ne.false c.ne.ensures) ∙ c.zero.ensures)))
    ]

pub returns-clause-degree : goal.returns-clause-degree
returns-clause-degree g c =
    elim c.if-ne.branch [
      | then-ne+in_ok-push w ↦
          subst (λ v. AllAt (λ m. (g.O.Order.order c.args.o.now).degree m ≤ 0) v.items) (sym w.terms-is)
          (subst (AllAt (λ m. (g.O.Order.order c.args.o.now).degree m ≤ 0)) (sym (w.in_ok-push.ensures.items ∙ (ap (λ x. x ++ (term_of w.one.result c.args.c ∷ [])) c.new-terms.ensures.items ∙ ap (λ m. term_of m c.args.c ∷ []) w.one.ensures))) (let z = degree_one (g.O.Order.order c.args.o.now) (g.met.O.Order.laws c.args.o.now) in omega arith, tt))
      | else-ne w ↦
          subst (λ v. AllAt (λ m. (g.O.Order.order c.args.o.now).degree m ≤ 0) v.items) (sym w.terms-is) (subst (AllAt (λ m. (g.O.Order.order c.args.o.now).degree m ≤ 0)) (sym c.new-terms.ensures.items) tt)
    ]

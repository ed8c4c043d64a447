use Rattle.std.proofs.Common.{◌≡◌, ◌+◌, ◌<◌, [], length, get_or, subst, sym, ◌∙◌, ap, arith, inr}
use Rattle.std.proofs.lemmas.List.{length-map, get_or-map, get_or_default}
use Rattle.std.proofs.lemmas.Result.{IfOk-weaker}
use Rattle.poly_core.specs.Presentation.{presented}
use Rattle.witness.specs.Expansion.{IsReplacement}
use Rattle.witness.specs.Tracking.{by_order, letter_poly, values_of, IsTrackedElement}
use Rattle.witness.proofs.Replacing.{letter_replacement, witness_replacement, degrees_places}
use Rattle.witness.proofs.expansion.replacement.Goals as goal

pub returns-then-index-degree : goal.returns-then-index-degree
returns-then-index-degree g c =
    let P = presented g.F.Field.ops g.O.Order.order c.args.p.now in
    let s = c.args.s.now in
    let w = c.args.w.now in
    let ds = w.s_degrees.items in
    let i = c.args.i in
    let k = length c.args.p.now.generators.items in
    let t = c.index-s-i.result in
    let long : c.len.result ≡ k = let a = c.len.ensures in let b = c.args.p.now.generators.ok in omega arith in
    let inside : k + i < length ds = let a = degrees_places P c.requires.valid.presentation (values_of s) w c.requires.order in let n = length-map s (λ u. u.value) in let e = c.requires.element in omega arith in
    IfOk-weaker c.copy.result (λ r. r ≡ (get_or s i t).by) (IsReplacement P (by_order w) (values_of s) ds c.args.degree (k + i))
    (λ r e. subst (IsReplacement P (by_order w) (values_of s) ds c.args.degree (k + i)) (sym (e ∙ ap (λ u. u.by) (sym c.index-s-i.is)))
    (witness_replacement P c.requires.valid.presentation (values_of s) w c.requires.order c.args.degree i t
    (let n = length-map s (λ u. u.value) in let a = c.requires.element in omega arith)
    (get_or-map (λ u. u.value) s i t [] c.requires.element ∙ ap (λ u. u.value) (sym c.index-s-i.is))
    (get_or_default ds (k + i) 0 c.index.result.now inside ∙ (ap (λ n. get_or ds (n + i) c.index.result.now) (sym long) ∙ (sym c.index.ensures ∙ c.if-index-degree.true)))
    (subst (IsTrackedElement P (by_order w) (values_of s)) (sym c.index-s-i.is) (c.requires.elements i t c.requires.element))))
    c.copy.ensures

pub returns-else-index-degree : goal.returns-else-index-degree
returns-else-index-degree g c =
    let P = presented g.F.Field.ops g.O.Order.order c.args.p.now in
    let s = c.args.s.now in
    let w = c.args.w.now in
    let ds = w.s_degrees.items in
    let i = c.args.i in
    let k = length c.args.p.now.generators.items in
    let long : c.len.result ≡ k = let a = c.len.ensures in let b = c.args.p.now.generators.ok in omega arith in
    let places = degrees_places P c.requires.valid.presentation (values_of s) w c.requires.order in
    let n = length-map s (λ u. u.value) in
    let e = c.requires.element in
    let inside : k + i < length ds = omega arith in
    IfOk-weaker c.letter.result (λ r. r ≡ letter_poly P.field (c.len.result + i)) (IsReplacement P (by_order w) (values_of s) ds c.args.degree (k + i))
    (λ r e. subst (IsReplacement P (by_order w) (values_of s) ds c.args.degree (k + i)) (sym (e ∙ ap (λ n. letter_poly P.field (n + i)) long))
    (letter_replacement P c.requires.valid.presentation (values_of s) w c.requires.order c.args.degree (k + i) c.requires.positive (omega arith)
    (inr (λ z. c.if-index-degree.false (c.index.ensures ∙ (ap (λ n. get_or ds (n + i) c.index.result.now) long ∙ (get_or_default ds (k + i) c.index.result.now 0 inside ∙ z)))))))
    c.letter.ensures.letter

use Rattle.std.proofs.Common.{◌≡◌, ◌∙◌, None, Some, ap, refl, subst}
use Rattle.monomial_order.specs.MonomialOrder.{MonomialOrder}
use Rattle.poly_core.specs.Presentation.{presented, weight_order_of}
use Rattle.polynomial_text.specs.Canonical.{AreDifferent}
use Rattle.witness.specs.Tracking.{by_order, IsGraded}
use Rattle.completion.specs.LetterNames.{element_names}
use Rattle.state_text.specs.LineReadings.{IsReadingWith, IsWordReading}
use Rattle.state_text.proofs.RelationLines.{relation_parted, word_text, no_right, relation_text}
use Rattle.state_text.proofs.relation_line.read_relation.Goals as goal

pub returns-in_default : goal.returns-in_default
returns-in_default g c S order = λ r k.
    let P = presented g.F.Field.ops weight_order_of c.args.p.now in
    let names_are : c.letters-letters.result ≡ element_names P.order.places = c.letters-letters.ensures.is ∙ ap element_names c.places.ensures in
    let different = subst (λ names. let W : MonomialOrder = by_order c.args.w.now in AreDifferent W.places names) names_are c.letters-letters.ensures.different in
    c.in_default.ensures.none refl _ _ (relation_parted P c.requires.valid.presentation c.has_short_words.ensures S c.args.w.now order c.args.c c.requires.bound different c.args.line.now r k)

pub returns-in_default-2 : goal.returns-in_default-2
returns-in_default-2 g c S order = λ r k.
    let P = presented g.F.Field.ops weight_order_of c.args.p.now in
    let names_are : c.letters-letters.result ≡ element_names P.order.places = c.letters-letters.ensures.is ∙ ap element_names c.places.ensures in
    let different = subst (λ names. let W : MonomialOrder = by_order c.args.w.now in AreDifferent W.places names) names_are c.letters-letters.ensures.different in
    let never = subst (λ names. IsWordReading (by_order c.args.w.now) names c.args.c c.in-Some.word.now None) names_are (rw c.in_default-2.is at c.in_ok-word.ensures) in
    let text = word_text P c.requires.valid.presentation c.has_short_words.ensures S c.args.w.now order c.args.c c.requires.bound different c.args.line.now r k c.in-Some.word.now c.in-Some.right.now c.in-Some.ensures.some in
    never r.word text.0 text.1

pub returns-in_default-3 : goal.returns-in_default-3
returns-in_default-3 g c S order =
    let P = presented g.F.Field.ops weight_order_of c.args.p.now in
    let names_are : c.letters-letters.result ≡ element_names P.order.places = c.letters-letters.ensures.is ∙ ap element_names c.places.ensures in
    let different = subst (λ names. let W : MonomialOrder = by_order c.args.w.now in AreDifferent W.places names) names_are c.letters-letters.ensures.different in
    let word = subst (λ names. IsWordReading (by_order c.args.w.now) names c.args.c c.in-Some.word.now (Some c.in-Some-2.word)) names_are (rw c.in-Some-2.is at c.in_ok-word.ensures) in
    let never = subst (λ names. IsReadingWith P.field (by_order c.args.w.now) names (IsGraded P.field (by_order c.args.w.now) c.degree-degree.result) c.in-Some.right.now None) names_are (rw c.in_default-3.is at c.in_ok-right.ensures) in
    no_right P c.requires.valid.presentation c.has_short_words.ensures S c.args.w.now order c.args.c c.requires.bound different c.args.line.now c.in-Some.word.now c.in-Some.right.now c.in-Some.ensures.some c.in-Some-2.word word.0 word.1
    (subst (λ d. IsReadingWith P.field (by_order c.args.w.now) (element_names P.order.places) (IsGraded P.field (by_order c.args.w.now) d) c.in-Some.right.now None) c.degree-degree.ensures never)

pub returns : goal.returns
returns g c S order =
    let P = presented g.F.Field.ops weight_order_of c.args.p.now in
    let names_are : c.letters-letters.result ≡ element_names P.order.places = c.letters-letters.ensures.is ∙ ap element_names c.places.ensures in
    let different = subst (λ names. let W : MonomialOrder = by_order c.args.w.now in AreDifferent W.places names) names_are c.letters-letters.ensures.different in
    let word = subst (λ names. IsWordReading (by_order c.args.w.now) names c.args.c c.in-Some.word.now (Some c.in-Some-2.word)) names_are (rw c.in-Some-2.is at c.in_ok-word.ensures) in
    let right = subst (λ names. IsReadingWith P.field (by_order c.args.w.now) names (IsGraded P.field (by_order c.args.w.now) c.degree-degree.result) c.in-Some.right.now (Some c.in-Some-3.right)) names_are (rw c.in-Some-3.is at c.in_ok-right.ensures) in
    relation_text P c.requires.valid.presentation c.has_short_words.ensures S c.args.w.now order c.args.c c.requires.bound different c.args.line.now c.in-Some.word.now c.in-Some.right.now c.in-Some.ensures.some c.in-Some-2.word word.0 word.1 c.in-Some-3.right right.0
    (subst (λ d. IsGraded P.field (by_order c.args.w.now) d c.in-Some-3.right) c.degree-degree.ensures right.1)

use Rattle.std.proofs.Common.{None, Some, length, refl, subst}
use Rattle.poly_core.specs.Presentation.{presented, weight_order_of}
use Rattle.polynomial_text.specs.laws.Names.{names_differ}
use Rattle.witness.specs.Tracking.{by_order}
use Rattle.state_text.specs.LineReadings.{IsReadingWith}
use Rattle.state_text.specs.Parts.{usable, IsDueWitness}
use Rattle.state_text.specs.StateText.{letters_of}
use Rattle.state_text.proofs.ElementLines.{text_parted, value_text, value_not_due, no_witness, element_text}
use Rattle.state_text.proofs.element_line.read_element.Goals as goal

pub returns-in_default : goal.returns-in_default
returns-in_default g c S order = λ t k.
    let P = presented g.F.Field.ops weight_order_of c.args.p.now in
    c.in_default.ensures.none refl _ _ (text_parted P c.requires.valid.presentation c.has_short_words.ensures c.args.p.now.names c.requires.valid.names c.args.version c.args.c c.requires.bound S c.args.w.now order c.args.line.now t k)

pub read_canonical-requires : goal.read_canonical-requires
read_canonical-requires g c = names_differ (length c.args.p.now.order.weights.items) c.args.p.now.names c.requires.valid.names

pub returns-in_default-2 : goal.returns-in_default-2
returns-in_default-2 g c S order = λ t k.
    let P = presented g.F.Field.ops weight_order_of c.args.p.now in
    let never = rw c.in_default-2.is at c.in_ok-value.ensures in
    never t.value (value_text P c.requires.valid.presentation c.has_short_words.ensures c.args.p.now.names c.requires.valid.names c.args.version c.args.c c.requires.bound S c.args.w.now order c.args.line.now t k c.in-Some.value.now c.in-Some.witness.now c.in-Some.ensures.some)

pub returns-in_default-due_degree : goal.returns-in_default-due_degree
returns-in_default-due_degree g c S order =
    let P = presented g.F.Field.ops weight_order_of c.args.p.now in
    value_not_due P c.requires.valid.presentation c.has_short_words.ensures c.args.p.now.names c.requires.valid.names c.args.version c.args.c c.requires.bound S c.args.w.now order c.args.line.now c.in-Some.value.now c.in-Some.witness.now c.in-Some.ensures.some c.in-Some-2.value (rw c.in-Some-2.is at c.in_ok-value.ensures) (c.in_default-due_degree.ensures.none refl)

pub returns-in_default-3 : goal.returns-in_default-3
returns-in_default-3 g c S order =
    let P = presented g.F.Field.ops weight_order_of c.args.p.now in
    no_witness P c.requires.valid.presentation c.has_short_words.ensures c.args.p.now.names c.requires.valid.names c.args.version c.args.c c.requires.bound S c.args.w.now order c.args.line.now c.in-Some.value.now c.in-Some.witness.now c.in-Some.ensures.some c.in-Some-2.value (rw c.in-Some-2.is at c.in_ok-value.ensures)
    (subst (λ d. IsReadingWith P.field (by_order c.args.w.now) (letters_of c.args.version (length P.generators)) (IsDueWitness P (usable c.args.version S) d) c.in-Some.witness.now None) c.in-Some-due_degree.ensures.degree
    (rw c.in_default-3.is at (c.in_ok-by.ensures (usable c.args.version S) order)))

pub returns : goal.returns
returns g c S order =
    let P = presented g.F.Field.ops weight_order_of c.args.p.now in
    let by =
    subst (λ d. IsReadingWith P.field (by_order c.args.w.now) (letters_of c.args.version (length P.generators)) (IsDueWitness P (usable c.args.version S) d) c.in-Some.witness.now (Some c.in-Some-3.by)) c.in-Some-due_degree.ensures.degree
    (rw c.in-Some-3.is at (c.in_ok-by.ensures (usable c.args.version S) order)) in
    element_text P c.requires.valid.presentation c.has_short_words.ensures c.args.p.now.names c.requires.valid.names c.args.version c.args.c c.requires.bound S c.args.w.now order c.args.line.now c.in-Some.value.now c.in-Some.witness.now c.in-Some.ensures.some c.in-Some-2.value (rw c.in-Some-2.is at c.in_ok-value.ensures) c.in-Some-due_degree.ensures.some c.in-Some-3.by by.0 by.1

use Rattle.std.proofs.Common.{◌≡◌, ◌≤◌, ◌-◌, ◌∙◌, sym, subst, ap, length, arith}
use Rattle.std.specs.Prelude.{map, Contains}
use Rattle.std.proofs.lemmas.Bool.{ltb-false, ltb-true}
use Rattle.monomial_order.specs.laws.Lists.{contains_map}
use Rattle.poly_core.specs.Presentation.{presented}
use Rattle.toric_ideal.specs.declared.rule.Rule.{Rule}
use Rattle.toric_ideal.specs.Listing.{Listing}
use Rattle.word_laws.specs.Words.{word_order_of}
use Rattle.witness.specs.Tracking.{values_of}
use Rattle.word_values.specs.Values.{word_degree}
use Rattle.subduction.specs.laws.Decisions.{zeros_represent}
use Rattle.completion.proofs.ClosedBases.{new_word, rules_are, words_order}
use Rattle.completion.proofs.LastMembers.{got_contains, last_greatest, mapped_last}
use Rattle.completion.proofs.later.has_new_word.Goals as goal

pub returns-in-Some-clause-yes : goal.returns-in-Some-clause-yes
returns-in-Some-clause-yes g c t =
    let P = presented g.F.Field.ops g.O.Order.order c.args.p.now in
    let H = c.requires.presentation.presentation in
    let b = c.args.basis.now in
    let B = c.requires.basis in
    let rs = c.rules.result.now in
    let r = c.in-Some.last.now in
    let is : Contains b.words.rules r =
    subst (λ xs. Contains xs r) (c.rules.ensures.same ∙ ap (λ (W : Listing). W.rules) c.words.ensures)
    (got_contains rs (length rs - 1) r (sym c.in-Some.ensures.value)) in
    let same : c.degree.result ≡ word_degree P (values_of b.elements) r.word =
    rw (c.order.ensures.x, c.order.ensures.s, c.words-in-Some.ensures, B.letters) at c.degree.ensures in
    new_word P H b B c.args.c (zeros_represent P H b B c.decisions.ensures.zero_words) r is
    (let l = ltb-true c.args.c c.degree.result t in omega arith)

pub returns-in-Some-clause-no : goal.returns-in-Some-clause-no
returns-in-Some-clause-no g c t s k =
    let P = presented g.F.Field.ops g.O.Order.order c.args.p.now in
    let H = c.requires.presentation.presentation in
    let b = c.args.basis.now in
    let B = c.requires.basis in
    let rs = b.words.rules in
    let r = c.in-Some.last.now in
    let at : Rattle.std.specs.Prelude.slice_get rs (length rs - 1) ≡ Rattle.std.proofs.Common.Some r =
    rw (c.rules.ensures.same, c.words.ensures) at (sym c.in-Some.ensures.value) in
    let same : c.degree.result ≡ word_degree P (values_of b.elements) r.word =
    rw (c.order.ensures.x, c.order.ensures.s, c.words-in-Some.ensures, B.letters) at c.degree.ensures in
    let low : word_degree P (values_of b.elements) s.word ≤ word_degree P (values_of b.elements) r.word =
    last_greatest (word_order_of (Rattle.subalgebra_laws.specs.Words.letters P (values_of b.elements)))
    (words_order P H b B)
    (map (λ (x : Rule). x.word) rs) r.word (rules_are P H b B).increasing (mapped_last (λ (x : Rule). x.word) rs r at)
    s.word (contains_map (λ (x : Rule). x.word) rs s k) in
    let l = ltb-false c.args.c c.degree.result t in omega arith

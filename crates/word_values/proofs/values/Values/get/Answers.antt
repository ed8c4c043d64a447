use Rattle.std.proofs.Common.{◌∙◌, refl, sym, ap, ⊎_elim, inl, inr, arith}
use Rattle.std.specs.Prelude.{nat_eq}
use lib.Pointwise.{pointwise}
use Rattle.std.specs.HashMap.{get_by}
use Rattle.std.proofs.lemmas.List.{length-map}
use Rattle.poly_core.specs.Presentation.{presented}
use Rattle.witness.specs.Tracking.{values_of}
use Rattle.word_values.specs.Values.{IsWordValue, value_in}
use Rattle.word_values.specs.laws.Letters.{single_range}
use Rattle.word_values.proofs.Multiplying.{single_is_value}
use Rattle.word_values.proofs.Tables.{lookup_map, found_value, some_found, some_back}
use Rattle.word_values.proofs.values.Values.get.Goals as goal

pub element-requires-clause-first : goal.element-requires-clause-first
element-requires-clause-first g c =
    let P = presented g.F.Field.ops g.O.Order.order c.args.p.now in
    (single_range P (values_of c.args.elements.now) c.args.w.now c.in-Some.letter c.requires.word c.in-Some.ensures.letter).0

pub element-requires-clause-last : goal.element-requires-clause-last
element-requires-clause-last g c =
    let P = presented g.F.Field.ops g.O.Order.order c.args.p.now in
    let r = (single_range P (values_of c.args.elements.now) c.args.w.now c.in-Some.letter c.requires.word c.in-Some.ensures.letter).1 in
    let n = length-map c.args.elements.now (λ t. t.value) in
    omega arith

pub returns-in-Some-clause-value : goal.returns-in-Some-clause-value
returns-in-Some-clause-value g c =
    let P = presented g.F.Field.ops g.O.Order.order c.args.p.now in
    let r = single_range P (values_of c.args.elements.now) c.args.w.now c.in-Some.letter c.requires.word c.in-Some.ensures.letter in
    single_is_value P c.requires.presentation.presentation (values_of c.args.elements.now) c.requires.elements c.args.w.now c.in-Some.letter c.element.result.now r.0 r.1
    c.in-Some.ensures.letter c.element.ensures

pub returns-in-None-clause-value : goal.returns-in-None-clause-value
returns-in-None-clause-value g c =
    let P = presented g.F.Field.ops g.O.Order.order c.args.p.now in
    let S = values_of c.args.elements.now in
    let at = lookup_map (λ k. k.items) (pointwise nat_eq c.args.w.now) c.self.inside.kept.entries in
    let same = ap (λ m. get_by (λ k. pointwise nat_eq m k.items) c.self.inside.kept) c.as_slice.ensures.same in
    found_value c.get.result (value_in c.args.self.now c.args.w.now)
    (c.get.ensures.value ∙ (same ∙ (sym at ∙ ap (λ t. value_in t c.args.w.now) c.self.view_is)))
    (IsWordValue P S c.args.w.now)
    (λ v e. (c.requires.values c.args.w.now v e).value)

pub returns-in-Some-clause-ready : goal.returns-in-Some-clause-ready
returns-in-Some-clause-ready g c = (λ s. inl (c.in-Some.letter, c.in-Some.ensures.letter), λ r. refl)

pub returns-in-None-clause-ready : goal.returns-in-None-clause-ready
returns-in-None-clause-ready g c =
    let at = lookup_map (λ k. k.items) (pointwise nat_eq c.args.w.now) c.self.inside.kept.entries in
    let same = ap (λ m. get_by (λ k. pointwise nat_eq m k.items) c.self.inside.kept) c.as_slice.ensures.same in
    let value = c.get.ensures.value ∙ (same ∙ (sym at ∙ ap (λ t. value_in t c.args.w.now) c.self.view_is)) in (
      λ s. inr (some_back c.get.result (value_in c.args.self.now c.args.w.now) value s),
      ⊎_elim (λ l. absurd (c.in-None.ensures.none refl l)) (λ s. some_found c.get.result (value_in c.args.self.now c.args.w.now) value s),
    )

use Rattle.std.proofs.Common.{◌≤◌, ◌+◌, ◌↔◌, ◌≡◌, sym, ◌∙◌, subst, ℕ, get_or, arith}
use Rattle.std.proofs.lemmas.List.{get_or_default}
use Rattle.witness.proofs.Greatest.{Before, step_with, step_without, all_places, max_both}
use Rattle.witness.proofs.expansion.greatest_letter.Goals as goal
use Rattle.witness.proofs.expansion.greatest_letter.Goals.{then-exponent-gt0, else-exponent-gt0}

pub places-preserved : goal.places-preserved
places-preserved c = elim c.if-exponent-gt0.branch [
  | then-exponent-gt0 w ↦
      let ds = c.args.w.now.s_degrees.items in
      let at : w.index.result.now ≡ get_or ds c.places.place 0 = w.index.ensures ∙ get_or_default ds c.places.place w.index.result.now 0 (let a = c.places-test.true in let b = c.requires.within in let d = c.places-place-end.ensures.length in let e = c.places.auto.place-end in omega arith) in
      step_with c.args.k ds c.args.m.now c.places.place c.places.greatest c.if-exponent-gt0.greatest c.places.auto.place
      (λ z. let a = w.if-exponent-gt0.true in let b = c.exponent.ensures in omega arith)
      (λ b. subst (λ x. c.if-exponent-gt0.greatest ≤ b ↔ ((c.places.greatest ≤ b) × (x ≤ b))) at (max_both c.places.greatest w.index.result.now c.if-exponent-gt0.greatest b (w.greatest-is ∙ w.max-greatest.ensures)))
      c.places.invariant
  | else-exponent-gt0 w ↦
      subst (λ g. (b : ℕ) → g ≤ b ↔ Before c.args.k c.args.w.now.s_degrees.items c.args.m.now (c.places.place + 1) b) (sym w.greatest-is)
      (step_without c.args.k c.args.w.now.s_degrees.items c.args.m.now c.places.place c.places.greatest
      (λ n. let a = w.if-exponent-gt0.false in let b = c.exponent.ensures in n (omega arith)) c.places.invariant)
]

pub returns : goal.returns
returns c =
    all_places c.args.k c.args.w.now.s_degrees.items c.args.m.now c.places.place c.places.greatest (let a = c.places-test.false in let b = c.places-place-end.ensures.length in omega arith) c.places.invariant

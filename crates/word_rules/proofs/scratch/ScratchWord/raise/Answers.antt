use Rattle.std.proofs.Common.{◌≡◌, ◌≤◌, ◌∙◌, max, ap, refl, sym, subst, arith, get_or}
use Rattle.std.specs.Prelude.{Contains}
use Rattle.monomial_order.specs.Monomial.{exponent}
use Rattle.word_rules.specs.declared.factor.Factor.{Factor}
use Rattle.word_rules.proofs.Factors.{factors_divide}
use Rattle.word_rules.proofs.Scratching.{raised_more, read_exponent, read_inside}
use Rattle.word_rules.proofs.scratch.ScratchWord.raise.Goals as goal

pub exponent-requires : goal.exponent-requires
exponent-requires c =
    let i = read_inside c.args.by.now c.factors-factor-items.result.now c.factors-factor-items.ensures.same c.letters.factor-index (record { letter = 0; exponent = 0 }) c.letters-test.true in
    let s = c.requires in
    let l = c.letters.invariant.long in
    omega arith

pub set_exponent-requires : goal.set_exponent-requires
set_exponent-requires c =
    let i = read_inside c.args.by.now c.factors-factor-items.result.now c.factors-factor-items.ensures.same c.letters.factor-index (record { letter = 0; exponent = 0 }) c.letters-test.true in
    let s = c.requires in
    let l = c.letters.invariant.long in
    omega arith

pub letters-init : goal.letters-init
letters-init c = record { long = refl; kept = λ p. omega arith; within = λ p. omega arith; done = λ k l. absurd (omega arith) }

pub letters-preserved : goal.letters-preserved
letters-preserved c =
    let fs = c.factors-factor-items.result.now in
    let k = c.letters.factor-index in
    let d : Factor = record { letter = 0; exponent = 0 } in
    let f : Factor = get_or fs k d in
    let old = c.letters.self in
    let new = c.set_exponent.new.self in
    let here : exponent new (get_or fs k d).letter ≡ max (exponent old (get_or fs k d).letter) (get_or fs k d).exponent =
    c.in_ok-set_exponent.ensures.here ∙ (c.max-exponent.ensures ∙ ap (λ x. max x (get_or fs k d).exponent) c.exponent.ensures) in
    let e = read_exponent c.args.by.now fs c.factors-factor-items.ensures.same k d c.letters-test.true in
    raised_more fs k d c.letters-test.true old new c.in_ok-set_exponent.ensures.others c.args.self.now c.args.by.now here e (c.in_ok-set_exponent.ensures.long) c.letters.invariant

pub returns-clause-exponents : goal.returns-clause-exponents
returns-clause-exponents c = λ p.
    let fs = c.factors-factor-items.result.now in
    let below = factors_divide c.args.by.now c.letters.self
    (λ f h. let m = subst (λ gs. Contains gs f) (sym c.factors-factor-items.ensures.same) h in
    subst (λ (g : Factor). g.exponent ≤ exponent c.letters.self g.letter) m.2 (c.letters.invariant.done m.0 (let l = m.1 in let t = c.letters-test.false in omega arith) f)) p in
    let k = c.letters.invariant.kept p in
    let w = c.letters.invariant.within p in
    omega arith

use Rattle.std.proofs.Common.{◌≡◌, ◌+◌, ◌∙◌, ap, refl, arith, get_or}
use Rattle.monomial_order.specs.Monomial.{exponent}
use Rattle.word_rules.specs.declared.factor.Factor.{Factor}
use Rattle.word_rules.proofs.Scratching.{all_letters, multiplied_more, read_inside, read_within}
use Rattle.word_rules.proofs.scratch.ScratchWord.multiply.Goals as goal

pub letters-init : goal.letters-init
letters-init c = record { long = refl; done = λ p. omega arith }

pub exponent-requires : goal.exponent-requires
exponent-requires c =
    let i = read_inside c.args.by.now c.factors-factor-items.result.now c.factors-factor-items.ensures.same c.letters.factor-index (record { letter = 0; exponent = 0 }) c.letters-test.true in
    let s = c.requires.short in
    let l = c.letters.invariant.long in
    omega arith

pub set_exponent-requires : goal.set_exponent-requires
set_exponent-requires c =
    let i = read_inside c.args.by.now c.factors-factor-items.result.now c.factors-factor-items.ensures.same c.letters.factor-index (record { letter = 0; exponent = 0 }) c.letters-test.true in
    let s = c.requires.short in
    let l = c.letters.invariant.long in
    omega arith

pub overflow_add-exponent : goal.overflow_add-exponent
overflow_add-exponent c =
    let fs = c.factors-factor-items.result.now in
    let d : Factor = record { letter = 0; exponent = 0 } in
    let a = (get_or fs c.letters.factor-index d).letter in
    let r = read_within c.args.by.now fs c.factors-factor-items.ensures.same c.letters.factor-index d c.letters-test.true in
    let i = c.letters.invariant.done a in
    let f = c.requires.fits a in
    let e = c.exponent.ensures in
    omega arith

-- the exponent of the letter grows
grows : (c : goal.In_ok-set_exponent) → exponent c.set_exponent.new.self (get_or c.factors-factor-items.result.now c.letters.factor-index (record { letter = 0; exponent = 0 })).letter
    ≡ exponent c.letters.self (get_or c.factors-factor-items.result.now c.letters.factor-index (record { letter = 0; exponent = 0 })).letter
    + (get_or c.factors-factor-items.result.now c.letters.factor-index (record { letter = 0; exponent = 0 })).exponent
grows c = c.in_ok-set_exponent.ensures.here ∙ ap (λ x. x + (get_or c.factors-factor-items.result.now c.letters.factor-index (record { letter = 0; exponent = 0 })).exponent) c.exponent.ensures

pub letters-preserved : goal.letters-preserved
letters-preserved c = record {
  long = c.in_ok-set_exponent.ensures.long ∙ c.letters.invariant.long;
  done = multiplied_more c.factors-factor-items.result.now c.letters.factor-index (record { letter = 0; exponent = 0 }) c.letters-test.true
      c.letters.self c.set_exponent.new.self c.in_ok-set_exponent.ensures.others c.args.self.now c.letters.invariant.done (grows c);
}

pub returns-clause-exponents : goal.returns-clause-exponents
returns-clause-exponents c = λ p.
    c.letters.invariant.done p ∙ ap (λ x. exponent c.args.self.now p + x)
    (all_letters c.args.by.now c.factors-factor-items.result.now c.factors-factor-items.ensures.same c.letters.factor-index p c.letters-test.false)

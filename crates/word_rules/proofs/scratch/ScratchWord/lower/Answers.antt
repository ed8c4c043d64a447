use Rattle.std.proofs.Common.{ℕ, List, ◌≡◌, ◌-◌, ◌≤◌, ◌<◌, ◌∙◌, ap, refl, length, arith, get_or, set, vec_len, rules}
use Rattle.std.proofs.lemmas.List.{get_or_default, get_or-set_other, get_or-set_same, length-set}
use Rattle.monomial_order.specs.Monomial.{Exponents, exponent}
use Rattle.word_rules.specs.declared.factor.Factor.{Factor}
use Rattle.word_rules.specs.Factors.{factors_of}
use Rattle.word_rules.proofs.Scratching.{all_letters, listed_set, lowered_more, read_inside, read_within}
use Rattle.word_rules.proofs.scratch.ScratchWord.lower.Goals as goal

pub index_mut-requires : goal.index_mut-requires
index_mut-requires c =
    let i = read_inside c.args.by.now c.factors-factor-items.result.now c.factors-factor-items.ensures.same c.letters.factor-index (record { letter = 0; exponent = 0 }) c.letters-test.true in
    let s = c.requires.short in
    let v = ap length c.self.view_is in
    let l = c.letters.invariant.long in
    let w : length c.self.inside.exponents.items ≡ length c.args.self.now = v in
    let m : vec_len c.letters.self-inside.exponents ≡ length c.letters.self-inside.exponents.items = search rules in
    omega arith

-- a letter that is read is one of the places
inside_of : (w v : Exponents) (fs : List Factor) (es : List ℕ) → fs ≡ factors_of w → (k : ℕ) → k < length fs → length w ≤ length v → length es ≡ length v →
    (get_or fs k (record { letter = 0; exponent = 0 })).letter < length es
inside_of w v fs es same k l short long = let i = read_inside w fs same k (record { letter = 0; exponent = 0 }) l in omega arith

pub overflow_sub-index_mut : goal.overflow_sub-index_mut
overflow_sub-index_mut c =
    let d : Factor = record { letter = 0; exponent = 0 } in
    let fs = c.factors-factor-items.result.now in
    let a = (get_or fs c.letters.factor-index d).letter in
    let es = c.letters.self-inside.exponents.items in
    let r = read_within c.args.by.now fs c.factors-factor-items.ensures.same c.letters.factor-index d c.letters-test.true in
    let i = c.letters.invariant.done a in
    let q = c.requires.divides a in
    let v : exponent c.self.inside.exponents.items a ≡ exponent c.args.self.now a = ap (λ es. exponent es a) c.self.view_is in
    let value : c.index_mut.result.now ≡ exponent es a = c.index_mut.ensures.value ∙ get_or_default es a c.index_mut.result.now 0 (inside_of c.args.by.now c.args.self.now fs es
    c.factors-factor-items.ensures.same c.letters.factor-index c.letters-test.true c.requires.short (c.letters.invariant.long ∙ ap length c.self.view_is)) in
    omega arith

pub letters-init : goal.letters-init
letters-init c = record { listed = c.self.invariant; long = refl; done = λ p. omega arith }

pub letters-preserved : goal.letters-preserved
letters-preserved c =
    let es = c.letters.self-inside.exponents.items in
    let fs = c.factors-factor-items.result.now in
    let k = c.letters.factor-index in
    let d : Factor = record { letter = 0; exponent = 0 } in
    let a = (get_or fs k d).letter in
    let e = c.index_mut.result.now - (get_or fs k d).exponent in
    let inside : a < length es = inside_of c.args.by.now c.args.self.now fs es c.factors-factor-items.ensures.same k c.letters-test.true c.requires.short (c.letters.invariant.long ∙ ap length c.self.view_is) in
    let value : c.index_mut.result.now ≡ exponent es a = c.index_mut.ensures.value ∙ get_or_default es a c.index_mut.result.now 0 inside in
    record {
      listed = listed_set es c.letters.self-inside.letters.items a e inside c.letters.invariant.listed
          (λ n. c.letters.invariant.listed.all a (λ z. n (omega (arith, z, value))));
      long = length-set es a e ∙ c.letters.invariant.long;
      done = lowered_more fs k d c.letters-test.true es (set es a e) (λ p n. get_or-set_other es a p e 0 n) c.self.inside.exponents.items c.letters.invariant.done
          (get_or-set_same es a e 0 inside ∙ ap (λ x. x - (get_or fs k d).exponent) value);
    }

pub returns-clause-exponents : goal.returns-clause-exponents
returns-clause-exponents c = λ p.
    c.letters.invariant.done p ∙ (ap (λ x. exponent c.self.inside.exponents.items p - x)
    (all_letters c.args.by.now c.factors-factor-items.result.now c.factors-factor-items.ensures.same c.letters.factor-index p c.letters-test.false)
    ∙ ap (λ es. exponent es p - exponent c.args.by.now p) c.self.view_is)

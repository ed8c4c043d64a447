use Rattle.std.proofs.Common.{◌≡◌, ◌≤◌, ap, sym, ◌∙◌, subst, get_or, below_more, arith, refl, true, false}
use Rattle.std.specs.Prelude.{Contains}
use Rattle.std.proofs.lemmas.List.{get_or_default}
use Rattle.monomial_order.specs.Monomial.{exponent, Divides}
use Rattle.monomial_order.specs.laws.Lists.{contains_at}
use Rattle.word_rules.specs.declared.factor.Factor.{Factor}
use Rattle.word_rules.proofs.Factors.{factors_divide, has_exponent}
use Rattle.word_rules.proofs.rule_side.RuleSide.divides.Goals as goal

pub returns-then-exponent_in-factor : goal.returns-then-exponent_in-factor
returns-then-exponent_in-factor c = (
  λ t. absurd (let e : false ≡ true = t in cc),
  λ d.
      let w = c.self.inside.word in
      let fs = c.as_slice-factor-items.result.now in
      let k = c.letters.factor-index in
      let f : Factor = get_or fs k (record { letter = 0; exponent = 0 }) in
      let same = c.as_slice-factor-items.ensures.value ∙ c.self.invariant.listed in
      let h = has_exponent w f (subst (λ gs. Contains gs f) same (contains_at fs k (record { letter = 0; exponent = 0 }) c.letters-test.true)) in
      let v = ap (λ m. exponent m f.letter) c.self.view_is in
      let e = c.exponent_in.ensures in
      let t = c.if-exponent_in-factor.true in
      let q = d f.letter in
      absurd (omega arith),
)

pub letters-preserved : goal.letters-preserved
letters-preserved c = below_more _ _ c.letters.invariant (λ d.
    subst (λ (f : Factor). f.exponent ≤ exponent c.args.word.now f.letter) (get_or_default c.as_slice-factor-items.result.now c.letters.factor-index (record { letter = 0; exponent = 0 }) d c.letters-test.true)
    (let t = c.if-exponent_in-factor.false in let e = c.exponent_in.ensures in omega arith))

pub returns : goal.returns
returns c = (
  λ t. subst (λ w. Divides w c.args.word.now) c.self.view_is (factors_divide c.self.inside.word c.args.word.now
      (λ f h. let m = subst (λ gs. Contains gs f) (sym (c.as_slice-factor-items.ensures.value ∙ c.self.invariant.listed)) h in
      subst (λ (g : Factor). g.exponent ≤ exponent c.args.word.now g.letter) m.2 (c.letters.invariant m.0 (let l = m.1 in let t = c.letters-test.false in omega arith) f))),
  λ d. refl,
)

use Rattle.std.proofs.Common.{◌≡◌, ap, sym, ◌∙◌, subst, get_or, below_more, arith, refl, true, false, ⊎_elim}
use Rattle.std.specs.Prelude.{Contains}
use Rattle.std.proofs.lemmas.List.{get_or_default}
use Rattle.monomial_order.specs.laws.Comparing.{numbers_or_not}
use Rattle.monomial_order.specs.laws.Lists.{contains_at}
use Rattle.word_rules.specs.declared.factor.Factor.{Factor}
use Rattle.word_rules.specs.Members.{member_exponent}
use Rattle.word_rules.proofs.Factors.{letter_of}
use Rattle.word_rules.proofs.LetterLists.{factor_of}
use Rattle.word_rules.proofs.common_letters.is_one_in_member.Goals as goal

pub returns-then-is_in_member : goal.returns-then-is_in_member
returns-then-is_in_member c =
    let fs = c.factors-factor-items.result.now in
    let k = c.letters.factor-index in
    let f : Factor = get_or fs k (record { letter = 0; exponent = 0 }) in
    let listed = contains_at fs k (record { letter = 0; exponent = 0 }) c.letters-test.true in
    let letter = letter_of c.args.word.now f (subst (λ gs. Contains gs f) c.factors-factor-items.ensures.same listed) in (
      λ t. (f.letter, letter, c.is_in_member.ensures.0 c.if-is_in_member.true),
      λ h. refl,
    )

pub letters-preserved : goal.letters-preserved
letters-preserved c =
    let fs = c.factors-factor-items.result.now in
    let k = c.letters.factor-index in
    let f : Factor = get_or fs k (record { letter = 0; exponent = 0 }) in
    let member = member_exponent c.args.left.now c.args.right.now c.args.other.now in
    let none : member f.letter ≡ 0 =
    ⊎_elim (λ q. q) (λ n. absurd (let e : false ≡ true = sym c.if-is_in_member.false ∙ c.is_in_member.ensures.1 n in cc)) (numbers_or_not (member f.letter) 0) in
    below_more _ _ c.letters.invariant
    (λ d. subst (λ (g : Factor). member g.letter ≡ 0) (get_or_default fs k (record { letter = 0; exponent = 0 }) d c.letters-test.true) none)

pub returns : goal.returns
returns c = (
  λ t. absurd (let e : false ≡ true = t in cc),
  λ h.
      let member = member_exponent c.args.left.now c.args.right.now c.args.other.now in
      let f = factor_of c.args.word.now h.0 h.1 in
      let m = subst (λ gs. Contains gs f.0) (sym c.factors-factor-items.ensures.same) f.1 in
      let none = c.letters.invariant m.0 (let l = m.1 in let t = c.letters-test.false in omega arith) f.0 in
      absurd (h.2 (subst (λ p. member p ≡ 0) (ap (λ (g : Factor). g.letter) m.2 ∙ f.2) none)),
)

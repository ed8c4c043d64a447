use Rattle.std.proofs.Common.{◌≡◌, ◌<◌, length, sym, ◌∙◌, ap, subst, arith, get_or}
use Rattle.std.specs.Prelude.{Contains}
use Rattle.std.proofs.lemmas.List.{get_or_default, get_or-set_other}
use Rattle.monomial_order.specs.Monomial.{exponent}
use Rattle.word_rules.specs.Scratch.{IsListed}
use Rattle.word_rules.proofs.Scratching.{last_listed, listed_pushed, listed_set}
use Rattle.word_rules.proofs.scratch.ScratchWord.set_exponent.Goals as goal
use Rattle.word_rules.proofs.scratch.ScratchWord.set_exponent.Goals.{then-index-eq0+in_ok-push, else-index-eq0}

pub invariant_of-self : goal.invariant_of-self
invariant_of-self c = subst (IsListed c.self.inside.exponents.items) (sym c.in_err-push.ensures.items) c.self.invariant

-- the letter is listed, and the exponents are as before
ready : (c : goal.After-self-1) → (c.if-index-eq0.self-inside.exponents ≡ c.self.inside.exponents)
    × IsListed c.self.inside.exponents.items c.if-index-eq0.self-inside.letters.items × Contains c.if-index-eq0.self-inside.letters.items c.args.letter
ready c =
    let es = c.self.inside.exponents.items in
    let a = c.args.letter in
    let inside : a < length es = let e = ap length c.self.view_is in let l = c.requires in omega arith in
    elim c.if-index-eq0.branch [
      | then-index-eq0+in_ok-push b ↦
          let items = ap (λ s. s.letters.items) b.self-inside-is ∙ b.in_ok-push.ensures.items in (
            ap (λ s. s.exponents) b.self-inside-is,
            subst (IsListed es) (sym items) (listed_pushed es c.self.inside.letters.items a inside c.self.invariant),
            subst (λ ls. Contains ls a) (sym items) (last_listed c.self.inside.letters.items a),
          )
      | else-index-eq0 b ↦
          let items = ap (λ s. s.letters.items) b.self-inside-is in (
            ap (λ s. s.exponents) b.self-inside-is,
            subst (IsListed es) (sym items) c.self.invariant,
            subst (λ ls. Contains ls a) (sym items) (c.self.invariant.all a (λ z. b.if-index-eq0.false (c.index.ensures ∙ (get_or_default es a c.index.result.now 0 inside ∙ z)))),
          )
    ]

pub invariant_of-self-2 : goal.invariant_of-self-2
invariant_of-self-2 c =
    let r = ready c in
    let e = ap (λ v. v.items) r.0 in
    let inside : c.args.letter < length c.if-index-eq0.self-inside.exponents.items = let l = c.requires in let v = ap length c.self.view_is in let x = ap length e in omega arith in
    listed_set c.if-index-eq0.self-inside.exponents.items c.if-index-eq0.self-inside.letters.items c.args.letter c.args.e inside
    (subst (λ es. IsListed es c.if-index-eq0.self-inside.letters.items) (sym e) r.1) (λ n. r.2)

pub returns-clause-others : goal.returns-clause-others
returns-clause-others c = λ p n.
    get_or-set_other c.if-index-eq0.self-inside.exponents.items c.args.letter p c.args.e 0 n
    ∙ (ap (λ v. get_or v.items p 0) (ready c).0 ∙ ap (λ es. exponent es p) c.self.view_is)

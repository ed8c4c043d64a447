use Rattle.std.proofs.Common.{sym, ap, ◌∙◌, ◌++◌, ◌∷◌, [], take}
use Rattle.std.proofs.lemmas.List.{append-nil, take_all}
use Rattle.monomial_order.specs.Monomial.{exponent}
use Rattle.word_rules.specs.Factors.{factors_of}
use Rattle.word_rules.proofs.Factors.{factor_here, factor_none, factors_to}
use Rattle.word_rules.proofs.rule_side.list_factors.Goals as goal
use Rattle.word_rules.proofs.rule_side.list_factors.Goals.{then-exponent-gt0+in_ok-push, else-exponent-gt0}

pub places-preserved : goal.places-preserved
places-preserved c =
    let w = c.args.word.now in
    let n = c.places.letter in
    let to = factors_to w n c.places-test.true in
    elim c.if-exponent-gt0.branch [
      | then-exponent-gt0+in_ok-push b ↦
          ap (λ v. v.items) b.factors-is ∙ (b.in_ok-push.ensures.items ∙ (ap (λ fs. fs ++ record { letter = n; exponent = exponent w n } ∷ []) c.places.invariant
          ∙ sym (to ∙ ap (λ fs. factors_of (take n w) ++ fs) (factor_here n (exponent w n) b.if-exponent-gt0.true))))
      | else-exponent-gt0 b ↦
          ap (λ v. v.items) b.factors-is ∙ (c.places.invariant
          ∙ sym (to ∙ (ap (λ fs. factors_of (take n w) ++ fs) (factor_none n (exponent w n) b.if-exponent-gt0.false) ∙ append-nil (factors_of (take n w)))))
    ]

pub returns : goal.returns
returns c = c.places.invariant ∙ ap factors_of (take_all c.places.letter c.args.word.now c.places-test.false)

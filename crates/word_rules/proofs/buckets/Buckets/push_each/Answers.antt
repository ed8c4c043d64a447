use Rattle.std.proofs.Common.{◌≡◌, get_or, subst, below_more, arith}
use Rattle.std.specs.Prelude.{Contains}
use Rattle.std.proofs.lemmas.List.{get_or_default}
use Rattle.word_rules.specs.Index.{bucket}
use Rattle.word_rules.proofs.buckets.Buckets.push_each.Goals as goal

pub letters-preserved : goal.letters-preserved
letters-preserved c = (
  λ k i h. c.in_ok-push.ensures.keeps k i (c.letters.invariant.0 k i h),
  below_more _ _ (λ k l d. c.in_ok-push.ensures.keeps (get_or c.args.factors.now k d).letter c.args.index (c.letters.invariant.1 k l d)) (λ d. subst (λ f. Contains (bucket c.push.new.self f.letter) c.args.index) (get_or_default c.args.factors.now c.letters.factor-index _ d c.letters-test.true) c.in_ok-push.ensures.ok),
)

pub returns-clause-ok : goal.returns-clause-ok
returns-clause-ok c = λ f h.
    let e : get_or c.args.factors.now h.0 f ≡ f = h.2 in
    subst (λ x. Contains (bucket c.letters.self x.letter) c.args.index) e (c.letters.invariant.1 h.0 (let l = h.1 in let t = c.letters-test.false in omega arith) f)

use Rattle.std.proofs.Common.{◌+◌, ◌≤◌, subst, length, arith}
use Rattle.std.specs.Prelude.{All}
use Rattle.std.proofs.lemmas.List.Elements.{All-more}
use Rattle.completion.proofs.RightSides.{all_taken}
use Rattle.completion.proofs.right_sides.has_letter_after.Goals as goal

pub terms-preserved : goal.terms-preserved
terms-preserved g c =
    All-more (λ t. length t.at ≤ c.args.n + c.args.k) c.terms-terms.result.now c.terms.t-index c.t-item.result
    c.terms-test.true c.terms.invariant
    (subst (λ t. length t.at ≤ c.args.n + c.args.k) c.t-item.is
    (let a = c.places.ensures.length in let b = c.saturating_sub.ensures in let d = c.if-saturating_sub-k.false in omega arith))

pub returns : goal.returns
returns g c _ =
    subst (All (λ t. length t.at ≤ c.args.n + c.args.k)) c.terms-terms.ensures
    (all_taken (λ t. length t.at ≤ c.args.n + c.args.k) c.terms-terms.result.now c.terms.t-index c.terms-test.false
    c.terms.invariant)

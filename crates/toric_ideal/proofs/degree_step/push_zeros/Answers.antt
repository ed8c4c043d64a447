use Rattle.std.proofs.Common.{◌≡◌, ◌<◌, ◌+◌, ◌∙◌, ℕ, suc, ap, subst, List, length, take, get_or, arith, Some, None, ⊎_elim}
use Rattle.std.specs.Prelude.{Contains}
use Rattle.monomial_order.specs.Monomial.{weighted_degree}
use Rattle.word_laws.specs.Words.{Letters}
use Rattle.word_rewriting.specs.Rewriting.{RewriteRule, Rewrites, KeepsRules}
use Rattle.word_rewriting.specs.laws.Rewriting.{more_rewrites}
use Rattle.toric_ideal.specs.Alphabet.{letters_of}
use Rattle.toric_ideal.specs.Step.{ZerosVanish}
use Rattle.toric_ideal.proofs.JoiningPairs.{keeps_first_trans}
use Rattle.toric_ideal.proofs.Members.{take_next, take_whole}
use Rattle.toric_ideal.proofs.degree_step.push_zeros.Goals as goal

vanish_next : (L : Letters) (d : ℕ) (S T : List RewriteRule) (zs : List (List ℕ)) (i : ℕ) (z : List ℕ) → i < length zs → z ≡ get_or zs i z → KeepsRules S T → (weighted_degree L.degrees z ≡ d → Rewrites T (Some z) None) →
    ZerosVanish L d S (take i zs) → ZerosVanish L d T (take (i + 1) zs)
vanish_next L d S T zs i z l e more v h y k dy =
    ⊎_elim (λ q. let p : z ≡ y = e ∙ q in subst (λ x. Rewrites T (Some x) None) p (v (ap (weighted_degree L.degrees) p ∙ dy)))
    (λ b. more_rewrites S T more (h y b dy))
    (take_next zs i z l y (subst (λ n. Contains (take n zs) y) (let o : i + 1 ≡ suc i = omega arith in o) k))

pub zeros-preserved : goal.zeros-preserved
zeros-preserved c = (
  keeps_first_trans c.args.first c.args.table.now c.zeros.table c.push_zero.new.table c.zeros.invariant.0 c.push_zero.ensures.first,
  c.in_ok-push_zero.ensures.growing,
  vanish_next (letters_of c.args.alphabet.now) (c.args.c + 1) c.zeros.table c.push_zero.new.table c.args.zeros.now c.zeros.zero-index c.zero-item.result c.zeros-test.true c.zero-item.is
      c.push_zero.ensures.rules c.in_ok-push_zero.ensures.vanish c.zeros.invariant.2,
)

pub returns-clause-vanish : goal.returns-clause-vanish
returns-clause-vanish c z h d = c.zeros.invariant.2 z (take_whole c.args.zeros.now c.zeros.zero-index (let t = c.zeros-test.false in omega (arith, t)) z h) d

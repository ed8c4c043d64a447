use Rattle.std.proofs.Common.{◌∙◌, ◌+◌, ◌≤◌, ap, sym, subst, length, arith, ⊎_elim}
use Rattle.std.proofs.lemmas.List.{length-replicate}
use Rattle.monomial_order.specs.Monomial.{exponent}
use Rattle.monomial_order.specs.laws.Monomial.{exponent_past}
use Rattle.monomial_order.specs.laws.Comparing.{le_or_not}
use Rattle.word_rules.proofs.Scratching.{IsSpread, spread_more, spread_zero}
use Rattle.word_rules.proofs.Trimming.{exponent-zeros}
use Rattle.word_rules.proofs.scratch.ScratchWord.spread.Goals as goal
use Rattle.word_rules.proofs.scratch.ScratchWord.spread.Goals.{then-word-place-gt0+in_ok-set_exponent, else-word-place-gt0}

pub places-init : goal.places-init
places-init c = record {
  long = ap length c.in_ok-spread.ensures ∙ length-replicate c.args.places 0;
  done = λ p l. absurd (omega arith);
  rest = λ p l. ap (λ m. exponent m p) c.in_ok-spread.ensures ∙ exponent-zeros c.args.places p;
}

pub set_exponent-requires : goal.set_exponent-requires
set_exponent-requires c =
    let t = c.places-test.true in
    let s = c.requires in
    let l = c.places.invariant.long in
    omega arith

pub places-preserved : goal.places-preserved
places-preserved c =
    let w = c.args.word.now in
    let n = c.places.place in
    elim c.if-word-place-gt0.branch [
      | then-word-place-gt0+in_ok-set_exponent b ↦
          subst (IsSpread w c.args.places (n + 1)) (sym b.spread-is)
          (spread_more w c.args.places n c.places.spread b.set_exponent.new.self c.places.invariant b.in_ok-set_exponent.ensures.long b.in_ok-set_exponent.ensures.here b.in_ok-set_exponent.ensures.others)
      | else-word-place-gt0 b ↦
          subst (IsSpread w c.args.places (n + 1)) (sym b.spread-is)
          (spread_zero w c.args.places n c.places.spread c.places.invariant (let t = b.if-word-place-gt0.false in omega arith))
    ]

pub returns-clause-same : goal.returns-clause-same
returns-clause-same c = λ p. ⊎_elim
    (λ (q : c.places.place ≤ p). c.places.invariant.rest p q ∙ sym (exponent_past c.args.word.now p (let t = c.places-test.false in omega (arith, q))))
    (λ q. c.places.invariant.done p (omega (arith, q)))
    (le_or_not c.places.place p)

use Rattle.std.proofs.Common.{◌≡◌, ◌<◌, ◌-◌, ◌∙◌, ◌++◌, sym, rules, ap, length, take, drop, arith}
use Rattle.std.specs.Prelude.{replicate}
use Rattle.std.proofs.Math.Seq.{take-length}
use Rattle.std.proofs.lemmas.List.{length-drop}
use Rattle.monomial_order.specs.Monomial.{exponent}
use Rattle.subduction.proofs.Singles.{moved_is}
use Rattle.subduction.proofs.witness_words.moved_word.Goals as goal

pub returns : goal.returns
returns c =
    let w = c.args.w.now in
    let n = c.args.n in
    let e = c.as_slice-exponents.ensures.same in
    let l : n < length w = let a = c.if-exponents-n.false in let s = ap length e in omega arith in
    let whole : take (length w - n) (drop n w) ≡ drop n w = ap (λ i. take i (drop n w)) (sym (length-drop n w)) ∙ take-length (drop n w) in
    let zeros : c.in_ok-places.places.items ≡ replicate c.args.k 0 = search rules in
    moved_is n c.args.k w c.in_ok-moved.moved c.as_slice-exponents.ensures.trimmed l c.in_ok-moved.ensures.trimmed
    (λ i. c.in_ok-moved.ensures.exponents i ∙ ap (λ xs. exponent xs i) (c.as_slice.ensures.value ∙ ((rw e at c.in_ok-extend_from_slice.ensures.items) ∙ (ap (λ xs. xs ++ take (length w - n) (drop n w)) zeros ∙ ap (λ xs. replicate c.args.k 0 ++ xs) whole))))

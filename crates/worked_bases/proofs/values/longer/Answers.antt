use Rattle.std.proofs.Common.{◌≡◌, ◌+◌, ◌<◌, ◌≤◌, ◌∙◌, ℕ, sym, ap, subst, length, arith}
use Rattle.std.proofs.lemmas.List.{length-map}
use Rattle.monomial_order.specs.Monomial.{exponent, product, variable}
use Rattle.witness.specs.Tracking.{values_of}
use Rattle.worked_bases.specs.Rings.{of_ring}
use Rattle.worked_bases.specs.WordsTo.{IsWordTo}
use Rattle.worked_bases.proofs.WordsTo.{longer_fits, longer_to}
use Rattle.worked_bases.proofs.values.longer.Goals as goal

pub times-requires : goal.times-requires
times-requires c =
    let P = of_ring c.args.p.now in
    record {
      fits = subst (λ x. (i : ℕ) → exponent x i + exponent c.args.word.now i ≤ 65535) (sym c.in_ok-variable.ensures)
          (longer_fits P (values_of c.args._elements.now) c.args._bound c.args.word.now c.requires.word (c.places.result + c.args.letter) (let s = c.requires.small in omega arith));
    }

pub returns : goal.returns
returns c =
    let P = of_ring c.args.p.now in
    let S = values_of c.args._elements.now in
    let within : c.args.letter < length S = let n = length-map c.args._elements.now (λ t. t.value) in let k = c.requires.letter in omega arith in
    let is : c.in_ok-times.field-0 ≡ product (variable (P.order.places + c.args.letter)) c.args.word.now =
    c.in_ok-times.ensures.product ∙ (ap (λ x. product x c.args.word.now) c.in_ok-variable.ensures ∙ ap (λ n. product (variable (n + c.args.letter)) c.args.word.now) c.places.ensures) in
    subst (IsWordTo P S (c.args._bound + c.args._degree)) (sym is)
    (longer_to P S c.args._bound c.args.word.now c.requires.word c.requires.valid.presentation c.requires.elements c.args._degree c.args.letter within c.requires.degree)

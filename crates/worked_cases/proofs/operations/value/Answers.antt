use Rattle.std.proofs.Common.{◌≡◌, length, sym, subst, rules}
use Rattle.word_field.specs.Residues.{residues}
use Rattle.polynomials.specs.Polynomial.{IsPoly}
use Rattle.polynomials.specs.laws.Decreasing.{IsDecreasing_IsPoly}
use Rattle.poly_core.specs.Presentation.{weight_order_of}
use Rattle.worked_cases.proofs.operations.value.Goals as goal

pub evaluate-requires-clause-h : goal.evaluate-requires-clause-h
evaluate-requires-clause-h c =
    let K = residues c.args.p.now.field.modulus in
    let o = weight_order_of c.args.p.now.order in
    let each_place : length c.args.at.now ≡ o.places = search rules in
    subst (λ n. IsPoly K n c.args.h.now) (sym each_place) (IsDecreasing_IsPoly K o c.args.h.now c.requires.h.decreasing)

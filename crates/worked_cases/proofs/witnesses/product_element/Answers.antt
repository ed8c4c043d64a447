use Rattle.std.proofs.Common.{◌+◌, ◌-◌, length, subst, sym, arith}
use Rattle.word_field.specs.Residues.{residues}
use Rattle.polynomials.specs.Polynomial.{IsCanonical}
use Rattle.poly_core.specs.Presentation.{weight_order_of}
use Rattle.polynomial_text.specs.Degrees.{IsLow}
use Rattle.worked_cases.proofs.LowPairs.{low_letters, low_pair}
use Rattle.worked_cases.proofs.witnesses.product_element.Goals as goal

pub returns : goal.returns
returns c w room =
    let p = c.args.p.now in
    let K = residues p.field.modulus in
    let O = weight_order_of p.order in
    let t = c.in_ok-element.field-0 in
    low_pair p w t
    (subst (λ f. IsCanonical K O f × IsLow O f) (sym c.in_ok-element.ensures.value) (c.in_ok-value.ensures.canonical, c.in_ok-value.ensures.low))
    (low_letters p w c.requires.presentation.field (length p.generators.items + (1 - 1)) (omega arith) t.by c.in_ok-element.ensures.by)

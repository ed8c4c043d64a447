use Rattle.std.proofs.Common.{◌-◌, length, subst, sym, ◌≤◌, arith, rules}
use Rattle.word_field.specs.Residues.{residues}
use Rattle.polynomials.specs.Polynomial.{IsCanonical}
use Rattle.poly_core.specs.Presentation.{weight_order_of}
use Rattle.polynomial_text.specs.Degrees.{IsLow}
use Rattle.worked_rows.specs.laws.Generators.{low_generators}
use Rattle.worked_cases.proofs.LowPairs.{low_letters, low_pair}
use Rattle.worked_cases.proofs.witnesses.generator_of.Goals as goal

pub returns : goal.returns
returns c w room =
    let p = c.args.p.now in
    let V = c.requires.valid in
    let K = residues p.field.modulus in
    let O = weight_order_of p.order in
    let a = low_generators K V.presentation.field O V.presentation.order p.generators.items (c.args.i - 1) V.generators.each in
    let within : c.args.i ≤ length p.generators.items = search rules in
    low_pair p w c.in_ok-generator.field-0
    (subst (λ f. IsCanonical K O f × IsLow O f) (sym c.in_ok-generator.ensures.value) a)
    (low_letters p w V.presentation.field (c.args.i - 1) (omega arith) c.in_ok-generator.field-0.by c.in_ok-generator.ensures.by)

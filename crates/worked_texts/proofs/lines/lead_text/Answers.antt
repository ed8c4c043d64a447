use Rattle.std.proofs.Common.{subst}
use Rattle.word_field.specs.Residues.{residues}
use Rattle.polynomials.specs.Polynomial.{IsCanonical}
use Rattle.poly_core.specs.Presentation.{weight_order_of}
use Rattle.poly_core.specs.laws.Text.{names_monomials}
use Rattle.worked_texts.proofs.lines.lead_text.Goals as goal

pub write_monomial-requires : goal.write_monomial-requires
write_monomial-requires c =
    let o = c.args.p.now.order in
    let canonical = subst (IsCanonical (residues c.args.p.now.field.modulus) (weight_order_of o))
    c.in-Some.ensures.first.1 c.requires.canonical in
    names_monomials (weight_order_of o).places c.args.p.now.names c.requires.valid.names c.in-Some.t.now.at canonical.decreasing.0.term.monomial

use Rattle.std.proofs.Common.{ℕ, [], ◌∷◌}
use Rattle.polynomials.specs.Polynomial.{term_of}
use Rattle.worked_rows.specs.laws.PairedNames.{paired_named}
use Rattle.worked_completions.proofs.texts.word_text.Goals as goal

pub write_monomial-requires : goal.write_monomial-requires
write_monomial-requires c =
    let n = paired_named {E = ℕ} c.args.first c.args.count 115 (term_of c.args.w.now 0 ∷ []) in n.0

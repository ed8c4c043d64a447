use Rattle.std.proofs.Common.{subst, sym, ◌∙◌}
use Rattle.polynomial_text.specs.Canonical.{AreDifferent}
use Rattle.polynomial_text.specs.laws.Names.{names_differ}
use Rattle.worked_bases.proofs.Elements.{same_test}
use Rattle.worked_bases.proofs.expansions.witness.Goals as goal

pub read_poly-requires : goal.read_poly-requires
read_poly-requires c =
    subst (λ n. AreDifferent n c.args.letters.now.names) (sym (sym c.places.ensures ∙ (same_test c.places.result c.places-2.result c.in_ok-ensure.ensures ∙ c.places-2.ensures)))
    (names_differ _ c.args.letters.now.names c.requires.names)

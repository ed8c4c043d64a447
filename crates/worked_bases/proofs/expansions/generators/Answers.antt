use Rattle.std.proofs.Common.{sym, subst}
use Rattle.std.specs.Prelude.{All}
use Rattle.std.proofs.lemmas.List.Elements.{All-push}
use Rattle.worked_bases.specs.Elements.{IsGeneratorElement}
use Rattle.worked_bases.proofs.expansions.generators.Goals as goal

pub generators-preserved : goal.generators-preserved
generators-preserved c =
    let Q = IsGeneratorElement c.args.p.now in
    subst (All Q) (sym c.in_ok-push.ensures.items) (All-push Q c.generators.s.items c.in_ok-nonzero_generator.field-0 c.generators.invariant c.in_ok-nonzero_generator.ensures)

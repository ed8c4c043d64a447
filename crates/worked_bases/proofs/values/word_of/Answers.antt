use Rattle.std.proofs.Common.{sym, subst}
use Rattle.witness.specs.Tracking.{values_of}
use Rattle.worked_bases.specs.Rings.{of_ring}
use Rattle.worked_bases.specs.WordsTo.{IsWordTo}
use Rattle.worked_bases.proofs.WordsTo.{one_to}
use Rattle.worked_bases.proofs.values.word_of.Goals as goal

pub letters-init : goal.letters-init
letters-init c =
    let P = of_ring c.args.p.now in
    let S = values_of c.args.elements.now in
    subst (IsWordTo P S 0) (sym c.one.ensures) (one_to P S)

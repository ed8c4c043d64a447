use Rattle.std.proofs.Common.{sym, subst}
use Rattle.witness.specs.Tracking.{values_of}
use Rattle.word_values.specs.Values.{AreHomogeneousElements}
use Rattle.worked_bases.specs.Rings.{of_ring}
use Rattle.worked_bases.proofs.HomogeneousElements.{homogeneous_more}
use Rattle.worked_bases.proofs.values.elements.Goals as goal

pub texts-preserved : goal.texts-preserved
texts-preserved c =
    let P = of_ring c.args.p.now in
    subst (λ ts. AreHomogeneousElements P (values_of ts)) (sym c.in_ok-push.ensures.items) (homogeneous_more P c.texts.elements.items c.in_ok-t.t c.texts.invariant c.in_ok-t.ensures)

use Rattle.tete_lift.proofs.laws.fresh_is_short.Goals as goal

pub returns : goal.returns
returns g c P b u t h = h.short

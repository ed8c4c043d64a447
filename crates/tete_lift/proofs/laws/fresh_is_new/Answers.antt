use Rattle.tete_lift.proofs.Unique.{is_new}
use Rattle.tete_lift.proofs.laws.fresh_is_new.Goals as goal

pub returns : goal.returns
returns g c P b H B u t d h = is_new P b u t d h

use Rattle.tete_lift.proofs.Unique.{fresh_unique, never_both, relation_unique}
use Rattle.tete_lift.proofs.laws.lifts_are_unique.Goals as goal

pub returns-clause-relations : goal.returns-clause-relations
returns-clause-relations g c P b H B u = relation_unique P b u H B c.uniqueness.ensures.sums

pub returns-clause-fresh : goal.returns-clause-fresh
returns-clause-fresh g c P b H B u = fresh_unique P b u H B c.uniqueness.ensures.rests

pub returns-clause-one : goal.returns-clause-one
returns-clause-one g c P b u = never_both P b u

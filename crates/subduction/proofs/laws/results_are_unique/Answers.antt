use Rattle.subduction.proofs.Unique.{result_unique, value_unique, zero_exactly}
use Rattle.subduction.proofs.laws.results_are_unique.Goals as goal

pub returns-clause-results : goal.returns-clause-results
returns-clause-results g c P b H B = result_unique P b H B c.uniqueness.ensures.rests

pub returns-clause-values : goal.returns-clause-values
returns-clause-values g c P b H B = value_unique P b H B c.uniqueness.ensures.rests

pub returns-clause-zero : goal.returns-clause-zero
returns-clause-zero g c P b H B = zero_exactly P b H B c.uniqueness.ensures.combinations

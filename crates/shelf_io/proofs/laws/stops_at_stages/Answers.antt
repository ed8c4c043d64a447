use Rattle.std.proofs.Common.{length, ◌+◌, refl, arith}
use Rattle.shelf_io.specs.laws.Stages.{held_after, stages, stages_in_write, held_in_write, stage_of_more, stage_after}
use Rattle.shelf_io.proofs.laws.stops_at_stages.Goals as goal

pub returns-clause-held : goal.returns-clause-held
returns-clause-held g c = held_after g.H.Shelf.holds g.H.Shelf.moment g.H.Shelf.may_be_found

pub returns-clause-stages : goal.returns-clause-stages
returns-clause-stages g c =
    stages g.H.Shelf.holds g.H.Shelf.moment g.H.Shelf.may_be_found g.met.H.Shelf.only_held

pub returns-clause-in_write : goal.returns-clause-in_write
returns-clause-in_write g c =
    stages_in_write g.H.Shelf.holds g.H.Shelf.moment g.H.Shelf.may_be_found g.met.H.Shelf.only_held

pub returns-clause-later : goal.returns-clause-later
returns-clause-later g c = λ files saves more found stage.
    (length saves + stage.0, omega arith, stage_after files saves more stage.0 (length saves + stage.0) found refl stage.2)

pub returns-clause-more : goal.returns-clause-more
returns-clause-more g c = λ files saves more least found stage.
    (stage.0, stage.1, stage_of_more files saves more stage.0 found stage.2)

pub returns-clause-held_in_write : goal.returns-clause-held_in_write
returns-clause-held_in_write g c = held_in_write g.H.Shelf.holds g.H.Shelf.moment g.H.Shelf.may_be_found

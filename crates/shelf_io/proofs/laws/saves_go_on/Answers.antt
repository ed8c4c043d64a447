use Rattle.shelf_io.specs.laws.Stages.{saves_then_stays, saves_then_write}
use Rattle.shelf_io.proofs.laws.saves_go_on.Goals as goal

pub returns-clause-load : goal.returns-clause-load
returns-clause-load g c = saves_then_stays g.H.Shelf.holds g.H.Shelf.moment g.H.Shelf.may_be_found

pub returns-clause-write : goal.returns-clause-write
returns-clause-write g c = saves_then_write g.H.Shelf.holds g.H.Shelf.moment g.H.Shelf.may_be_found

use Rattle.std.proofs.Common.{[], ◌∷◌, Ok}
use Rattle.shelf_io.specs.Stages.{save, Writes}
use Rattle.worked_lists.proofs.stops.save_both.Goals as goal

pub returns-in_err-write : goal.returns-in_err-write
returns-in_err-write g c = λ files held found start first last at stop.
    let one = save c.args.first.now c.args.bytes.now in
    let two = save c.args.second.now c.args.bytes.now in
    let begin = c.saves_go_on.ensures.begin c.args.shelf.now in
    let write : Writes g.H.Shelf.holds g.H.Shelf.moment g.H.Shelf.may_be_found c.write.result one c.args.shelf.now c.write.new.self =
    record { held = c.write.ensures.held; later = c.write.ensures.later; stops = c.write.ensures.stops } in
    c.stops_at_stages.ensures.more files (one ∷ []) (two ∷ []) 0 found
    (c.stops_at_stages.ensures.in_write [] one c.write.result c.args.shelf.now c.args.shelf.now c.write.new.self files held start found
    begin write first last at stop)

pub returns : goal.returns
returns g c = λ files held found start first last at stop.
    let one = save c.args.first.now c.args.bytes.now in
    let two = save c.args.second.now c.args.bytes.now in
    let begin = c.saves_go_on.ensures.begin c.args.shelf.now in
    let write : Writes g.H.Shelf.holds g.H.Shelf.moment g.H.Shelf.may_be_found (Ok tt) one c.args.shelf.now c.write.new.self =
    record { held = c.in_ok-write.ensures.held; later = c.in_ok-write.ensures.later; stops = c.in_ok-write.ensures.stops } in
    let next : Writes g.H.Shelf.holds g.H.Shelf.moment g.H.Shelf.may_be_found c.write-2.result two c.write.new.self c.write-2.new.self =
    record { held = c.write-2.ensures.held; later = c.write-2.ensures.later; stops = c.write-2.ensures.stops } in
    c.stops_at_stages.ensures.in_write (one ∷ []) two c.write-2.result c.args.shelf.now c.write.new.self c.write-2.new.self files held start found
    (c.saves_go_on.ensures.write [] one c.args.shelf.now c.args.shelf.now c.write.new.self begin write) next first last at stop

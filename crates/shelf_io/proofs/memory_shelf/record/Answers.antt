use Rattle.std.proofs.Common.{◌≡◌, [], ◌∷◌, ◌++◌, map, length, Some, ap, subst, sym, ◌∙◌}
use Rattle.std.proofs.lemmas.List.{map-append}
use Rattle.shelf_io.specs.Moments.{Adds, IsHeldElsewhere}
use Rattle.shelf_io.specs.Writes.{Written, written_of, files_after, IsStopSince}
use Rattle.shelf_io.specs.laws.Writes.{adds_write, files_after-append}
use Rattle.shelf_io.proofs.memory_shelf.record.Goals as goal

abbrev recorded : goal.In_ok-push → Written
recorded c = record { name = c.args.name.now; bytes = c.args.bytes.now; count = c.args.count }

all_recorded : (c : goal.In_ok-push) → map written_of c.push.new.self.items ≡ map written_of c.args.writes.now.items ++ recorded c ∷ []
all_recorded c =
    ap (map written_of) c.in_ok-push.ensures.items
    ∙ map-append written_of c.args.writes.now.items (c.in_ok-write.write ∷ [])
    ∙ ap (λ w. map written_of c.args.writes.now.items ++ w ∷ []) c.in_ok-write.ensures

pub returns-clause-held : goal.returns-clause-held
returns-clause-held c =
    ap files_after (all_recorded c) ∙ files_after-append (map written_of c.args.writes.now.items) (recorded c)

pub returns-clause-stops : goal.returns-clause-stops
returns-clause-stops c =
    let old = map written_of c.args.writes.now.items in
    subst (λ writes. Adds (Some (length old)) (IsStopSince old) (IsStopSince writes) (IsHeldElsewhere c.args.name.now (Some (files_after old))))
    (sym (all_recorded c)) (adds_write old (recorded c))

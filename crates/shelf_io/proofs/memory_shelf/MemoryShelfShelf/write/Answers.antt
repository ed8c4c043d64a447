use Rattle.std.proofs.Common.{◌≡◌, map, ap, ◌∙◌}
use Rattle.std.proofs.Math.Seq.{take-length}
use Rattle.std.proofs.lemmas.Result.{err_from_is_err_and}
use Rattle.std.specs.FinMap as files
use Rattle.shelf_io.specs.Writes.{written_of, files_after}
use Rattle.shelf_io.proofs.Recorded.{all_written, front_written, none_written, left_written}
use Rattle.shelf_io.proofs.memory_shelf.MemoryShelfShelf.write.Goals as goal

pub returns-in_err-record-clause-held : goal.returns-in_err-record-clause-held
returns-in_err-record-clause-held c =
    let p = err_from_is_err_and c.from_residual.result c.from_residual.ensures.1 in
    rw p.1 (none_written c.args.name.now c.args.bytes.now _ _ p.0 (ap files_after c.in_err-record.ensures.err))

pub returns-in_err-record-2-clause-held : goal.returns-in_err-record-2-clause-held
returns-in_err-record-2-clause-held c =
    let p = err_from_is_err_and c.from_residual-in_err-record-2.result c.from_residual-in_err-record-2.ensures.1 in
    rw p.1 (none_written c.args.name.now c.args.bytes.now _ _ p.0 (ap files_after c.in_err-record-2.ensures.err))

-- the new files
inserted : (c : goal.In_ok-record) → files_after (map written_of c.record.new.writes.items)
    ≡ files.insert (files_after (map written_of c.args.self.now.writes.items)) c.args.name.now c.args.bytes.now
inserted c =
    c.in_ok-record.ensures.held
    ∙ ap (files.insert (files_after (map written_of c.args.self.now.writes.items)) c.args.name.now) (take-length c.args.bytes.now)

pub returns-then-not-begin-clause-held : goal.returns-then-not-begin-clause-held
returns-then-not-begin-clause-held c = all_written c.args.name.now c.args.bytes.now _ _ (inserted c)

pub returns-then-not-begin-clause-left : goal.returns-then-not-begin-clause-left
returns-then-not-begin-clause-left c =
    left_written (map written_of c.args.self.now.writes.items) (map written_of c.record.new.writes.items)
    c.args.name.now c.args.bytes.now (inserted c)

pub returns-in_ok-record-2-clause-held : goal.returns-in_ok-record-2-clause-held
returns-in_ok-record-2-clause-held c =
    front_written c.args.name.now c.args.bytes.now _ _ c.args.self.now.keep c.in_ok-record-2.ensures.held

-- What a shelf in memory is seen as.
use Rattle.std.specs.Prelude.{ℕ, List, ◌∷◌, [], ◌++◌, map, length, Result, Ok, Err, if◌then◌else◌}
use Rattle.shelf_io.specs.Calls.{Tally, tally, with_stop, is_stop, after_call}
use Rattle.shelf_io.specs.Shelf.{Files}
use Rattle.shelf_io.specs.Writes.{Written, written_of, files_after}
use Rattle.shelf_io.specs.declared.memory_shelf.MemoryShelf.{MemoryShelf}
use Rattle.shelf_io.specs.declared.shelf.WriteFault.{WriteFault}
use Rattle.shelf_io.specs.declared.shelf.WriteFault.TheVariants.{Failed, Memory}

-- the writes so far, the calls of load and write, and how many bytes a write leaves that is stopped
pub record ShelfState : Type 0 where
  pub writes : List Written
  pub calls : Tally
  pub keep : ℕ

abbrev pub shelf_state : MemoryShelf → ShelfState
shelf_state shelf = record { writes = map written_of shelf.writes.items; calls = tally shelf.calls; keep = shelf.keep }

-- the files that the shelf holds
abbrev pub held_files : ShelfState → Files
held_files s = files_after s.writes

abbrev pub with_calls : ShelfState → Tally → ShelfState
with_calls s calls = record s { calls = calls }

-- this call is the stop, and leaves so many bytes if it is a write
abbrev pub stopped_at : ShelfState → ℕ → ℕ → ShelfState
stopped_at s call keep = record s { calls = with_stop s.calls call; keep = keep }

-- one write more, which leaves the first `count` bytes under the name
abbrev pub with_write : ShelfState → List ℕ → List ℕ → ℕ → ShelfState
with_write s name bytes count =
    record s { writes = s.writes ++ record { name = name; bytes = bytes; count = count } ∷ [] }

-- What a write with this answer leaves: all bytes under the name; the first of them, if it is the stop; or nothing.
abbrev pub left_by : Result (Unit {0}) WriteFault → ShelfState → List ℕ → List ℕ → ShelfState
left_by (Ok _) s name bytes = with_write s name bytes (length bytes)
left_by (Err Failed) s name bytes = if is_stop s.calls then with_write s name bytes s.keep else s
left_by (Err Memory) s name bytes = s

-- the same, and the call counts
abbrev pub after_write_call : Result (Unit {0}) WriteFault → ShelfState → List ℕ → List ℕ → ShelfState
after_write_call result s name bytes = with_calls (left_by result s name bytes) (after_call s.calls)

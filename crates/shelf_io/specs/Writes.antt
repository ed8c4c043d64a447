-- A record of writes, from which the files at each moment follow.
use Rattle.std.specs.Prelude.{◌≡◌, ◌⊎◌, ℕ, List, [], ◌∷◌, take, drop, string_bytes}
use Rattle.std.specs.FinMap as files
use Rattle.shelf_io.specs.Shelf.{Files}
use Rattle.shelf_io.specs.declared.write_record.WriteRecord.{WriteRecord}

-- A write: the name, the bytes that were to be written, and how many of them the name has.
pub record Written : Type 0 where
  pub name : List ℕ
  pub bytes : List ℕ
  pub count : ℕ

abbrev pub written_of : WriteRecord → Written
written_of w = record { name = string_bytes w.name; bytes = w.bytes.items; count = w.count }

-- the files after a write
abbrev pub after_write : Files → Written → Files
after_write held w = files.insert held w.name (take w.count w.bytes)

-- the files after these writes, the first of them first
abbrev pub replayed : Files → List Written → Files
replayed held [] = held
replayed held (w ∷ writes) = replayed (after_write held w) writes

-- the files of a shelf that began empty
abbrev pub files_after : List Written → Files
files_after writes = replayed files.empty writes

-- a front of the bytes is under the name
abbrev pub IsTorn : Files → Written → Files → Type 0
IsTorn held w found = (n : ℕ) × (found ≡ files.insert held w.name (take n w.bytes))

-- What a stop finds from these files on, while the writes are made: the files before a write, in it, or after the last.
abbrev pub IsStopOf : Files → List Written → Files → Type 0
IsStopOf held [] found = found ≡ held
IsStopOf held (w ∷ writes) found = (found ≡ held) ⊎ (IsTorn held w found ⊎ IsStopOf (after_write held w) writes found)

-- the same, from the moment after so many of all writes on
abbrev pub IsStopSince : List Written → ℕ → Files → Type 0
IsStopSince writes m found = IsStopOf (files_after (take m writes)) (drop m writes) found

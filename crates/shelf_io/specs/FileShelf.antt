-- What is read of a file whose bytes are known.
use Rattle.std.specs.Prelude.{◌≡◌, ◌+◌, ◌≤◌, ℕ, List, length, Option, Some, None}
use Rattle.std.specs.Io.KnownBytes.{Consumes}
use Rattle.shelf_io.specs.declared.file_shelf.FileShelf.{FileShelf}
use Rattle.shelf_io.specs.Shelf.{IsOver, IsWithin}
use Rattle.shelf_io.specs.declared.shelf.Loaded.{Loaded}
use Rattle.shelf_io.specs.declared.shelf.Loaded.TheVariants.{Missing, TooLong, Bytes}

abbrev pub fault_count : {R : Type 0} → FileShelf R → ℕ
fault_count shelf = shelf.faults

-- all bytes of the file if they are within the limit, and else that there are more
abbrev pub IsRead : Option ℕ → List ℕ → Loaded → Type 0
IsRead max file Missing = ⊥
IsRead max file TooLong = IsOver max file
IsRead max file (Bytes bytes) = (bytes.items ≡ file) × IsWithin max file

-- at most one byte more than the limit, if there is one
abbrev pub IsNearly : Option ℕ → List ℕ → Type 0
IsNearly None bytes = Unit {0}
IsNearly (Some max) bytes = length bytes ≤ max + 1

-- a front of the file was read, at most one byte past the limit
abbrev pub ReadsNearly : Option ℕ → Option (List ℕ) → Option (List ℕ) → Type 0
ReadsNearly max old new = (front : List ℕ) × Consumes old new front × IsNearly max front

-- Slots for files, each with a name and room for its bytes.
use Rattle.std.specs.Prelude.{◌≡◌, ◌≤◌, ℕ, List, [], ◌∷◌, Some, slice_get, string_bytes, vec_capacity, if◌then◌else◌}
use Rattle.std.specs.FinMap as files
use Rattle.shelf_io.specs.Shelf.{Files}
use Rattle.shelf_io.specs.declared.slot.Slot.{Slot}

abbrev pub name_of : Slot → List ℕ
name_of slot = string_bytes slot.name

-- the files in the slots that have one
abbrev pub files_in : List Slot → Files
files_in [] = files.empty
files_in (slot ∷ slots) =
    if slot.is_present then files.insert (files_in slots) (name_of slot) slot.bytes.items else files_in slots

-- each slot has room for so many bytes
abbrev pub IsReserved : ℕ → List Slot → Type 0
IsReserved room slots = (i : ℕ) (slot : Slot) → slice_get slots i ≡ Some slot → room ≤ vec_capacity slot.bytes

-- The stages of a program that writes names one after the other.
use Rattle.std.specs.Prelude.{◌≡◌, ◌≤◌, ℕ, zero, suc, List, [], ◌∷◌, Option, Result, Ok}
use Rattle.std.specs.FinMap as map
use Rattle.shelf_io.specs.Shelf.{Files, SameElsewhere, WritesIfKnown}
use Rattle.shelf_io.specs.Moments.{IsLater, IsHeld, IsHeldElsewhere, Adds}
use Rattle.shelf_io.specs.declared.shelf.WriteFault.{WriteFault}

-- a name, and the bytes that are written under it
pub record Save : Type 0 where
  pub name : List ℕ
  pub bytes : List ℕ

abbrev pub save : List ℕ → List ℕ → Save
save name bytes = record { name = name; bytes = bytes }

-- the files after these saves, the first of them first
abbrev pub files_saved : Files → List Save → Files
files_saved files [] = files
files_saved files (s ∷ saves) = files_saved (map.insert files s.name s.bytes) saves

-- At a stage: the files after so many of the saves, except for the name of the next, which has any bytes or none.
abbrev pub IsAtStage : Files → List Save → ℕ → Files → Type 0
IsAtStage files [] zero found = found ≡ files
IsAtStage files [] (suc count) found = ⊥
IsAtStage files (s ∷ saves) zero found = SameElsewhere s.name files found
IsAtStage files (s ∷ saves) (suc count) found = IsAtStage (map.insert files s.name s.bytes) saves count found

-- at this stage or a later one
abbrev pub IsFromStage : Files → List Save → ℕ → Files → Type 0
IsFromStage files saves least found = (count : ℕ) × (least ≤ count) × IsAtStage files saves count found

-- a shelf with these members
module _ {S : Type 0} (holds : S → Option Files) (moment : S → Option ℕ) (may_be_found : S → ℕ → Files → Type 0) where
  -- the files stay: a load, or several, or nothing
  pub record Stays (old new : S) : Type 0 where
    pub same : holds new ≡ holds old
    pub later : IsLater (moment old) (moment new)
    pub stops : Adds (moment old) (may_be_found old) (may_be_found new) (IsHeld (holds old))

  -- a write of these bytes under this name, with this answer
  pub record Writes (result : Result (Unit {0}) WriteFault) (s : Save) (old new : S) : Type 0 where
    pub held : WritesIfKnown result s.name s.bytes (holds old) (holds new)
    pub later : IsLater (moment old) (moment new)
    pub stops : Adds (moment old) (may_be_found old) (may_be_found new) (IsHeldElsewhere s.name (holds old))

  -- these saves one after the other, each with Ok, and loads before, between and after them
  abbrev pub Saves : List Save → S → S → Type 0
  Saves [] old new = Stays old new
  Saves (s ∷ saves) old new =
      (before after : S) × Stays old before × Writes (Ok tt) s before after × Saves saves after new

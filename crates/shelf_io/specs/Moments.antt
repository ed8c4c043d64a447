-- What may be found on a shelf after a stop.
use Rattle.std.specs.Prelude.{◌≡◌, ◌≤◌, ◌⊎◌, ℕ, List, Option, Some, None}
use Rattle.std.specs.FinMap as map
use Rattle.shelf_io.specs.Shelf.{Files, SameElsewhere}

-- no moment is known, or both are, and the new one is not smaller
abbrev pub IsLater : Option ℕ → Option ℕ → Type 0
IsLater None None = Unit {0}
IsLater (Some old) (Some new) = old ≤ new
IsLater None (Some new) = ⊥
IsLater (Some old) None = ⊥

-- just the files held, if they are known
abbrev pub IsHeld : Option Files → Files → Type 0
IsHeld None found = Unit {0}
IsHeld (Some held) found = found ≡ held

-- every other name has what the files held have, if they are known
abbrev pub IsHeldElsewhere : List ℕ → Option Files → Files → Type 0
IsHeldElsewhere name None found = Unit {0}
IsHeldElsewhere name (Some held) found = SameElsewhere name held found

-- What a call adds to the files that a stop may find. From each moment up to its start on, a stop may find what it
-- might have found before the call, and besides only files with this property.
pub record Adds (moment : Option ℕ) (before now : ℕ → Files → Type 0) (P : Files → Type 0) : Type 0 where
  pub only : (start m : ℕ) (found : Files) → moment ≡ Some start → m ≤ start → now m found → before m found ⊎ P found
  pub all : (start m : ℕ) (found : Files) → moment ≡ Some start → m ≤ start → before m found → now m found

-- a stop now finds just the files that were held, with these bytes under the name
abbrev pub LeavesWritten : Option ℕ → (ℕ → Files → Type 0) → Option Files → List ℕ → List ℕ → Type 0
LeavesWritten moment may_be_found held name bytes =
    (now : ℕ) (files found : Files) → moment ≡ Some now → held ≡ Some files → may_be_found now found
    → found ≡ map.insert files name bytes

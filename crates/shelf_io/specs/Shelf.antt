-- What a shelf holds, and what its calls find and leave.
use Rattle.std.specs.Prelude.{◌≡◌, ◌≢◌, ◌<◌, ◌≤◌, ℕ, List, length, Option, Some, None, Result, Ok, Err, IsSome}
use Rattle.std.specs.FinMap as map
use Rattle.std.specs.FinMap.{FinMap}
use Rattle.std.specs.Ordering.{nat_cmp}
use Rattle.std.specs.Cmp.Lexicographic.{slice_cmp}
use Rattle.shelf_io.specs.declared.shelf.Loaded.{Loaded}
use Rattle.shelf_io.specs.declared.shelf.Loaded.TheVariants.{Missing, TooLong, Bytes}
use Rattle.shelf_io.specs.declared.shelf.WriteFault.{WriteFault}
use Rattle.shelf_io.specs.declared.shelf.WriteFault.TheVariants.{Failed, Memory}

-- files by their names, both as bytes
abbrev pub Files : Type 0
Files = FinMap (slice_cmp nat_cmp) (List ℕ)

-- at most as many bytes as the limit allows, if there is one
abbrev pub IsWithin : Option ℕ → List ℕ → Type 0
IsWithin None bytes = Unit {0}
IsWithin (Some max) bytes = length bytes ≤ max

-- more bytes than the limit allows
abbrev pub IsOver : Option ℕ → List ℕ → Type 0
IsOver None bytes = ⊥
IsOver (Some max) bytes = max < length bytes

-- What a load finds in the files. No two of these facts hold at once, so each answer comes exactly if its fact holds.
abbrev pub IsFound : Files → List ℕ → Option ℕ → Loaded → Type 0
IsFound files name max Missing = map.get files name ≡ None
IsFound files name max TooLong = (bytes : List ℕ) × (map.get files name ≡ Some bytes) × IsOver max bytes
IsFound files name max (Bytes bytes) = (map.get files name ≡ Some bytes.items) × IsWithin max bytes.items

-- no limit is passed, and without a limit nothing is too long
abbrev pub KeepsLimit : Option ℕ → Loaded → Type 0
KeepsLimit max Missing = Unit {0}
KeepsLimit max TooLong = IsSome max
KeepsLimit max (Bytes bytes) = IsWithin max bytes.items

-- every other name has what it had
abbrev pub SameElsewhere : List ℕ → Files → Files → Type 0
SameElsewhere name old new = (other : List ℕ) → other ≢ name → map.get new other ≡ map.get old other

-- What a write leaves. One that failed may leave any bytes under the name, or none.
abbrev pub IsWritten : Result (Unit {0}) WriteFault → List ℕ → List ℕ → Files → Files → Type 0
IsWritten (Ok _) name bytes old new = new ≡ map.insert old name bytes
IsWritten (Err Failed) name bytes old new = SameElsewhere name old new
IsWritten (Err Memory) name bytes old new = new ≡ old

-- If the files are known after a write, they were known before it, and the write made the new ones of the old.
abbrev pub WritesIfKnown : Result (Unit {0}) WriteFault → List ℕ → List ℕ → Option Files → Option Files → Type 0
WritesIfKnown result name bytes before after =
    (new : Files) → after ≡ Some new → (old : Files) × (before ≡ Some old) × IsWritten result name bytes old new

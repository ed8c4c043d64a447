-- Bytes within a room.
use Rattle.std.specs.Prelude.{ℕ, ◌+◌, ◌-◌, List, [], ◌++◌, length, take, nat_le, if◌then◌else◌, Option, Some, None}
use Rattle.shelf_io.specs.declared.bounded_bytes.BoundedBytes.{BoundedBytes}

-- The room for all bytes. The bytes taken, if all of them fitted in the room; and those that did.
pub record Bounded : Type 0 where
  pub room : ℕ
  pub taken : Option (List ℕ)
  pub in_room : List ℕ

abbrev pub bounded : BoundedBytes → Bounded
bounded b = record {
  room = b.room;
  taken = (if b.is_whole then Some b.bytes.items else None);
  in_room = b.bytes.items;
}

abbrev pub no_bytes : ℕ → Bounded
no_bytes room = record { room = room; taken = Some []; in_room = [] }

-- all bytes taken, known only as long as they fit in the room
abbrev pub known_within : ℕ → Option (List ℕ) → List ℕ → Option (List ℕ)
known_within room None bytes = None
known_within room (Some old) bytes = if nat_le (length old + length bytes) room then Some (old ++ bytes) else None

-- after these bytes were taken too
abbrev pub with_bytes : Bounded → List ℕ → Bounded
with_bytes b bytes = record b {
  taken = known_within b.room b.taken bytes;
  in_room = b.in_room ++ take (b.room - length b.in_room) bytes;
}

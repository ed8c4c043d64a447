-- What a shelf is seen as that never fails.
use Rattle.std.specs.Prelude.{ℕ, Bool, List, [], ◌∷◌, ◌++◌, ◌&&◌, map, length, nat_le, option_map, Option, Some, None, if◌then◌else◌}
use Rattle.std.specs.List.{list_any}
use Rattle.std.specs.Str.{bytes_eq}
use Rattle.std.specs.FinMap as files
use Rattle.shelf_io.specs.Shelf.{Files}
use Rattle.shelf_io.specs.Slots.{name_of, files_in}
use Rattle.shelf_io.specs.declared.steady_shelf.SteadyShelf.{SteadyShelf}

-- the room of each name that is admitted, these names, and the files held if they are known
pub record SteadyState : Type 0 where
  pub room : ℕ
  pub admitted : List (List ℕ)
  pub files : Option Files

abbrev pub steady_state : SteadyShelf → SteadyState
steady_state shelf = record {
  room = shelf.room;
  admitted = map name_of shelf.slots.items;
  files = (if shelf.is_known then Some (files_in shelf.slots.items) else None);
}

abbrev pub is_admitted : List (List ℕ) → List ℕ → Bool
is_admitted names name = list_any (λ admitted. bytes_eq admitted name) names

-- the name is admitted too; once, if it was before
abbrev pub with_name : SteadyState → List ℕ → SteadyState
with_name s name = record s { admitted = (if is_admitted s.admitted name then s.admitted else s.admitted ++ name ∷ []) }

-- After a write the name has the bytes. The files are not known any more if the name is not admitted or the bytes are
-- more than its room.
abbrev pub after_write : SteadyState → List ℕ → List ℕ → SteadyState
after_write s name bytes = record s {
  files = (if is_admitted s.admitted name && nat_le (length bytes) s.room
      then option_map (λ held. files.insert held name bytes) s.files
      else None);
}

-- What a steady shelf is seen as, after a call.
use Rattle.std.proofs.Common.{◌≡◌, ℕ, List, [], ◌∷◌, ◌++◌, map, Bool, true, false, Some, None, refl, sym, ap, ◌∙◌}
use Rattle.std.specs.Prelude.{if◌then◌else◌}
use Rattle.std.proofs.lemmas.List.{map-append}
use Rattle.std.proofs.lemmas.Option.{same_Some}
use Rattle.std.specs.FinMap as files
use Rattle.shelf_io.specs.Shelf.{Files}
use Rattle.shelf_io.specs.Slots.{name_of, files_in}
use Rattle.shelf_io.specs.SteadyShelf.{SteadyState, is_admitted, with_name}
use Rattle.shelf_io.specs.declared.slot.Slot.{Slot}

-- a slot of an absent name changes no file
files_in-absent : (slots : List Slot) (slot : Slot) → slot.is_present ≡ false → files_in (slots ++ slot ∷ []) ≡ files_in slots
files_in-absent [] slot absent = ap (λ b. if b then files.insert files.empty (name_of slot) slot.bytes.items else files.empty) absent
files_in-absent (s ∷ slots) slot absent =
    ap (λ held. if s.is_present then files.insert held (name_of s) s.bytes.items else held) (files_in-absent slots slot absent)

abbrev seen : ℕ → List Slot → Bool → SteadyState
seen room slots is_known = record {
  room = room;
  admitted = map name_of slots;
  files = (if is_known then Some (files_in slots) else None);
}

pub name_added : (room : ℕ) (slots new : List Slot) (slot : Slot) (is_known : Bool) (name : List ℕ) → new ≡ slots ++ slot ∷ [] → slot.is_present ≡ false
    → name_of slot ≡ name → is_admitted (map name_of slots) name ≡ false → seen room new is_known ≡ with_name (seen room slots is_known) name
name_added room slots new slot is_known name is absent named not =
    let names : map name_of new ≡ (if is_admitted (map name_of slots) name then map name_of slots else map name_of slots ++ name ∷ []) =
    ap (map name_of) is ∙ map-append name_of slots (slot ∷ []) ∙ ap (λ n. map name_of slots ++ n ∷ []) named
    ∙ sym (ap (λ b. if b then map name_of slots else map name_of slots ++ name ∷ []) not) in
    let held : files_in new ≡ files_in slots = ap files_in is ∙ files_in-absent slots slot absent in
    λ i. record { room = room; admitted = names i; files = (if is_known then Some (held i) else None) }

-- the files that are known after a write within the room
pub known_written : (is_known : Bool) (old now : Files) (name bytes : List ℕ) → now ≡ files.insert old name bytes → (new : Files) → (if is_known then Some now else None) ≡ Some new
    → (x : Files) × ((if is_known then Some old else None) ≡ Some x) × (new ≡ files.insert x name bytes)
known_written true old now name bytes is new e = (old, refl, sym (same_Some _ _ e) ∙ is)
known_written false old now name bytes is new e = absurd cc

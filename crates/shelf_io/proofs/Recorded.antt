-- What a write leaves, by its answer, and what a record of writes has of a name.
use Rattle.std.proofs.Common.{◌≡◌, ℕ, List, [], ◌∷◌, ◌++◌, length, take, map, reverse, Bool, true, false, cond, string_bytes, Option, option_map, Some, Ok, Err, refl, sym, ap, subst, ◌∙◌}
use Rattle.std.proofs.lemmas.Option.{same_Some}
use Rattle.std.proofs.lemmas.List.{map-append, reverse-reverse}
use Rattle.std.proofs.lemmas.Grind.{reverse_onto}
use Rattle.std.specs.FinMap as files
use Rattle.std.specs.FinMap.{get-empty}
use Rattle.std.specs.Ordering.{nat_cmp}
use Rattle.std.specs.Cmp.Lexicographic.{slice_cmp}
use Rattle.std.specs.List.{find}
use Rattle.std.specs.Str.{bytes_eq}
use Rattle.shelf_io.proofs.Names.{get-insert_name}
use Rattle.shelf_io.specs.Shelf.{Files, SameElsewhere, WritesIfKnown}
use Rattle.shelf_io.specs.Moments.{LeavesWritten}
use Rattle.shelf_io.specs.Writes.{Written, written_of, files_after, IsStopSince}
use Rattle.shelf_io.specs.laws.Moments.{insert_elsewhere}
use Rattle.shelf_io.specs.laws.Writes.{files_after-append, only_now}
use Rattle.shelf_io.specs.declared.write_record.WriteRecord.{WriteRecord}
use Rattle.shelf_io.specs.declared.shelf.WriteFault.{WriteFault}
use Rattle.shelf_io.specs.declared.shelf.WriteFault.TheVariants.{Failed, Memory}

abbrev pub stored_by : WriteRecord → List ℕ
stored_by w = take w.count w.bytes.items

module _ (name bytes : List ℕ) (old new : Files) where
  pub all_written : new ≡ files.insert old name bytes → WritesIfKnown (Ok tt) name bytes (Some old) (Some new)
  all_written is found known = (old, refl, sym (same_Some _ _ known) ∙ is)

  pub front_written : (n : ℕ) → new ≡ files.insert old name (take n bytes) → WritesIfKnown (Err Failed) name bytes (Some old) (Some new)
  front_written n is found known =
      (old, refl, subst (SameElsewhere name old) (sym is ∙ same_Some _ _ known) (insert_elsewhere old name (take n bytes)))

  pub none_written : (e : WriteFault) → new ≡ old → WritesIfKnown (Err e) name bytes (Some old) (Some new)
  none_written Failed is found known =
      (old, refl, subst (SameElsewhere name old) (sym is ∙ same_Some _ _ known) (λ other not. refl))
  none_written Memory is found known = (old, refl, sym (same_Some _ _ known) ∙ is)

-- what a name has after one write more
get-append : (writes : List Written) (w : Written) (name : List ℕ) →
    files.get (files_after (writes ++ w ∷ [])) name ≡ cond (bytes_eq w.name name) (Some (take w.count w.bytes)) (files.get (files_after writes) name)
get-append writes w name =
    ap (λ held. files.get held name) (files_after-append writes w)
    ∙ get-insert_name (files_after writes) w.name (take w.count w.bytes) name

found_next : (writes : List WriteRecord) (w : WriteRecord) (name : List ℕ) →
    files.get (files_after (map written_of (writes ++ w ∷ []))) name
    ≡ cond (bytes_eq (string_bytes w.name) name) (Some (stored_by w)) (files.get (files_after (map written_of writes)) name)
found_next writes w name =
    ap (λ ws. files.get (files_after ws) name) (map-append written_of writes (w ∷ []))
    ∙ get-append (map written_of writes) (written_of w) name

map-cond : (b : Bool) (w : WriteRecord) (rest : Option WriteRecord) → cond b (Some (stored_by w)) (option_map stored_by rest) ≡ option_map stored_by (cond b (Some w) rest)
map-cond true w rest = refl
map-cond false w rest = refl

found_back : (writes : List WriteRecord) (name : List ℕ) → files.get (files_after (map written_of (reverse writes))) name
    ≡ option_map stored_by (find (λ w. bytes_eq (string_bytes w.name) name) writes)
found_back [] name = get-empty (slice_cmp nat_cmp) name
found_back (w ∷ writes) name =
    ap (λ ws. files.get (files_after (map written_of ws)) name) (reverse_onto writes w [])
    ∙ found_next (reverse writes) w name
    ∙ ap (cond (bytes_eq (string_bytes w.name) name) (Some (stored_by w))) (found_back writes name)
    ∙ map-cond (bytes_eq (string_bytes w.name) name) w (find (λ x. bytes_eq (string_bytes x.name) name) writes)

-- what the last write of a name left
pub get-files_after : (writes : List WriteRecord) (name : List ℕ) → files.get (files_after (map written_of writes)) name
    ≡ option_map stored_by (find (λ w. bytes_eq (string_bytes w.name) name) (reverse writes))
get-files_after writes name =
    ap (λ ws. files.get (files_after (map written_of ws)) name) (sym (reverse-reverse writes)) ∙ found_back (reverse writes) name

-- after all bytes were recorded, a stop finds just the new files
pub left_written : (old new : List Written) (name bytes : List ℕ) → files_after new ≡ files.insert (files_after old) name bytes
    → LeavesWritten (Some (length new)) (IsStopSince new) (Some (files_after old)) name bytes
left_written old new name bytes is now held found at known stop =
    only_now new now (files.insert held name bytes) found (same_Some _ _ at)
    (is ∙ ap (λ f. files.insert f name bytes) (same_Some _ _ known)) stop

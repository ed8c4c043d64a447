-- What slots have under a name.
use Rattle.std.proofs.Common.{◌≡◌, ◌≤◌, ◌+◌, ℕ, zero, suc, List, [], ◌∷◌, map, set, Bool, true, false, cond, ◌&&◌, ◌||◌, Option, Some, option_map, string_bytes, get_or, refl, sym, ap, ◌∙◌, arith}
use Rattle.std.proofs.lemmas.Option.{same_Some}
use Rattle.std.specs.FinMap as files
use Rattle.std.specs.FinMap.{get-empty, same_map}
use Rattle.std.specs.Ordering.{nat_cmp}
use Rattle.std.specs.Cmp.Lexicographic.{slice_cmp, nat_list_cmp_total}
use Rattle.std.specs.List.{find, position_from}
use Rattle.std.specs.Option.{is_some}
use Rattle.std.specs.Str.{bytes_eq}
use Rattle.std.proofs.lemmas.Map.Lookups.{exact_bytes}
use Rattle.shelf_io.specs.Shelf.{Files}
use Rattle.shelf_io.specs.Slots.{name_of, files_in}
use Rattle.shelf_io.specs.SteadyShelf.{is_admitted}
use Rattle.shelf_io.specs.declared.slot.Slot.{Slot}
use Rattle.shelf_io.proofs.Names.{get-insert_name, same_name, same_bytes}

abbrev pub has : List ℕ → Slot → Bool
has name slot = bytes_eq (string_bytes slot.name) name

abbrev pub bytes_of : Slot → List ℕ
bytes_of slot = slot.bytes.items

get-present : (b : Bool) (held : Files) (name bytes other : List ℕ) →
    files.get (cond b (files.insert held name bytes) held) other ≡ cond (b && bytes_eq name other) (Some bytes) (files.get held other)
get-present true held name bytes other = get-insert_name held name bytes other
get-present false held name bytes other = refl

-- what a slot and further ones have under a name
get-cons : (slot : Slot) (slots : List Slot) (name : List ℕ) → files.get (files_in (slot ∷ slots)) name
    ≡ cond (slot.is_present && has name slot) (Some slot.bytes.items) (files.get (files_in slots) name)
get-cons slot slots name = get-present slot.is_present (files_in slots) (name_of slot) slot.bytes.items name

map-cond : (b : Bool) (slot : Slot) (rest : Option Slot) → cond b (Some slot.bytes.items) (option_map bytes_of rest) ≡ option_map bytes_of (cond b (Some slot) rest)
map-cond true slot rest = refl
map-cond false slot rest = refl

-- the first slot of the name that has a file
pub get-files_in : (slots : List Slot) (name : List ℕ) → files.get (files_in slots) name ≡ option_map bytes_of (find (λ slot. slot.is_present && has name slot) slots)
get-files_in [] name = get-empty (slice_cmp nat_cmp) name
get-files_in (slot ∷ slots) name =
    get-cons slot slots name
    ∙ ap (cond (slot.is_present && has name slot) (Some slot.bytes.items)) (get-files_in slots name)
    ∙ map-cond (slot.is_present && has name slot) slot (find (λ s. s.is_present && has name s) slots)

-- a slot has the name if the name is admitted
pub admitted_from : (name : List ℕ) (slots : List Slot) (base : ℕ) → is_some (position_from (has name) base slots) ≡ is_admitted (map name_of slots) name
admitted_from name [] base = refl
admitted_from name (slot ∷ slots) base = cases (has name slot) (admitted_from name slots (base + 1))
  where
    cases : (b : Bool) → is_some (position_from (has name) (base + 1) slots) ≡ is_admitted (map name_of slots) name
        → is_some (cond b (Some base) (position_from (has name) (base + 1) slots)) ≡ b || is_admitted (map name_of slots) name
    cases true h = refl
    cases false h = h

and_right : (p s : Bool) → p && s ≡ true → s ≡ true
and_right true s e = e
and_right false s e = absurd cc

position_above : (p : Slot → Bool) (slots : List Slot) (base at : ℕ) → position_from p base slots ≡ Some at → base ≤ at
position_above p [] base at e = absurd cc
position_above p (slot ∷ slots) base at e =
    elim (p slot) as (λ b. cond b (Some base) (position_from p (base + 1) slots) ≡ Some at → base ≤ at) [
      | true ↦ λ here. let same : base ≡ at = same_Some _ _ here in omega (arith, same)
      | false ↦ λ later. let above : base + 1 ≤ at = position_above p slots (base + 1) at later in omega (arith, above)
    ] e

covered : (t p : Bool) (x y z : Option (List ℕ)) → cond t x (cond (p && t) y z) ≡ cond t x z
covered true p x y z = refl
covered false true x y z = refl
covered false false x y z = refl

swapped : (a t : Bool) (x y z : Option (List ℕ)) → (a ≡ true → t ≡ true → ⊥) → cond a y (cond t x z) ≡ cond t x (cond a y z)
swapped true true x y z not = absurd (not refl refl)
swapped true false x y z not = refl
swapped false t x y z not = refl

-- a slot that is put in place of the first with its name
module _ (name : List ℕ) (new : Slot) (present : new.is_present ≡ true) (named : name_of new ≡ name) where
  put_first : (slot : Slot) (slots : List Slot) (q : List ℕ) → has name slot ≡ true →
      files.get (files_in (new ∷ slots)) q ≡ cond (bytes_eq name q) (Some new.bytes.items) (files.get (files_in (slot ∷ slots)) q)
  put_first slot slots q here =
      get-cons new slots q
      ∙ ap (λ b. cond (b && has q new) (Some new.bytes.items) (files.get (files_in slots) q)) present
      ∙ ap (λ n. cond (bytes_eq n q) (Some new.bytes.items) (files.get (files_in slots) q)) named
      ∙ sym (covered (bytes_eq name q) slot.is_present (Some new.bytes.items) (Some slot.bytes.items) (files.get (files_in slots) q))
      ∙ ap (λ n. cond (bytes_eq name q) (Some new.bytes.items) (cond (slot.is_present && bytes_eq n q) (Some slot.bytes.items) (files.get (files_in slots) q)))
      (sym (same_name (name_of slot) name here))
      ∙ ap (cond (bytes_eq name q) (Some new.bytes.items)) (sym (get-cons slot slots q))

  put_later : (slot : Slot) (slots rest : List Slot) (q : List ℕ) → has name slot ≡ false
      → files.get (files_in rest) q ≡ cond (bytes_eq name q) (Some new.bytes.items) (files.get (files_in slots) q)
      → files.get (files_in (slot ∷ rest)) q ≡ cond (bytes_eq name q) (Some new.bytes.items) (files.get (files_in (slot ∷ slots)) q)
  put_later slot slots rest q other is =
      get-cons slot rest q
      ∙ ap (cond (slot.is_present && has q slot) (Some slot.bytes.items)) is
      ∙ swapped (slot.is_present && has q slot) (bytes_eq name q) (Some new.bytes.items) (Some slot.bytes.items) (files.get (files_in slots) q)
      (λ both same.
      let is_q : name_of slot ≡ q = same_name (name_of slot) q (and_right slot.is_present (has q slot) both) in
      let again : has name slot ≡ true = same_bytes (name_of slot) name (is_q ∙ sym (same_name name q same)) in
      absurd cc)
      ∙ ap (cond (bytes_eq name q) (Some new.bytes.items)) (sym (get-cons slot slots q))

  get-set : (slots : List Slot) (base at k : ℕ) → position_from (has name) base slots ≡ Some at → at ≡ base + k → (q : List ℕ) →
      files.get (files_in (set slots k new)) q ≡ cond (bytes_eq name q) (Some new.bytes.items) (files.get (files_in slots) q)
  get-set [] base at k e is q = absurd cc
  get-set (slot ∷ slots) base at zero e is q =
      elim (has name slot) as (λ b. has name slot ≡ b → cond b (Some base) (position_from (has name) (base + 1) slots) ≡ Some at
      → files.get (files_in (new ∷ slots)) q ≡ cond (bytes_eq name q) (Some new.bytes.items) (files.get (files_in (slot ∷ slots)) q)) [
        | true ↦ λ here first. put_first slot slots q here
        | false ↦ λ other later.
            let above : base + 1 ≤ at = position_above (has name) slots (base + 1) at later in
            absurd (omega (arith, above, is))
      ] refl e
  get-set (slot ∷ slots) base at (suc k) e is q =
      elim (has name slot) as (λ b. has name slot ≡ b → cond b (Some base) (position_from (has name) (base + 1) slots) ≡ Some at
      → files.get (files_in (slot ∷ set slots k new)) q ≡ cond (bytes_eq name q) (Some new.bytes.items) (files.get (files_in (slot ∷ slots)) q)) [
        | true ↦ λ here first.
            let same : base ≡ at = same_Some _ _ first in
            absurd (omega (arith, same, is))
        | false ↦ λ other later. put_later slot slots (set slots k new) q other (get-set slots (base + 1) at k later (omega (arith, is)) q)
      ] refl e

  pub files_in-set : (slots : List Slot) (at : ℕ) → position_from (has name) 0 slots ≡ Some at →
      files_in (set slots at new) ≡ files.insert (files_in slots) name new.bytes.items
  files_in-set slots at first = same_map nat_list_cmp_total exact_bytes _ _ (λ q.
      get-set slots 0 at at first (omega arith) q ∙ sym (get-insert_name (files_in slots) name new.bytes.items q))

-- the slot there has the name
pub position_named : (name : List ℕ) (slots : List Slot) (base at k : ℕ) (d : Slot) → position_from (has name) base slots ≡ Some at → at ≡ base + k → name_of (get_or slots k d) ≡ name
position_named name [] base at k d e is = absurd cc
position_named name (slot ∷ slots) base at zero d e is =
    elim (has name slot) as (λ b. has name slot ≡ b → cond b (Some base) (position_from (has name) (base + 1) slots) ≡ Some at → name_of slot ≡ name) [
      | true ↦ λ here first. same_name (name_of slot) name here
      | false ↦ λ other later.
          let above : base + 1 ≤ at = position_above (has name) slots (base + 1) at later in
          absurd (omega (arith, above, is))
    ] refl e
position_named name (slot ∷ slots) base at (suc k) d e is =
    elim (has name slot) as (λ b. has name slot ≡ b → cond b (Some base) (position_from (has name) (base + 1) slots) ≡ Some at → name_of (get_or slots k d) ≡ name) [
      | true ↦ λ here first.
          let same : base ≡ at = same_Some _ _ first in
          absurd (omega (arith, same, is))
      | false ↦ λ other later. position_named name slots (base + 1) at k d later (omega (arith, is))
    ] refl e

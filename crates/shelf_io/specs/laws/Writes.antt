-- The moments of a record of writes.
use Rattle.std.proofs.Common.{◌≡◌, ◌≤◌, ◌⊎◌, ℕ, List, [], ◌∷◌, ◌++◌, length, take, drop, Some, refl, sym, ap, subst, ◌∙◌, inl, inr}
use Rattle.std.proofs.lemmas.List.{take-append-drop, take-append-le, drop-append-le}
use Rattle.std.proofs.Math.Seq.{take-length}
use Rattle.std.proofs.lemmas.Option.{same_Some}
use Rattle.std.specs.FinMap as files
use Rattle.shelf_io.specs.Shelf.{Files, SameElsewhere}
use Rattle.shelf_io.specs.Moments.{Adds, IsHeldElsewhere}
use Rattle.shelf_io.specs.Writes.{Written, after_write, replayed, files_after, IsStopOf, IsStopSince}
use Rattle.shelf_io.specs.laws.Moments.{insert_elsewhere}

pub replayed-append : (held : Files) (xs ys : List Written) → replayed held (xs ++ ys) ≡ replayed (replayed held xs) ys
replayed-append held [] ys = refl
replayed-append held (x ∷ xs) ys = replayed-append (after_write held x) xs ys

-- one write more
pub files_after-append : (writes : List Written) (w : Written)
    → files_after (writes ++ w ∷ []) ≡ after_write (files_after writes) w
files_after-append writes w = replayed-append files.empty writes (w ∷ [])

split_at : (m : ℕ) (writes : List Written) → replayed (files_after (take m writes)) (drop m writes) ≡ files_after writes
split_at m writes =
    sym (replayed-append files.empty (take m writes) (drop m writes)) ∙ ap files_after (take-append-drop m writes)

-- a stop may come after the last write
stop_at_end : (held : Files) (writes : List Written) → IsStopOf held writes (replayed held writes)
stop_at_end held [] = refl
stop_at_end held (w ∷ writes) = inr (inr (stop_at_end (after_write held w) writes))

-- from each moment on, the files held now may be found
pub held_since : (writes : List Written) (m : ℕ) (held : Files) → files_after writes ≡ held → IsStopSince writes m held
held_since writes m held is =
    subst (IsStopSince writes m) (split_at m writes ∙ is) (stop_at_end (files_after (take m writes)) (drop m writes))

drop_all : (writes : List Written) → drop (length writes) writes ≡ []
drop_all [] = refl
drop_all (w ∷ writes) = drop_all writes

-- from this moment on, just the files held now
pub only_now : (writes : List Written) (now : ℕ) (held found : Files) → length writes ≡ now
    → files_after writes ≡ held → IsStopSince writes now found → found ≡ held
only_now writes now held found at is stop =
    let here : IsStopOf (files_after (take (length writes) writes)) (drop (length writes) writes) found =
    subst (λ n. IsStopSince writes n found) (sym at) stop in
    let end : found ≡ files_after (take (length writes) writes) =
    subst (λ l. IsStopOf (files_after (take (length writes) writes)) l found) (drop_all writes) here in
    end ∙ ap files_after (take-length writes) ∙ is

-- a stop while one write more is made
stop_in_last : (held : Files) (writes : List Written) (w : Written) (found : Files)
    → IsStopOf held (writes ++ w ∷ []) found
    → IsStopOf held writes found ⊎ SameElsewhere w.name (replayed held writes) found
stop_in_last held [] w found (inl is) = inl is
stop_in_last held [] w found (inr (inl torn)) =
    inr (subst (SameElsewhere w.name held) (sym torn.1) (insert_elsewhere held w.name (take torn.0 w.bytes)))
stop_in_last held [] w found (inr (inr is)) =
    inr (subst (SameElsewhere w.name held) (sym is) (insert_elsewhere held w.name (take w.count w.bytes)))
stop_in_last held (x ∷ writes) w found (inl is) = inl (inl is)
stop_in_last held (x ∷ writes) w found (inr (inl torn)) = inl (inr (inl torn))
stop_in_last held (x ∷ writes) w found (inr (inr stop)) =
    elim (stop_in_last (after_write held x) writes w found stop) [
      | inl stop ↦ inl (inr (inr stop))
      | inr same ↦ inr same
    ]

-- what might have been found before it
stop_before_last : (held : Files) (writes : List Written) (w : Written) (found : Files) → IsStopOf held writes found
    → IsStopOf held (writes ++ w ∷ []) found
stop_before_last held [] w found is = inl is
stop_before_last held (x ∷ writes) w found (inl is) = inl is
stop_before_last held (x ∷ writes) w found (inr (inl torn)) = inr (inl torn)
stop_before_last held (x ∷ writes) w found (inr (inr stop)) = inr (inr (stop_before_last (after_write held x) writes w found stop))

module _ (writes : List Written) (w : Written) (m : ℕ) (le : m ≤ length writes) (found : Files) where
  -- since an earlier moment, one write more
  with_last : IsStopSince (writes ++ w ∷ []) m found
      → IsStopOf (files_after (take m writes)) (drop m writes ++ w ∷ []) found
  with_last h =
      subst (λ l. IsStopOf (files_after (take m writes)) l found) (drop-append-le m writes (w ∷ []) le)
      (subst (λ l. IsStopOf (files_after l) (drop m (writes ++ w ∷ [])) found) (take-append-le m writes (w ∷ []) le) h)

  from_last : IsStopOf (files_after (take m writes)) (drop m writes ++ w ∷ []) found
      → IsStopSince (writes ++ w ∷ []) m found
  from_last h =
      subst (λ l. IsStopOf (files_after l) (drop m (writes ++ w ∷ [])) found) (sym (take-append-le m writes (w ∷ []) le))
      (subst (λ l. IsStopOf (files_after (take m writes)) l found) (sym (drop-append-le m writes (w ∷ []) le)) h)

-- a write adds a front of its bytes under its name, and nothing elsewhere
pub adds_write : (writes : List Written) (w : Written)
    → Adds (Some (length writes)) (IsStopSince writes) (IsStopSince (writes ++ w ∷ []))
    (IsHeldElsewhere w.name (Some (files_after writes)))
adds_write writes w = record {
  only = λ start m found e le h.
      let within : m ≤ length writes = subst (λ n. m ≤ n) (sym (same_Some _ _ e)) le in
      elim (stop_in_last (files_after (take m writes)) (drop m writes) w found (with_last writes w m within found h)) [
        | inl stop ↦ inl stop
        | inr same ↦ inr (subst (λ held. SameElsewhere w.name held found) (split_at m writes) same)
      ];
  all = λ start m found e le h.
      let within : m ≤ length writes = subst (λ n. m ≤ n) (sym (same_Some _ _ e)) le in
      from_last writes w m within found (stop_before_last (files_after (take m writes)) (drop m writes) w found h);
}

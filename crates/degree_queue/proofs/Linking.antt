-- A node that joins a list at its end.
use Rattle.std.proofs.Common.{◌≡◌, ◌≢◌, ℕ, suc, ◌+◌, ◌-◌, ◌<◌, ◌≤◌, List, [], ◌∷◌, ◌++◌, length, refl, sym, ap, ◌∙◌, inl, inr, arith}
use Rattle.std.specs.List.{slice_index}
use Rattle.std.proofs.lemmas.Bool.{cases_lt}
use Rattle.std.proofs.lemmas.List.{get_or_append_left, get_or_push, length_push}
use Rattle.degree_queue.specs.declared.links.Node.{Node}
use Rattle.degree_queue.specs.declared.links.Ends.{Ends}
use Rattle.degree_queue.specs.Links.{times, next_at, prev_at, IsApart, IsList, Joins, ChangesLinks}
use Rattle.degree_queue.proofs.Counting.{same_index, slice_index-lt}
use Rattle.degree_queue.proofs.Paths.{ChangesLinks-joined}

module _ {T : Type 0} (nodes new : List (Node T)) (ends : Ends) (p : List ℕ) (at : ℕ) (list : IsList nodes ends p) (some : 0 < length p) where
  abbrev more : List ℕ
  more = p ++ at ∷ []

  long : length more ≡ length p + 1
  long = length_push p at

  front : (j : ℕ) → j < length p → slice_index more j ≡ slice_index p j
  front j inside = get_or_append_left p (at ∷ []) 0 j inside

  back : (j : ℕ) → length p ≡ j → slice_index more j ≡ at
  back j end = get_or_push p at 0 j end

  -- one more node behind the last
  pub IsList-more : (once : (i : ℕ) → times i (p ++ at ∷ []) ≤ 1) → Joins nodes new ends.last at → IsList new (record { first = ends.first; last = at; len = ends.len + 1 }) (p ++ at ∷ [])
  IsList-more once joins = record {
    len = omega (arith, long, list.len);
    first = λ _. list.first some ∙ sym (front 0 some);
    last = λ _. sym (back (length more - 1) (omega (arith, long)));
    next = next_links;
    prev = prev_links;
  }
    where
      last_is : (j : ℕ) → suc j ≡ length p → slice_index more j ≡ ends.last
      last_is j end = front j (omega arith) ∙ ap (slice_index p) (omega arith) ∙ sym (list.last some)

      next_links : (j : ℕ) → suc j < length more → next_at new (slice_index more j) ≡ slice_index more (suc j)
      next_links j within =
          elim (cases_lt (suc j) (length p)) [
            | inl lower ↦ joins.other_next (slice_index more j) (λ equal. absurd (omega (arith, same_index more j (length p - 1) once (omega arith) (omega (arith, long)) (equal ∙ sym (last_is (length p - 1) (omega arith)))))) ∙ ap (next_at nodes) (front j (omega arith)) ∙ list.next j lower ∙ sym (front (suc j) lower)
            | inr upper ↦ ap (next_at new) (last_is j (omega (arith, long))) ∙ joins.next ∙ sym (back (suc j) (omega (arith, long)))
          ]

      prev_links : (j : ℕ) → suc j < length more → prev_at new (slice_index more (suc j)) ≡ slice_index more j
      prev_links j within =
          elim (cases_lt (suc j) (length p)) [
            | inl lower ↦ joins.other_prev (slice_index more (suc j)) (λ equal. absurd (omega (arith, same_index more (suc j) (length p) once within (omega (arith, long)) (equal ∙ sym (back (length p) refl))))) ∙ ap (prev_at nodes) (front (suc j) lower) ∙ list.prev j lower ∙ sym (front j (omega arith))
            | inr upper ↦ ap (prev_at new) (back (suc j) (omega (arith, long))) ∙ joins.prev ∙ sym (last_is j (omega (arith, long)))
          ]

module _ {T : Type 0} (nodes : List (Node T)) (ends : Ends) (p : List ℕ) (at : ℕ) (list : IsList nodes ends p) (apart : IsApart (length nodes) (p ++ at ∷ [])) where
  pub at_within : at < length nodes
  at_within = omega (arith, slice_index-lt (length nodes) (p ++ at ∷ []) apart (length p) (omega (arith, length_push p at)), get_or_push p at 0 (length p) refl)

  module _ (not_only : ends.len + 1 ≢ 1) where
    some : 0 < length p
    some = omega (arith, list.len)

    last_found : ends.last ≡ slice_index (p ++ at ∷ []) (length p - 1)
    last_found = list.last some ∙ sym (get_or_append_left p (at ∷ []) 0 (length p - 1) (omega arith))

    pub last_within : ends.last < length nodes
    last_within = omega (arith, last_found, slice_index-lt (length nodes) (p ++ at ∷ []) apart (length p - 1) (omega (arith, length_push p at)))

    module _ (new : List (Node T)) (joins : Joins nodes new ends.last at) where
      pub with_last : IsList new (record { first = ends.first; last = at; len = ends.len + 1 }) (p ++ at ∷ [])
      with_last = IsList-more nodes new ends p at list some apart.once joins

      pub changes_last : ChangesLinks (p ++ at ∷ []) nodes new
      changes_last =
          ChangesLinks-joined nodes new (p ++ at ∷ []) ends.last at (length p - 1) (length p) (omega (arith, length_push p at)) (omega (arith, length_push p at)) last_found (sym (get_or_push p at 0 (length p) refl)) joins

-- The items of the nodes on a list.
use Rattle.std.proofs.Common.{◌≡◌, ℕ, zero, suc, ◌<◌, List, [], ◌∷◌, ◌++◌, Option, Some, None, length, refl, sym, ap, ◌∙◌, arith}
use Rattle.std.specs.List.{filter_map, cons_option, remove, slice_get, slice_index}
use Rattle.std.specs.Option.{IsSome}
use Rattle.std.proofs.lemmas.List.Elements.{filter_map-append}

module _ {T : Type 0} where
  pub filter_map_same : (g h : ℕ → Option T) (p : List ℕ) → ((k : ℕ) → k < length p → g (slice_index p k) ≡ h (slice_index p k)) → filter_map g p ≡ filter_map h p
  filter_map_same g h [] same = refl
  filter_map_same g h (x ∷ xs) same =
      ap (λ (o : Option T). cons_option o (filter_map g xs)) (same 0 (omega arith)) ∙ ap (λ (ys : List T). cons_option (h x) ys) (filter_map_same g h xs (λ k inside. same (suc k) (omega arith)))

  pub filter_map_push : (h : ℕ → Option T) (p : List ℕ) (x : ℕ) (item : T) → h x ≡ Some item → filter_map h (p ++ x ∷ []) ≡ filter_map h p ++ item ∷ []
  filter_map_push h p x item here = filter_map-append h p (x ∷ []) ∙ ap (λ (o : Option T). filter_map h p ++ cons_option o []) here

  -- an option that is Some
  pub some_value : (o : Option T) → IsSome o → (v : T) × (o ≡ Some v)
  some_value (Some v) some = (v, refl)
  some_value None some = absurd (cc)

  module _ (h : ℕ → Option T) where
    abbrev pub AllFull : List ℕ → Type 0
    AllFull p = (k : ℕ) → k < length p → IsSome (h (slice_index p k))

    pub length-filter_map : (p : List ℕ) → AllFull p → length (filter_map h p) ≡ length p
    length-filter_map [] full = refl
    length-filter_map (x ∷ xs) full =
        let found = some_value (h x) (full 0 (omega arith)) in
        ap (λ (o : Option T). length (cons_option o (filter_map h xs))) found.1 ∙ ap suc (length-filter_map xs (λ k inside. full (suc k) (omega arith)))

    pub slice_get-filter_map : (p : List ℕ) (k : ℕ) → AllFull p → k < length p → slice_get (filter_map h p) k ≡ h (slice_index p k)
    slice_get-filter_map [] k full inside = absurd (omega arith)
    slice_get-filter_map (x ∷ xs) zero full inside =
        let found = some_value (h x) (full 0 (omega arith)) in
        ap (λ (o : Option T). slice_get (cons_option o (filter_map h xs)) 0) found.1 ∙ sym found.1
    slice_get-filter_map (x ∷ xs) (suc k) full inside =
        let found = some_value (h x) (full 0 (omega arith)) in
        ap (λ (o : Option T). slice_get (cons_option o (filter_map h xs)) (suc k)) found.1 ∙ slice_get-filter_map xs k (λ j within. full (suc j) (omega arith)) (omega arith)

    pub filter_map-remove : (p : List ℕ) (k : ℕ) → AllFull p → k < length p → filter_map h (remove p k) ≡ remove (filter_map h p) k
    filter_map-remove [] k full inside = absurd (omega arith)
    filter_map-remove (x ∷ xs) zero full inside =
        let found = some_value (h x) (full 0 (omega arith)) in
        sym (ap (λ (o : Option T). remove (cons_option o (filter_map h xs)) 0) found.1)
    filter_map-remove (x ∷ xs) (suc k) full inside =
        let found = some_value (h x) (full 0 (omega arith)) in
        let rest = filter_map-remove xs k (λ j within. full (suc j) (omega arith)) (omega arith) in
        ap (λ (o : Option T). cons_option o (filter_map h (remove xs k))) found.1 ∙ ap (λ (ys : List T). found.0 ∷ ys) rest ∙ sym (ap (λ (o : Option T). remove (cons_option o (filter_map h xs)) (suc k)) found.1)

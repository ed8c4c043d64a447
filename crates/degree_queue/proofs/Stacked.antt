-- Vectors by degree, of which one has other items than before.
use Rattle.std.proofs.Common.{◌≡◌, ℕ, ◌<◌, List, [], Vec, Global, length, get_or, set, take, sym, ap, ◌∙◌, arith}
use Rattle.std.proofs.lemmas.List.{map-set, length-map, get_or-map, get_or-set_same, get_or-set_other, set-get_or, take-map}
use Rattle.degree_queue.specs.DegreeQueue.{list_of, SameElsewhere}
use Rattle.degree_queue.specs.DegreeStacks.{lists_in}

module _ {T : Type 0} where
  abbrev items : Vec T Global → List T
  items v = v.items

  pub within_lists : (stacks : List (Vec T Global)) (d : ℕ) → d < length stacks → d < length (lists_in stacks)
  within_lists stacks d within = omega (arith, length-map stacks items)

  -- v is the vector of a degree, which was s
  module _ (stacks : List (Vec T Global)) (d : ℕ) (s v : Vec T Global) (within : d < length (lists_in stacks)) (read : s ≡ get_or stacks d s) where
    pub before_set : list_of (lists_in stacks) d ≡ s.items
    before_set = get_or-map items stacks d s [] (omega (arith, length-map stacks items)) ∙ ap items (sym read)

    pub at_set : list_of (lists_in (set stacks d v)) d ≡ v.items
    at_set = ap (λ (xs : List (List T)). list_of xs d) (map-set items stacks d v) ∙ get_or-set_same (lists_in stacks) d v.items [] within

    pub other_set : SameElsewhere d (lists_in stacks) (lists_in (set stacks d v))
    other_set other differ = ap (λ (xs : List (List T)). list_of xs other) (map-set items stacks d v) ∙ get_or-set_other (lists_in stacks) d other v.items [] differ

    pub same_set : v.items ≡ s.items → lists_in (set stacks d v) ≡ lists_in stacks
    same_set same = map-set items stacks d v ∙ ap (set (lists_in stacks) d) (same ∙ sym before_set) ∙ set-get_or (lists_in stacks) d []

    -- the first vectors are those of before
    pub cut_back : (old : List (Vec T Global)) (n : ℕ) → n ≡ length old → take (length (lists_in old)) (lists_in stacks) ≡ lists_in old → v.items ≡ s.items → lists_in (take n (set stacks d v)) ≡ lists_in old
    cut_back old n long front same =
        sym (take-map items n (set stacks d v)) ∙ ap (take n) (same_set same) ∙ ap (λ (k : ℕ). take k (lists_in stacks)) (long ∙ sym (length-map old items)) ∙ front

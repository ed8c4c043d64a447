-- What a contract sees of a queue: a list of items for each degree.
use Rattle.std.specs.Prelude.{◌≡◌, ◌≢◌, ℕ, List, [], slice_index_or}

module _ {T : Type 0} where
  -- the items of a degree, in order; none at a degree that was never used
  abbrev pub list_of : List (List T) → ℕ → List T
  list_of queue degree = slice_index_or queue degree []

  -- each other degree has the items that it had
  abbrev pub SameElsewhere : ℕ → List (List T) → List (List T) → Type 0
  SameElsewhere degree old new = (other : ℕ) → other ≢ degree → list_of new other ≡ list_of old other

  -- each degree has the items that it had
  abbrev pub SameLists : List (List T) → List (List T) → Type 0
  SameLists old new = (degree : ℕ) → list_of new degree ≡ list_of old degree

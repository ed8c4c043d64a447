-- Tests of weights and rows.
use Rattle.std.specs.Prelude.{ℕ, List, [], ◌∷◌, length, Bool, true, ◌&&◌, nat_le, nat_eq}

-- each number is from lo to hi
abbrev pub all_between : ℕ → ℕ → List ℕ → Bool
all_between lo hi [] = true
all_between lo hi (w ∷ ws) = (nat_le lo w && nat_le w hi) && all_between lo hi ws

-- each row has n entries of at most 1000
abbrev pub are_rows : ℕ → List (List ℕ) → Bool
are_rows n [] = true
are_rows n (row ∷ rows) = (nat_eq (length row) n && all_between 0 1000 row) && are_rows n rows

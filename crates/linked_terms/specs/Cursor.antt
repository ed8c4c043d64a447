-- What a contract sees of a list with a cursor.
use Rattle.std.specs.Prelude.{ℕ, List}

-- the items before the cursor and after it, and how many nodes are spare
pub record Cursor (T : Type 0) : Type 0 where
  pub before : List T
  pub after : List T
  pub spare : ℕ

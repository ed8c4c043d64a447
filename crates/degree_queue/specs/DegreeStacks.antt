-- Vectors of items, one for each degree.
use Rattle.std.specs.Prelude.{List, Vec, map}
use Rattle.std.specs.Global.{Global}

module _ {T : Type 0} where
  -- the items of each degree, in order
  abbrev pub lists_in : List (Vec T Global) → List (List T)
  lists_in stacks = map (λ v. v.items) stacks

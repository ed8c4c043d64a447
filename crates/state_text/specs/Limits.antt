-- The limits of a state text.
use Rattle.std.specs.Prelude.{ℕ}

-- the greatest degree of a state
abbrev pub bound_max : ℕ
bound_max = 15000

-- the first number with more than 18 digits
abbrev pub count_max : ℕ
count_max = 1000000000000000000

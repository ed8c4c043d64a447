-- What the program computes with.
use Rattle.std.specs.Prelude.{ℕ}

-- the greatest exponent of a monomial, and the greatest degree of a product
abbrev pub exponent_max : ℕ
exponent_max = 65535

-- the greatest degree of a polynomial in a text, of a variable, of a lead and of a generator
abbrev pub degree_max : ℕ
degree_max = 30000

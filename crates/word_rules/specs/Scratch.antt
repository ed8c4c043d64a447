-- Words that change in place.
use Rattle.std.specs.Prelude.{◌≢◌, ◌<◌, ℕ, List, length, Contains}
use Rattle.monomial_order.specs.Monomial.{exponent}

-- each letter of the word with these exponents is listed, and none is past their end
pub record IsListed (exponents letters : List ℕ) : Type 0 where
  pub inside : (a : ℕ) → Contains letters a → a < length exponents
  pub all : (a : ℕ) → exponent exponents a ≢ 0 → Contains letters a

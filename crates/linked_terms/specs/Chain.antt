-- What a contract sees of a chain of terms.
use Rattle.std.specs.Prelude.{ℕ}
use Rattle.polynomials.specs.Polynomial.{Polynomial}

-- the terms, and how many more there is memory for
pub record Chain (E : Type 0) : Type 0 where
  pub terms : Polynomial E
  pub spare : ℕ

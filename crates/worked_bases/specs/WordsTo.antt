-- Words over elements that tests make letter by letter.
use Rattle.std.specs.Prelude.{ℕ, ◌≤◌, List}
use Rattle.monomial_order.specs.Monomial.{Exponents, exponent}
use Rattle.word_laws.specs.Words.{IsSWord}
use Rattle.polynomials.specs.Polynomial.{Polynomial}
use Rattle.polynomials.specs.Subalgebra.{Presented}
use Rattle.subalgebra_laws.specs.Words.{letters}
use Rattle.word_values.specs.Values.{word_degree}

-- an s-word of degree at most d, with exponents of at most d
pub record IsWordTo {E : Type 0} (P : Presented E) (S : List (Polynomial E)) (d : ℕ) (w : Exponents) : Type 0 where
  pub word : IsSWord (letters P S) w
  pub degree : word_degree P S w ≤ d
  pub exponents : (i : ℕ) → exponent w i ≤ d

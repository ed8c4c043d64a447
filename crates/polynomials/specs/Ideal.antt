-- The ideal that a list of polynomials generates.
use Rattle.std.specs.Prelude.{ℕ, List, [], ◌∷◌, ◌++◌, Contains}
use Rattle.word_field.specs.Field.{FieldOps}
use Rattle.polynomials.specs.Polynomial.{Polynomial, Same, times, IsPoly, minus}

-- a polynomial times a member of the list rs
pub record Multiple (E : Type 0) : Type 0 where
  pub by : Polynomial E
  pub of : Polynomial E

module _ {E : Type 0} (K : FieldOps E) where
  -- each of these is a polynomial in n places times a member of rs
  abbrev pub AreMultiples : ℕ → List (Polynomial E) → List (Multiple E) → Type 0
  AreMultiples n rs [] = Unit {0}
  AreMultiples n rs (w ∷ ws) = IsPoly K n w.by × Contains rs w.of × AreMultiples n rs ws

  abbrev pub sum_of : List (Multiple E) → Polynomial E
  sum_of [] = []
  sum_of (w ∷ ws) = times K w.by w.of ++ sum_of ws

  -- a is a sum of multiples of members of rs
  pub record InIdeal (n : ℕ) (rs : List (Polynomial E)) (a : Polynomial E) : Type 0 where
    pub parts : List (Multiple E)
    pub multiples : AreMultiples n rs parts
    pub sums : Same K a (sum_of parts)

  -- a and b differ by a member of the ideal
  abbrev pub Congruent : ℕ → List (Polynomial E) → Polynomial E → Polynomial E → Type 0
  Congruent n rs a b = InIdeal n rs (minus K a b)

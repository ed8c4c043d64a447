-- Tables of powers.
use Rattle.std.specs.Prelude.{◌≡◌, ℕ, ◌+◌, ◌<◌, ◌≤◌, List, [], length, slice_index_or}
use Rattle.word_field.specs.Field.{FieldOps}
use Rattle.monomial_order.specs.Monomial.{Exponents, exponent}
use Rattle.monomial_order.specs.MonomialOrder.{MonomialOrder}
use Rattle.polynomials.specs.Polynomial.{Polynomial, Same, IsCanonical}
use Rattle.polynomials.specs.Value.{power}

-- each row of the table has an entry for the power at its place of the monomial, if it is above 1
abbrev pub Reaches : {E : Type 0} → List (List (Polynomial E)) → Exponents → Type 0
Reaches rows m = (i : ℕ) → i < length rows → exponent m i ≤ length (slice_index_or rows i []) + 1

module _ {E : Type 0} (K : FieldOps E) (O : MonomialOrder) where
  -- r is the power e of p
  pub record IsPowerOf (p : Polynomial E) (e : ℕ) (r : Polynomial E) : Type 0 where
    pub canonical : IsCanonical K O r
    pub same : Same K r (power K p e)

  -- the powers of p, from its square on
  abbrev pub ArePowers : Polynomial E → List (Polynomial E) → Type 0
  ArePowers p rs = (k : ℕ) → k < length rs → IsPowerOf p (k + 2) (slice_index_or rs k [])

  -- a row of powers for each polynomial of a list
  pub record IsTable (fs : List (Polynomial E)) (rows : List (List (Polynomial E))) : Type 0 where
    pub rows_match : length rows ≡ length fs
    pub powers : (i : ℕ) → i < length fs → ArePowers (slice_index_or fs i []) (slice_index_or rows i [])

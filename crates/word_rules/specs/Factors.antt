-- The letters of words.
use Rattle.std.specs.Prelude.{◌≡◌, ℕ, zero, suc, List, [], ◌∷◌}
use Rattle.monomial_order.specs.Monomial.{Exponents, IsTrimmed}
use Rattle.word_rules.specs.declared.factor.Factor.{Factor}

-- the places with exponents other than 0, rising, each with its exponent, if the first place is k
abbrev pub factors_from : ℕ → Exponents → List Factor
factors_from k [] = []
factors_from k (zero ∷ w) = factors_from (suc k) w
factors_from k (suc e ∷ w) = record { letter = k; exponent = suc e } ∷ factors_from (suc k) w

-- the letters of a word
abbrev pub factors_of : Exponents → List Factor
factors_of w = factors_from 0 w

-- a word as a side of a rule, with its letters
pub record IsSide (w : Exponents) (factors : List Factor) : Type 0 where
  pub trimmed : IsTrimmed w
  pub listed : factors ≡ factors_of w

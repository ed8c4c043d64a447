-- Words with zeros at the end.
use Rattle.std.specs.Prelude.{ℕ, zero, suc, List, [], ◌∷◌, Option, None, Some}
use Rattle.monomial_order.specs.Monomial.{Exponents}
use Rattle.word_rewriting.specs.Rewriting.{WordOrZero}

-- an exponent in front of a word
abbrev pub begun_by : ℕ → Exponents → Exponents
begun_by zero [] = []
begun_by zero (e ∷ m) = 0 ∷ (e ∷ m)
begun_by (suc d) m = suc d ∷ m

-- the word without the zeros at its end
abbrev pub trim : List ℕ → Exponents
trim [] = []
trim (e ∷ w) = begun_by e (trim w)

-- the same of a word or zero
abbrev pub trimmed : Option (List ℕ) → WordOrZero
trimmed None = None
trimmed (Some w) = Some (trim w)

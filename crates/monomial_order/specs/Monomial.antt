-- Monomials, as lists of exponents.
use Rattle.std.specs.Prelude.{◌≡◌, ◌≢◌, ◌⊎◌, ℕ, ◌+◌, ◌*◌, ◌≤◌, List, [], ◌∷◌, length, slice_index, replicate, ◌++◌, max, Contains}

-- the exponents of a monomial or of a word, one for each place
abbrev pub Exponents : Type 0
Exponents = List ℕ

-- the exponent at a place, counted from 0; past the end it is 0
abbrev pub exponent : Exponents → ℕ → ℕ
exponent m i = slice_index m i

-- the last exponent is not zero
abbrev pub IsTrimmed : Exponents → Type 0
IsTrimmed [] = Unit {0}
IsTrimmed (e ∷ []) = e ≢ 0
IsTrimmed (e ∷ (f ∷ m)) = IsTrimmed (f ∷ m)

-- a monomial in n places
pub record IsMonomial (n : ℕ) (m : Exponents) : Type 0 where
  pub trimmed : IsTrimmed m
  pub within : length m ≤ n

-- the product adds the exponents place by place
abbrev pub product : Exponents → Exponents → Exponents
product [] n = n
product (a ∷ m) [] = a ∷ m
product (a ∷ m) (b ∷ n) = (a + b) ∷ product m n

-- m divides n: each of its exponents is at most the other's
abbrev pub Divides : Exponents → Exponents → Type 0
Divides m n = (i : ℕ) → exponent m i ≤ exponent n i

-- the least common multiple takes the greater exponent place by place
abbrev pub least_common_multiple : Exponents → Exponents → Exponents
least_common_multiple [] n = n
least_common_multiple (a ∷ m) [] = a ∷ m
least_common_multiple (a ∷ m) (b ∷ n) = max a b ∷ least_common_multiple m n

-- the variable at a place
abbrev pub variable : ℕ → Exponents
variable i = replicate i 0 ++ 1 ∷ []

-- the sum of weight times exponent
abbrev pub weighted_degree : List ℕ → Exponents → ℕ
weighted_degree [] m = 0
weighted_degree (w ∷ ws) [] = 0
weighted_degree (w ∷ ws) (e ∷ m) = w * e + weighted_degree ws m

-- a member of the list divides m
abbrev pub IsMultiple : List Exponents → Exponents → Type 0
IsMultiple ms m = (n : Exponents) × Contains ms n × Divides n m

-- no place has a nonzero exponent in both
abbrev pub AreCoprime : Exponents → Exponents → Type 0
AreCoprime m n = (i : ℕ) → (exponent m i ≡ 0) ⊎ (exponent n i ≡ 0)

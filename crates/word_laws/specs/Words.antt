-- Words: monomials in x_1, .., x_n and in one letter s_i for each member of a list of leads.
use Rattle.std.specs.Prelude.{◌≡◌, ◌≢◌, ℕ, suc, zero, ◌≤◌, map, Contains, ◌⊎◌, List, [], ◌∷◌, ◌++◌, length, take, sum}
use Rattle.std.specs.declared.cmp.Ordering.TheVariants.{Less}
use Rattle.monomial_order.specs.Monomial.{Exponents, product, IsMonomial, Divides, variable, weighted_degree}
use Rattle.monomial_order.specs.MonomialOrder.{MonomialOrder}
use Rattle.monomial_order.specs.Orders.{word_order}

-- the power of a monomial
abbrev pub monomial_power : Exponents → ℕ → Exponents
monomial_power m zero = []
monomial_power m (suc e) = product m (monomial_power m e)

-- the product of the given monomials, each to the exponent of its letter in the word
abbrev pub image : Exponents → List Exponents → Exponents
image [] ms = []
image (e ∷ w) [] = []
image (e ∷ w) (m ∷ ms) = product (monomial_power m e) (image w ms)

-- the variables of the places from i on, n of them
abbrev pub variables : ℕ → ℕ → List Exponents
variables i zero = []
variables i (suc n) = variable i ∷ variables (suc i) n

-- what words are over: the degrees of x_1, .., x_n, and the leads that s_1, .., s_r stand for
pub record Letters : Type 0 where
  pub degrees : List ℕ
  pub leads : List Exponents

-- the degrees are positive, and the leads are monomials in the x other than 1
pub record AreLetters (L : Letters) : Type 0 where
  pub positive : (d : ℕ) → Contains L.degrees d → 1 ≤ d
  pub leads : (m : Exponents) → Contains L.leads m → IsMonomial (length L.degrees) m
  pub not_one : (m : Exponents) → Contains L.leads m → m ≢ []

-- each letter s_i has the degree of its lead
abbrev pub lead_degrees : Letters → List ℕ
lead_degrees L = map (weighted_degree L.degrees) L.leads

abbrev pub word_order_of : Letters → MonomialOrder
word_order_of L = word_order L.degrees (lead_degrees L)

-- the image of a word: x_i stands for itself, and s_i for its lead
abbrev pub image_of : Letters → Exponents → Exponents
image_of L w = image w (variables 0 (length L.degrees) ++ L.leads)

abbrev pub IsWord : Letters → Exponents → Type 0
IsWord L w = IsMonomial (word_order_of L).places w

-- a word without any x
abbrev pub IsSWord : Letters → Exponents → Type 0
IsSWord L w = IsWord L w × (sum (take (length L.degrees) w) ≡ 0)

-- v is a smaller word with the image of w
pub record IsSmaller (L : Letters) (w v : Exponents) : Type 0 where
  pub word : IsWord L v
  pub image : image_of L v ≡ image_of L w
  pub less : (word_order_of L).compare v w ≡ Less

-- v is the least word with the image m
pub record IsLeast (L : Letters) (m v : Exponents) : Type 0 where
  pub word : IsWord L v
  pub image : image_of L v ≡ m
  pub least : (u : Exponents) → ¬ IsSmaller L v u

-- `IsZero` says which monomials count as zero: those that lead a member of an ideal, or the multiples of a list.
module _ (IsZero : Exponents → Type 0) (L : Letters) where
  -- the image of the word counts as zero, or a smaller word has the same image
  abbrev pub IsReducible : Exponents → Type 0
  IsReducible w = IsZero (image_of L w) ⊎ ((v : Exponents) × IsSmaller L w v)

  -- a reducible word that no other reducible word divides
  pub record IsMinimalReducible (w : Exponents) : Type 0 where
    pub word : IsWord L w
    pub reducible : IsReducible w
    pub minimal : (v : Exponents) → IsWord L v → IsReducible v → Divides v w → v ≡ w

-- multiples of what counts as zero count as zero
abbrev pub IsZeroClosed : ℕ → (Exponents → Type 0) → Type 0
IsZeroClosed n IsZero = (k m : Exponents) → IsMonomial n k → IsMonomial n m → IsZero m → IsZero (product k m)

-- whether a monomial counts as zero is decided
abbrev pub IsZeroDecided : ℕ → (Exponents → Type 0) → Type 0
IsZeroDecided n IsZero = (m : Exponents) → IsMonomial n m → IsZero m ⊎ (IsZero m → ⊥)

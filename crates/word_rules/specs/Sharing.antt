-- Rules that share a letter, letter by letter.
use Rattle.std.specs.Prelude.{◌≡◌, ◌≢◌, ◌⊎◌, ℕ, ◌<◌, List, length, Bool, true, false, slice_index_or, Contains, AllPairs}
use Rattle.monomial_order.specs.Monomial.{Exponents, exponent}
use Rattle.word_rules.specs.Index.{list_at}

-- no index is listed twice
abbrev pub AreDifferent : List ℕ → Type 0
AreDifferent list = AllPairs (λ i k. i ≢ k) list

-- exactly the marked indexes are listed, each once
pub record AreMarks (seen : List Bool) (list : List ℕ) : Type 0 where
  pub marked : (i : ℕ) → Contains list i → slice_index_or seen i false ≡ true
  pub listed : (i : ℕ) → slice_index_or seen i false ≡ true → Contains list i
  pub once : AreDifferent list

-- i is listed too
pub record IsMarked (i : ℕ) (old new : List ℕ) : Type 0 where
  pub here : Contains new i
  pub keeps : (k : ℕ) → Contains old k → Contains new k
  pub only : (k : ℕ) → Contains new k → (k ≡ i) ⊎ Contains old k
  pub once : AreDifferent new

module _ (lefts : List Exponents) (letter : ℕ) where
  abbrev pub HasLetter : ℕ → Type 0
  HasLetter i = exponent (list_at lefts i) letter ≢ 0

  -- what is listed more is below j and has the letter
  pub record AddsLetter (j : ℕ) (old new : List ℕ) : Type 0 where
    pub keeps : (k : ℕ) → Contains old k → Contains new k
    pub only : (k : ℕ) → Contains new k → ((k < j) × HasLetter k) ⊎ Contains old k
    pub once : AreDifferent old → AreDifferent new

  -- and all indexes below j that have it are listed
  pub record AddsAll (j : ℕ) (old new : List ℕ) : Type 0 where
    pub adds : AddsLetter j old new
    pub all : (k : ℕ) → k < j → k < length lefts → HasLetter k → Contains new k

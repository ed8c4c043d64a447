-- The candidates of a degree: the generators and the minimal reducible s-words of this degree.
use Rattle.std.specs.Prelude.{◌≡◌, ◌↔◌, ℕ, ◌<◌, List, [], ◌++◌, length, map, get_or, AllPairs, Contains}
use Rattle.std.specs.List.{range_with_len}
use Rattle.monomial_order.specs.Monomial.{Exponents}
use Rattle.monomial_order.specs.MonomialOrder.{IsIncreasing}
use Rattle.word_laws.specs.Words.{word_order_of}
use Rattle.polynomials.specs.Polynomial.{Polynomial, IsHomogeneous}
use Rattle.polynomials.specs.Subalgebra.{Presented}
use Rattle.subalgebra_laws.specs.Words.{letters, IsMinimalWord}
use Rattle.word_values.specs.Values.{word_degree}
use Rattle.completion.specs.declared.candidates.Candidate.{Candidate}
use Rattle.completion.specs.declared.candidates.Candidate.TheVariants.{Generator, Word}

module _ {E : Type 0} (P : Presented E) where
  -- the generator at index i is homogeneous of degree d
  abbrev pub IsGeneratorAt : ℕ → ℕ → Type 0
  IsGeneratorAt d i = (i < length P.generators) × IsHomogeneous P.field P.order d (get_or P.generators i [])

  module _ (S : List (Polynomial E)) where
    -- the minimal reducible s-words of degree d, increasing
    pub record AreWordsAt (d : ℕ) (words : List Exponents) : Type 0 where
      pub increasing : IsIncreasing (word_order_of (letters P S)) words
      pub exactly : (u : Exponents) → Contains words u ↔ (IsMinimalWord P S u × (word_degree P S u ≡ d))

  -- first the generators of degree d in their order, and then the n words in their order
  pub record AreCandidates (d n : ℕ) (pending : List Candidate) : Type 0 where
    pub generators : List ℕ
    pub whole : pending ≡ map Generator generators ++ map Word (range_with_len 0 n)
    pub increasing : AllPairs (λ i j. i < j) generators
    pub exactly : (i : ℕ) → Contains generators i ↔ IsGeneratorAt d i

  -- a generator of degree d, or one of n words
  abbrev pub IsCandidate : ℕ → ℕ → Candidate → Type 0
  IsCandidate d n (Generator i) = IsGeneratorAt d i
  IsCandidate d n (Word j) = j < n

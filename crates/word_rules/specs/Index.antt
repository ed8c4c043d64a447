-- The index of a table of rules.
use Rattle.std.specs.Prelude.{◌≢◌, ℕ, ◌≤◌, ◌<◌, List, [], length, map, slice_index_or, Contains}
use Rattle.monomial_order.specs.Monomial.{Exponents, exponent}
use Rattle.word_rewriting.specs.Rewriting.{RewriteRule}
use Rattle.word_rules.specs.declared.word_rule.WordRule.{WordRule}
use Rattle.word_rules.specs.declared.buckets.Buckets.{Buckets}
use Rattle.word_rules.specs.declared.pairs.PairIndex.{PairIndex}
use Rattle.word_rules.specs.declared.table.Table.{Table}

-- the indexes of a key; none at a key that was never used
abbrev pub bucket : Buckets → ℕ → List ℕ
bucket b key = slice_index_or (map (λ v. v.items) b.lists.items) key []

-- the buckets of a letter
abbrev pub row : PairIndex → ℕ → List (List ℕ)
row p a = slice_index_or (map (λ b. map (λ v. v.items) b.lists.items) p.rows.items) a []

abbrev pub pair_bucket : PairIndex → ℕ → ℕ → List ℕ
pair_bucket p a b = slice_index_or (row p a) b []

abbrev pub rule_of : WordRule → RewriteRule
rule_of r = record { left = r.left; right = r.right }

abbrev pub rules_of : List WordRule → List RewriteRule
rules_of rules = map rule_of rules

-- a and b are letters of the word, and b is not the greater one
pub record AreTwoLetters (w : Exponents) (a b : ℕ) : Type 0 where
  pub has_first : exponent w a ≢ 0
  pub has_second : exponent w b ≢ 0
  pub ordered : b ≤ a

-- the index is in the bucket of two letters of the left side of a rule
pub record IsPaired (p : PairIndex) (i : ℕ) (w : Exponents) : Type 0 where
  pub a : ℕ
  pub b : ℕ
  pub letters : AreTwoLetters w a b
  pub listed : Contains (pair_bucket p a b) i

abbrev pub lefts_of : List WordRule → List Exponents
lefts_of rules = map (λ r. r.left) rules

-- the member at an index
abbrev pub list_at : List (List ℕ) → ℕ → List ℕ
list_at lists i = slice_index_or lists i []

-- The index of each left side is in the bucket of each of its letters, and in that of two letters. Buckets may have
-- further indexes.
pub record IsIndexFor (lefts : List Exponents) (by_letter : Buckets) (by_pair : PairIndex) : Type 0 where
  pub listed : (i a : ℕ) → i < length lefts → exponent (list_at lefts i) a ≢ 0 → Contains (bucket by_letter a) i
  pub paired : (i : ℕ) → i < length lefts → IsPaired by_pair i (list_at lefts i)

abbrev pub IsIndexed : Table → Type 0
IsIndexed t = IsIndexFor (lefts_of t.rules.items) t.by_letter t.by_pair

-- no bucket loses an index
abbrev pub KeepsIndexes : Buckets → Buckets → Type 0
KeepsIndexes old new = (key i : ℕ) → Contains (bucket old key) i → Contains (bucket new key) i

abbrev pub KeepsPairs : PairIndex → PairIndex → Type 0
KeepsPairs old new = (a b i : ℕ) → Contains (pair_bucket old a b) i → Contains (pair_bucket new a b) i

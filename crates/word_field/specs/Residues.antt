-- The numbers below p, with sums and products taken modulo p, and the sizes p for which there is a field.
use Rattle.std.specs.Prelude.{ℕ, ◌+◌, ◌-◌, ◌*◌, ◌%◌, Bool, ◌||◌}
use Rattle.std.specs.Bool.{◌==◌}
use Rattle.word_field.specs.Field.{FieldOps}

-- the operations: each number has its remainder as its element
abbrev pub residues : ℕ → FieldOps ℕ
residues p = record {
  reduce = λ a. a % p;
  zero = 0;
  one = 1;
  plus = λ a b. (a + b) % p;
  negate = λ a. (p - a % p) % p;
  times = λ a b. (a * b) % p;
  size = p;
  word = λ a. a;
  of_word = λ w. w % p;
}

-- the sizes of the fields
abbrev pub is_listed : ℕ → Bool
is_listed p = p == 2 || p == 3 || p == 5 || p == 7 || p == 101 || p == 32003 || p == 65521

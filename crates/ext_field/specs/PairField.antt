-- The fields of p*p elements: pairs of numbers below p, and the sizes for which there is such a field.
use Rattle.std.specs.Prelude.{ℕ, ◌+◌, ◌-◌, ◌*◌, ◌/◌, ◌%◌, Bool, ◌||◌, ◌&&◌, if◌then◌else◌}
use Rattle.std.specs.Bool.{◌==◌}
use Rattle.word_field.specs.Field.{FieldOps}
use Rattle.ext_field.specs.declared.pair.Pair.{Pair}

abbrev pub pair : ℕ → ℕ → Pair
pair a b = record { low = a; high = b }

-- The operations: (a, b) is a + b*x, and x*x is t + u*x. Each number has its remainder by p in its place.
abbrev pub pairs : ℕ → ℕ → ℕ → FieldOps Pair
pairs p t u = record {
  reduce = λ a. pair (a.low % p) (a.high % p);
  zero = pair 0 0;
  one = pair 1 0;
  plus = λ a b. pair ((a.low + b.low) % p) ((a.high + b.high) % p);
  negate = λ a. pair ((p - a.low % p) % p) ((p - a.high % p) % p);
  times = λ a b. pair
      ((a.low * b.low + t * a.high * b.high) % p)
      ((a.low * b.high + a.high * b.low + u * a.high * b.high) % p);
  size = p * p;
  word = λ a. a.low + p * a.high;
  of_word = λ w. pair (w % (p * p) % p) (w % (p * p) / p);
}

-- the primes, each with its t and u
abbrev pub is_square : ℕ → ℕ → ℕ → Bool
is_square p t u = p == 2 && t == 1 && u == 1 || p == 3 && t == 2 && u == 0 || p == 7 && t == 6 && u == 0

-- the operations of the field of a size
abbrev pub pairs_of : ℕ → FieldOps Pair
pairs_of q = if q == 4 then pairs 2 1 1 else if q == 9 then pairs 3 2 0 else pairs 7 6 0

-- the sizes of these fields
abbrev pub is_pair_size : ℕ → Bool
is_pair_size q = q == 4 || q == 9 || q == 49

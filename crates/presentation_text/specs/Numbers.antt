-- Numbers in texts.
use Rattle.std.specs.Prelude.{ℕ, List, length, Bool, ◌&&◌, Option, Some, None, nat_le, if◌then◌else◌}
use Rattle.polynomial_text.specs.Bytes.{digits_max, is_digit}
use Rattle.std.specs.List.{list_all}
use Rattle.std.specs.Str.Parse.{digits_value}

-- from 1 to digits_max digits
abbrev pub is_number : List ℕ → Bool
is_number token = nat_le 1 (length token) && (nat_le (length token) digits_max && list_all is_digit token)

-- the number that a token is
unfoldable pub number_of : List ℕ → Option ℕ
number_of token = if is_number token then Some (digits_value 10 token) else None

-- the same for a number from low to high
unfoldable pub number_within : ℕ → ℕ → List ℕ → Option ℕ
number_within low high token = within (number_of token)
  where
    within : Option ℕ → Option ℕ
    within None = None
    within (Some n) = if nat_le low n && nat_le n high then Some n else None

-- Members of critical pairs, by their exponents.
use Rattle.std.specs.Prelude.{ℕ, ◌+◌, ◌-◌, max}
use Rattle.monomial_order.specs.Monomial.{Exponents, exponent}

-- the exponent of a letter in what the rule from `left` to `right` rewrites its least common multiple with `other` to
abbrev pub member_exponent : Exponents → Exponents → Exponents → ℕ → ℕ
member_exponent left right other p = (max (exponent left p) (exponent other p) - exponent left p) + exponent right p

-- Counts that a program keeps in 64 bits.
use Rattle.std.specs.Prelude.{◌≡◌, ◌<◌, ◌+◌, ◌⊎◌, ℕ, nat_lt, if◌then◌else◌}

-- one more, or the last value of a counter
abbrev pub raised : ℕ → ℕ
raised n = if nat_lt n 18446744073709551615 then n + 1 else n

-- The count rose. A counter at its last value counts as risen.
abbrev pub HasRisen : ℕ → ℕ → Type 0
HasRisen old new = (old < new) ⊎ (old ≡ 18446744073709551615)

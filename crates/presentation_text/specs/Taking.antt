-- Taking tokens from the front of a line.
use Rattle.std.specs.Prelude.{◌≡◌, Contains, ℕ, ◌+◌, List, ◌++◌, length, Bool, ◌&&◌, Option, Some, nat_le}
use Rattle.std.specs.List.{list_all}
use Rattle.polynomial_text.specs.declared.line_fault.LineFault.{LineFault}
use Rattle.polynomial_text.specs.declared.line_fault.LineFault.TheVariants as line_faults
use Rattle.presentation_text.specs.declared.text_kind.TextKind.{TextKind}
use Rattle.presentation_text.specs.declared.text_kind.TextKind.TheVariants.{DuplicateName}
use Rattle.presentation_text.specs.Heading.{names_max, ◌>>=◌, is_name}

-- what was taken before, and what is still to come
abbrev pub with_front : {A B : Type 0} → List A → Option (List A × B) → Option (List A × B)
with_front front read = read >>= λ x. Some (front ++ x.0, x.1)

-- so many names before, and these tokens behind them: 1 to names_max names in all
abbrev pub are_names : ℕ → List (List ℕ) → Bool
are_names n tokens = nat_le 1 (n + length tokens) && (nat_le (n + length tokens) names_max && list_all is_name tokens)

-- the fault of a name that is put behind others: it is one of them, unless memory ran out
abbrev pub IsRepeated : List (List ℕ) → List ℕ → LineFault TextKind → Type 0
IsRepeated names token line_faults.Memory = Unit {0}
IsRepeated names token (line_faults.Kind kind) = (kind ≡ DuplicateName) × Contains names token

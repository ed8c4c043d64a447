-- The lines of a presentation other than polynomials, as tokens.
use Rattle.std.specs.Prelude.{ℕ, zero, suc, List, [], ◌∷◌, length, Bool, true, not, ◌&&◌, ◌||◌, ◌==◌, Option, Some, None, Result, Ok, Err, nat_le, if◌then◌else◌, codes}
use Rattle.std.specs.List.{list_all, list_any}
use Rattle.std.specs.Str.{bytes_eq}
use Rattle.word_field.specs.Residues.{is_listed}
use Rattle.ext_field.specs.PairField.{is_pair_size}
use Rattle.monomial_order.specs.declared.tie_break.Tie.{Tie}
use Rattle.monomial_order.specs.declared.tie_break.Tie.TheVariants.{Lex, RevLex}
use Rattle.poly_core.specs.Names.{has_name_form}
use Rattle.presentation_text.specs.declared.text_kind.TextKind.{TextKind}
use Rattle.presentation_text.specs.declared.text_kind.TextKind.TheVariants.{Header, FieldUnknown, VarsLine, DuplicateName, WeightsLine, OrderLine, CountLine}
use Rattle.presentation_text.specs.Kinds.{or_fault}
use Rattle.presentation_text.specs.Lines.{tokens}
use Rattle.presentation_text.specs.Numbers.{number_of, number_within}

-- the most bytes of a name, names, rows and polynomials of a list, and the greatest weight and entry of a row
abbrev pub name_max : ℕ
name_max = 16

abbrev pub names_max : ℕ
names_max = 32

abbrev pub rows_max : ℕ
rows_max = 4

abbrev pub count_max : ℕ
count_max = 256

abbrev pub weight_max : ℕ
weight_max = 64

abbrev pub entry_max : ℕ
entry_max = 1000

infixl 10 ◌>>=◌
abbrev pub ◌>>=◌ : {A B : Type 0} → Option A → (A → Option B) → Option B
None >>= f = None
(Some x) >>= f = f x

-- the one token of a list
abbrev pub only : List (List ℕ) → Option (List ℕ)
only [] = None
only (token ∷ []) = Some token
only (token ∷ (next ∷ rest)) = None

-- the tokens behind the first, if that is the key
unfoldable pub behind_key : List ℕ → List (List ℕ) → Option (List (List ℕ))
behind_key key [] = None
behind_key key (token ∷ rest) = if bytes_eq token key then Some rest else None

-- `subalgebra 1`
unfoldable pub header : List (List ℕ) → Option (List (List ℕ))
header line = behind_key (codes "subalgebra") line >>= λ rest. behind_key (codes "1") rest >>= λ none. if length none == 0 then Some none else None

-- the sizes of the fields that texts may have, of either kind
abbrev pub is_size : ℕ → Bool
is_size q = is_listed q || is_pair_size q

-- `field` and a known size
unfoldable pub size : (ℕ → Bool) → List (List ℕ) → Option ℕ
size known line = behind_key (codes "field") line >>= λ rest. only rest >>= number_of >>= λ n. if known n then Some n else None

-- a name of at most name_max bytes
abbrev pub is_name : List ℕ → Bool
is_name token = has_name_form token && nat_le (length token) name_max

-- `vars` and 1 to names_max names
unfoldable pub names_of : List (List ℕ) → Option (List (List ℕ))
names_of line = behind_key (codes "vars") line >>= λ names. if nat_le 1 (length names) && (nat_le (length names) names_max && list_all is_name names) then Some names else None

abbrev pub are_different : List (List ℕ) → Bool
are_different [] = true
are_different (name ∷ names) = not (list_any (bytes_eq name) names) && are_different names

-- the number at the front, and the tokens behind it
unfoldable pub number_first : ℕ → ℕ → List (List ℕ) → Option (ℕ × List (List ℕ))
number_first low high [] = None
number_first low high (token ∷ line) = number_within low high token >>= λ n. Some (n, line)

-- the n numbers at the front, each from low to high, and the tokens behind them
unfoldable pub numbers_first : ℕ → ℕ → ℕ → List (List ℕ) → Option (List ℕ × List (List ℕ))
numbers_first low high zero line = Some ([], line)
numbers_first low high (suc n) line = number_first low high line >>= λ first. numbers_first low high n first.1 >>= λ others. Some (first.0 ∷ others.0, others.1)

-- `weights`, n numbers from 1 to weight_max, and nothing behind them
unfoldable pub weights_of : ℕ → List (List ℕ) → Option (List ℕ)
weights_of n line = behind_key (codes "weights") line >>= λ rest. numbers_first 1 weight_max n rest >>= λ x. if length x.1 == 0 then Some x.0 else None

-- `lex` or `revlex`
unfoldable pub tie_of : List ℕ → Option Tie
tie_of token = if bytes_eq token (codes "lex") then Some Lex else if bytes_eq token (codes "revlex") then Some RevLex else None

-- the one token of a line as the tie
abbrev pub tie_alone : List (List ℕ) → Option (List (List ℕ) × Tie)
tie_alone line = only line >>= λ token. tie_of token >>= λ tie. Some ([], tie)

-- n numbers from 0 to entry_max, and the tokens behind the `;` that follows them
unfoldable pub row_at : ℕ → List (List ℕ) → Option (List ℕ × List (List ℕ))
row_at n line = numbers_first 0 entry_max n line >>= λ row. behind_key (codes ";") row.1 >>= λ rest. Some (row.0, rest)

-- at most k rows, and then the tie
unfoldable pub rows_of : ℕ → ℕ → List (List ℕ) → Option (List (List ℕ) × Tie)
rows_of n zero line = tie_alone line
rows_of n (suc k) line =
    if length line == 1 then tie_alone line
    else (row_at n line >>= λ row. rows_of n k row.1 >>= λ rows. Some (row.0 ∷ rows.0, rows.1))

-- `order`, at most rows_max rows, and the tie
unfoldable pub order_of : ℕ → List (List ℕ) → Option (List (List ℕ) × Tie)
order_of n line = behind_key (codes "order") line >>= rows_of n rows_max

-- a token and a number from 0 to count_max
unfoldable pub count_of : List ℕ → List (List ℕ) → Option ℕ
count_of key line = behind_key key line >>= λ rest. only rest >>= number_within 0 count_max

-- `end`
unfoldable pub closing : List (List ℕ) → Option (List (List ℕ))
closing line = behind_key (codes "end") line >>= λ none. if length none == 0 then Some none else None

-- ---- each line of the heading, or its fault

abbrev pub header_line : List ℕ → Result (List (List ℕ)) TextKind
header_line line = or_fault Header (header (tokens line))

abbrev pub field_line : (ℕ → Bool) → List ℕ → Result ℕ TextKind
field_line known line = or_fault FieldUnknown (size known (tokens line))

-- the form is judged before equal names
unfoldable pub vars_line : List ℕ → Result (List (List ℕ)) TextKind
vars_line line = judged (names_of (tokens line))
  where
    judged : Option (List (List ℕ)) → Result (List (List ℕ)) TextKind
    judged None = Err VarsLine
    judged (Some names) = if are_different names then Ok names else Err DuplicateName

abbrev pub weights_line : ℕ → List ℕ → Result (List ℕ) TextKind
weights_line n line = or_fault WeightsLine (weights_of n (tokens line))

abbrev pub order_line : ℕ → List ℕ → Result (List (List ℕ) × Tie) TextKind
order_line n line = or_fault OrderLine (order_of n (tokens line))

abbrev pub count_line : List ℕ → List ℕ → Result ℕ TextKind
count_line key line = or_fault CountLine (count_of key (tokens line))

abbrev pub closing_line : List ℕ → Result (List (List ℕ)) TextKind
closing_line line = or_fault CountLine (closing (tokens line))

-- Classes of bytes, and fronts of lines.
use Rattle.std.specs.Prelude.{◌≡◌, ℕ, List, [], ◌∷◌, Bool, true, false, not, ◌&&◌, ◌||◌, ◌==◌, nat_le, if◌then◌else◌}
use Rattle.poly_core.specs.Names.{is_letter, is_name_byte}
use Rattle.polynomial_text.specs.declared.byte_class.ByteClass.{ByteClass}
use Rattle.polynomial_text.specs.declared.byte_class.ByteClass.TheVariants as classes

-- a space, a tab or a carriage return
abbrev pub is_blank : ℕ → Bool
is_blank b = b == 32 || (b == 9 || b == 13)

abbrev pub is_digit : ℕ → Bool
is_digit b = nat_le 48 b && nat_le b 57

-- `+` or `-`
abbrev pub is_sign : ℕ → Bool
is_sign b = b == 43 || b == 45

abbrev pub is_in : ByteClass → ℕ → Bool
is_in classes.Blank = is_blank
is_in classes.Digit = is_digit
is_in classes.Letter = is_letter
is_in classes.Name = is_name_byte
is_in classes.Token = λ b. not (is_blank b)
is_in classes.Line = λ b. not (b == 10)
is_in classes.Term = λ b. not (is_sign b)
is_in classes.Factor = λ b. not (b == 42)

-- the longest front whose bytes all pass, and what is behind it
unfoldable pub front : (ℕ → Bool) → List ℕ → List ℕ
front test [] = []
front test (b ∷ bytes) = if test b then b ∷ front test bytes else []

unfoldable pub behind : (ℕ → Bool) → List ℕ → List ℕ
behind test [] = []
behind test (b ∷ bytes) = if test b then behind test bytes else b ∷ bytes

-- no first byte passes: the bytes are none, or the first one fails
abbrev pub Stops : (ℕ → Bool) → List ℕ → Type 0
Stops test [] = Unit {0}
Stops test (b ∷ bytes) = test b ≡ false

-- the most digits of a number
abbrev pub digits_max : ℕ
digits_max = 18

-- a line of blanks alone, or one whose first byte behind blanks is `#`
abbrev pub is_skipped : List ℕ → Bool
is_skipped line = is_comment (behind is_blank line)
  where
    is_comment : List ℕ → Bool
    is_comment [] = true
    is_comment (b ∷ rest) = b == 35

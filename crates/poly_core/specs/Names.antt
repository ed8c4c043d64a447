-- The names of places.
use Rattle.std.specs.Prelude.{◌≡◌, ◌≢◌, ℕ, ◌+◌, ◌-◌, ◌≤◌, List, [], ◌∷◌, length, Option, Some, None, IsSome, Bool, true, false, ◌&&◌, ◌||◌, ◌==◌, nat_lt, nat_le, if◌then◌else◌, slice_get, unwrap_or, All}
use Rattle.std.specs.Fmt.{decimal}
use Rattle.std.specs.List.{list_all, IsDistinct}
use Rattle.std.specs.Str.{bytes_eq}
use Rattle.monomial_order.specs.Monomial.{Exponents, exponent}
use Rattle.poly_core.specs.declared.place_names.Names.{Names}
use Rattle.poly_core.specs.declared.place_names.Names.TheVariants.{Listed, Numbered, Paired}

-- The name of a place, counted from 0. Numbered names begin with the place `skip`; paired names have one letter for
-- the first `count` places and another for those after them.
abbrev pub name_at : Names → ℕ → Option (List ℕ)
name_at (Listed table) i = slice_get table i
name_at (Numbered prefix skip) i = if nat_lt i skip then None else Some (prefix ∷ decimal (i + 1 - skip))
name_at (Paired first count second) i = if nat_lt i count then Some (first ∷ decimal (i + 1)) else Some (second ∷ decimal (i + 1 - count))

-- the bytes of the name, and none if the place has no name
abbrev pub name_of : Names → ℕ → List ℕ
name_of names i = unwrap_or (name_at names i) []

-- each place of nonzero exponent has a name
abbrev pub IsNamed : Names → Exponents → Type 0
IsNamed names m = (i : ℕ) → exponent m i ≢ 0 → IsSome (name_at names i)

-- an ASCII letter
abbrev pub is_letter : ℕ → Bool
is_letter b = (nat_le 65 b && nat_le b 90) || (nat_le 97 b && nat_le b 122)

-- a letter, a digit or `_`
abbrev pub is_name_byte : ℕ → Bool
is_name_byte b = is_letter b || ((nat_le 48 b && nat_le b 57) || b == 95)

-- a letter, and then letters, digits and `_`
abbrev pub has_name_form : List ℕ → Bool
has_name_form [] = false
has_name_form (b ∷ bytes) = is_letter b && list_all is_name_byte bytes

-- the name of a variable
pub record IsName (name : List ℕ) : Type 0 where
  pub form : has_name_form name ≡ true
  pub short : length name ≤ 16

-- a list of different names for so many places, from 1 to 32
pub record IsNameList (places : ℕ) (names : List (List ℕ)) : Type 0 where
  pub each_place : length names ≡ places
  pub some : 1 ≤ places
  pub few : places ≤ 32
  pub distinct : IsDistinct bytes_eq names
  pub each : All IsName names

-- the places are named by such a list
abbrev pub AreNames : ℕ → Names → Type 0
AreNames places (Listed table) = IsNameList places table
AreNames places (Numbered prefix skip) = ⊥
AreNames places (Paired first count second) = ⊥

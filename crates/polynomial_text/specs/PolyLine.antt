-- Polynomials in texts. A line is parted at its signs into terms, and a term at `*` into factors; each is judged from
-- left to right, so that the first fault is the one furthest left.
use Rattle.std.specs.Prelude.{◌≡◌, ℕ, zero, suc, List, [], ◌∷◌, ◌++◌, length, replicate, Bool, false, ◌==◌, Option, Some, None, Result, Ok, Err, nat_le, if◌then◌else◌}
use Rattle.std.specs.List.{list_all, slice_split}
use Rattle.std.specs.Str.{bytes_eq}
use Rattle.std.specs.Str.Parse.{digits_value}
use Rattle.word_field.specs.Field.{FieldOps}
use Rattle.monomial_order.specs.declared.terms.Term.{Term}
use Rattle.monomial_order.specs.MonomialOrder.{MonomialOrder}
use Rattle.polynomials.specs.Polynomial.{Polynomial, term_of, term_times, Same, IsCanonical}
use Rattle.poly_core.specs.declared.place_names.Names.{Names}
use Rattle.poly_core.specs.Names.{name_at, is_letter, is_name_byte}
use Rattle.polynomial_text.specs.declared.line_fault.LineKind.{LineKind}
use Rattle.polynomial_text.specs.declared.line_fault.LineKind.TheVariants.{PolySyntax, UnknownName, NumberTooLong, DegreeTooLarge}
use Rattle.polynomial_text.specs.Results.{◌>>=◌, along, each}
use Rattle.polynomial_text.specs.Bytes.{is_blank, is_digit, is_sign, front, behind}
use Rattle.monomial_order.specs.Limits.{degree_max}

-- a number of at most digits_max digits at the front of the bytes, and what is behind it
unfoldable pub number_at : List ℕ → Result (ℕ × List ℕ) LineKind
number_at bytes = judged (front is_digit bytes)
  where
    judged : List ℕ → Result (ℕ × List ℕ) LineKind
    judged [] = Err PolySyntax
    judged (d ∷ digits) = if nat_le (length (d ∷ digits)) 18 then Ok (digits_value 10 (d ∷ digits), behind is_digit bytes) else Err NumberTooLong

-- the exponent behind a name: a number behind `^`, and 1 without a `^`
unfoldable pub exponent_at : List ℕ → Result (ℕ × List ℕ) LineKind
exponent_at bytes = raised (behind is_blank bytes)
  where
    raised : List ℕ → Result (ℕ × List ℕ) LineKind
    raised [] = Ok (1, [])
    raised (b ∷ rest) = if b == 94 then number_at (behind is_blank rest) else Ok (1, b ∷ rest)

-- the name is the word
abbrev pub is_named : Option (List ℕ) → List ℕ → Bool
is_named None word = false
is_named (Some name) word = bytes_eq name word

-- the place of a name, among the first n places
unfoldable pub place_of : Names → ℕ → List ℕ → Option ℕ
place_of names zero word = None
place_of names (suc n) word = if is_named (name_at names n) word then Some n else place_of names n word

-- the variable at place i to the exponent e
abbrev pub power : ℕ → ℕ → List ℕ
power i zero = []
power i (suc e) = replicate i 0 ++ (suc e ∷ [])

-- the parts between signs, each with whether `-` is before it
unfoldable pub signed_parts : Bool → List ℕ → List (Bool × List ℕ)
signed_parts minus [] = (minus, []) ∷ []
signed_parts minus (b ∷ bytes) = if is_sign b then (minus, []) ∷ signed_parts (b == 45) bytes else begun b (signed_parts minus bytes)
  where
    begun : ℕ → List (Bool × List ℕ) → List (Bool × List ℕ)
    begun b [] = []
    begun b (part ∷ parts) = (part.0, b ∷ part.1) ∷ parts

-- a sign may be before the first term
abbrev pub behind_sign : List (Bool × List ℕ) → List (Bool × List ℕ)
behind_sign [] = []
behind_sign (part ∷ []) = part ∷ []
behind_sign (part ∷ (next ∷ parts)) = if list_all is_blank part.1 then next ∷ parts else part ∷ (next ∷ parts)

module _ {E : Type 0} (K : FieldOps E) (O : MonomialOrder) (names : Names) where
  -- a power of a variable at the front of the bytes
  unfoldable pub power_at : List ℕ → Result (Term E × List ℕ) LineKind
  power_at bytes = placed (place_of names O.places (front is_name_byte bytes))
    where
      placed : Option ℕ → Result (Term E × List ℕ) LineKind
      placed None = Err UnknownName
      placed (Some i) = exponent_at (behind is_name_byte bytes) >>= λ e. Ok (term_of (power i e.0) K.one, e.1)

  -- a factor at the front of the bytes: an element of the field, or a power of a variable
  unfoldable pub factor_at : List ℕ → Result (Term E × List ℕ) LineKind
  factor_at [] = Err PolySyntax
  factor_at (b ∷ bytes) =
      if is_digit b then (number_at (b ∷ bytes) >>= λ n. Ok (term_of [] (K.of_word n.0), n.1))
      else if is_letter b then power_at (b ∷ bytes) else Err PolySyntax

  -- the product of a term and the factor that a part is, of a degree of at most degree_max
  unfoldable pub with_factor : Term E → List ℕ → Result (Term E) LineKind
  with_factor t part = factor_at (behind is_blank part) >>= λ x. grown (term_times K t x.0) x.1
    where
      grown : Term E → List ℕ → Result (Term E) LineKind
      grown u rest = if nat_le (O.degree u.at) degree_max then (if list_all is_blank rest then Ok u else Err PolySyntax) else Err DegreeTooLarge

  -- one or minus one
  abbrev pub sign : Bool → E
  sign minus = if minus then K.negate K.one else K.one

  -- the product of the factors between `*`, with the sign before them
  unfoldable pub term_at : Bool × List ℕ → Result (Term E) LineKind
  term_at part = along with_factor (term_of [] (sign part.0)) (slice_split (λ b. b == 42) part.1)

  -- the terms of a line in their order
  unfoldable pub terms_of : List ℕ → Result (Polynomial E) LineKind
  terms_of line = each term_at (behind_sign (signed_parts false line))

  -- p is the polynomial of a line: it is canonical in the order, and is the sum of the terms
  pub record IsPolyOf (line : List ℕ) (p : Polynomial E) : Type 0 where
    pub terms : Polynomial E
    pub read : terms_of line ≡ Ok terms
    pub sum : Same K p terms
    pub canonical : IsCanonical K O p

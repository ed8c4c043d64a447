-- The grammar of a polynomial's line, as derivations over its bytes. What is derived has a meaning: a number, a factor
-- as a term, a product of factors, and the list of the terms.
use Rattle.std.specs.Prelude.{◌≡◌, ◌⊎◌, ℕ, ◌≤◌, ◌<◌, List, [], ◌∷◌, ◌++◌, length, Bool, true, false, Some}
use Rattle.std.specs.List.{list_all}
use Rattle.std.specs.Str.Parse.{digits_value}
use Rattle.word_field.specs.Field.{FieldOps}
use Rattle.monomial_order.specs.declared.terms.Term.{Term}
use Rattle.monomial_order.specs.Limits.{degree_max}
use Rattle.monomial_order.specs.MonomialOrder.{MonomialOrder}
use Rattle.polynomials.specs.Polynomial.{Polynomial, term_of, term_times}
use Rattle.poly_core.specs.declared.place_names.Names.{Names}
use Rattle.poly_core.specs.Names.{name_at}
use Rattle.polynomial_text.specs.Bytes.{digits_max, is_blank, is_digit}
use Rattle.polynomial_text.specs.PolyLine.{power, sign}

abbrev pub AreBlanks : List ℕ → Type 0
AreBlanks bytes = list_all is_blank bytes ≡ true

-- a number: 1 to digits_max digits
pub record IsNumber (bytes : List ℕ) (n : ℕ) : Type 0 where
  pub digits : list_all is_digit bytes ≡ true
  pub some : 1 ≤ length bytes
  pub few : length bytes ≤ digits_max
  pub value : digits_value 10 bytes ≡ n

-- `^` and a number, with blanks before each
pub record IsRaised (bytes : List ℕ) (n : ℕ) : Type 0 where
  pub before : List ℕ
  pub between : List ℕ
  pub number : List ℕ
  pub is : bytes ≡ before ++ (94 ∷ (between ++ number))
  pub blank_before : AreBlanks before
  pub blank_between : AreBlanks between
  pub exponent : IsNumber number n

-- what is behind a name: nothing, for the exponent 1, or an exponent
abbrev pub IsExponent : List ℕ → ℕ → Type 0
IsExponent bytes n = ((bytes ≡ []) × (n ≡ 1)) ⊎ IsRaised bytes n

-- a sign: whether it is `-`
abbrev pub sign_byte : Bool → ℕ
sign_byte true = 45
sign_byte false = 43

module _ {E : Type 0} (K : FieldOps E) (O : MonomialOrder) (names : Names) where
  -- a factor that is an element of the field
  pub record IsConstant (bytes : List ℕ) (x : Term E) : Type 0 where
    pub number : ℕ
    pub is : IsNumber bytes number
    pub means : x ≡ term_of [] (K.of_word number)

  -- a factor that is a power of the variable at a place, which has the name
  pub record IsPower (bytes : List ℕ) (x : Term E) : Type 0 where
    pub name : List ℕ
    pub behind : List ℕ
    pub place : ℕ
    pub exponent : ℕ
    pub is : bytes ≡ name ++ behind
    pub inside : place < O.places
    pub named : name_at names place ≡ Some name
    pub raised : IsExponent behind exponent
    pub means : x ≡ term_of (power place exponent) K.one

  -- a factor with blanks around it
  pub record IsSpacedFactor (bytes : List ℕ) (x : Term E) : Type 0 where
    pub before : List ℕ
    pub factor : List ℕ
    pub behind : List ℕ
    pub is : bytes ≡ before ++ (factor ++ behind)
    pub blank_before : AreBlanks before
    pub blank_behind : AreBlanks behind
    pub reads : IsConstant factor x ⊎ IsPower factor x

  -- the product of t and x, of a degree of at most degree_max
  pub record IsNextProduct (t x u : Term E) : Type 0 where
    pub is : u ≡ term_times K t x
    pub small : O.degree u.at ≤ degree_max

  -- the product of t and the factors, with `*` between them; each product on the way has such a degree
  pub data IsProduct : Term E → List ℕ → Term E → Type 0 where
    one_factor : (t u x : Term E) (bytes : List ℕ) → IsSpacedFactor bytes x → IsNextProduct t x u →
        IsProduct t bytes u
    factors : (t u v x : Term E) (bytes part rest : List ℕ) → bytes ≡ part ++ (42 ∷ rest) →
        IsSpacedFactor part x → IsNextProduct t x u → IsProduct u rest v → IsProduct t bytes v

  -- a term behind a sign
  abbrev pub IsTermOf : Bool → List ℕ → Term E → Type 0
  IsTermOf minus bytes t = IsProduct (term_of [] (sign K O names minus)) bytes t

  -- terms with signs between them; the first is behind the sign that is given
  pub data IsSum : Bool → List ℕ → Polynomial E → Type 0 where
    one_term : (minus : Bool) (bytes : List ℕ) (t : Term E) → IsTermOf minus bytes t → IsSum minus bytes (t ∷ [])
    terms : (minus next : Bool) (bytes part rest : List ℕ) (t : Term E) (ts : Polynomial E) →
        bytes ≡ part ++ (sign_byte next ∷ rest) → IsTermOf minus part t → IsSum next rest ts →
        IsSum minus bytes (t ∷ ts)

  -- a sign before the first term, with blanks before it
  pub record IsSigned (bytes : List ℕ) (ts : Polynomial E) : Type 0 where
    pub before : List ℕ
    pub minus : Bool
    pub rest : List ℕ
    pub is : bytes ≡ before ++ (sign_byte minus ∷ rest)
    pub blank_before : AreBlanks before
    pub sum : IsSum minus rest ts

  -- a line with a polynomial: one sign may be before the first term
  abbrev pub IsLine : List ℕ → Polynomial E → Type 0
  IsLine bytes ts = IsSum false bytes ts ⊎ IsSigned bytes ts

-- The first fault of a polynomial's line, the one that is furthest left. What is before it is derived by the grammar.
use Rattle.std.specs.Prelude.{◌≡◌, ◌⊎◌, ℕ, ◌<◌, ◌≤◌, List, [], ◌∷◌, ◌++◌, length, Bool, true, false, not, ◌==◌, Some}
use Rattle.std.proofs.Common.{inl, inr}
use Rattle.std.specs.List.{list_all}
use Rattle.word_field.specs.Field.{FieldOps}
use Rattle.monomial_order.specs.declared.terms.Term.{Term}
use Rattle.monomial_order.specs.Limits.{degree_max}
use Rattle.monomial_order.specs.Monomial.{product}
use Rattle.monomial_order.specs.MonomialOrder.{MonomialOrder}
use Rattle.polynomials.specs.Polynomial.{term_of}
use Rattle.poly_core.specs.declared.place_names.Names.{Names}
use Rattle.poly_core.specs.Names.{name_at, is_letter, is_name_byte, has_name_form}
use Rattle.polynomial_text.specs.declared.line_fault.LineKind.{LineKind}
use Rattle.polynomial_text.specs.declared.line_fault.LineKind.TheVariants.{PolySyntax, UnknownName, NumberTooLong, DegreeTooLarge}
use Rattle.polynomial_text.specs.Bytes.{digits_max, is_blank, is_digit, is_sign, front, behind, Stops}
use Rattle.polynomial_text.specs.Grammar.{AreBlanks, IsExponent, sign_byte, IsConstant, IsPower, IsSpacedFactor, IsNextProduct, IsTermOf}
use Rattle.polynomial_text.specs.PolyLine.{sign}

-- more than digits_max digits
pub record IsLongNumber (bytes : List ℕ) : Type 0 where
  pub digits : list_all is_digit bytes ≡ true
  pub many : digits_max < length bytes

-- the bytes do not go on with what is before them: with a name or with `^` if there is no exponent, else with its digits
abbrev pub EndsExponent : {bytes : List ℕ} {n : ℕ} → IsExponent bytes n → List ℕ → Type 0
EndsExponent (inl none) rest = Stops is_name_byte rest × Stops (λ b. b == 94) (behind is_blank rest)
EndsExponent (inr raised) rest = Stops is_digit rest

module _ {E : Type 0} (K : FieldOps E) (O : MonomialOrder) (names : Names) where
  -- the bytes do not go on with the factor before them
  abbrev pub EndsFactor : {bytes : List ℕ} {x : Term E} → IsConstant K O names bytes x ⊎ IsPower K O names bytes x → List ℕ → Type 0
  EndsFactor (inl constant) rest = Stops is_digit rest
  EndsFactor (inr power) rest = EndsExponent power.raised rest

  -- the name of a variable and `^`, with blanks behind each
  pub record IsBase (bytes : List ℕ) : Type 0 where
    pub name : List ℕ
    pub between : List ℕ
    pub after : List ℕ
    pub place : ℕ
    pub is : bytes ≡ name ++ (between ++ (94 ∷ after))
    pub blank_between : AreBlanks between
    pub blank_after : AreBlanks after
    pub inside : place < O.places
    pub named : name_at names place ≡ Some name

  -- the longest factor at the front of the bytes, behind blanks
  pub record IsFrontFactor (bytes : List ℕ) (x : Term E) : Type 0 where
    pub before : List ℕ
    pub factor : List ℕ
    pub rest : List ℕ
    pub is : bytes ≡ before ++ (factor ++ rest)
    pub blank_before : AreBlanks before
    pub reads : IsConstant K O names factor x ⊎ IsPower K O names factor x
    pub ends : EndsFactor reads rest

  -- The fault of bytes that are to be a factor by which t is multiplied. Blanks may be before it.
  pub data IsFactorFault : Term E → List ℕ → LineKind → Type 0 where
    -- neither a number nor a name begins
    no_factor : (t : Term E) (bytes before rest : List ℕ) → bytes ≡ before ++ rest → AreBlanks before →
        Stops is_blank rest → Stops is_digit rest → Stops is_letter rest → IsFactorFault t bytes PolySyntax
    long_number : (t : Term E) (bytes before number rest : List ℕ) → bytes ≡ before ++ (number ++ rest) →
        AreBlanks before → IsLongNumber number → Stops is_digit rest → IsFactorFault t bytes NumberTooLong
    -- the name is that of no variable
    unknown_name : (t : Term E) (bytes before name rest : List ℕ) → bytes ≡ before ++ (name ++ rest) →
        AreBlanks before → has_name_form name ≡ true → Stops is_name_byte rest →
        ((i : ℕ) → i < O.places → name_at names i ≡ Some name → ⊥) → IsFactorFault t bytes UnknownName
    -- no number is behind `^`
    no_exponent : (t : Term E) (bytes before base rest : List ℕ) → bytes ≡ before ++ (base ++ rest) →
        AreBlanks before → IsBase base → Stops is_blank rest → Stops is_digit rest →
        IsFactorFault t bytes PolySyntax
    long_exponent : (t : Term E) (bytes before base number rest : List ℕ) →
        bytes ≡ before ++ (base ++ (number ++ rest)) → AreBlanks before → IsBase base → IsLongNumber number →
        Stops is_digit rest → IsFactorFault t bytes NumberTooLong
    -- the factor brings the degree above degree_max
    high_degree : (t x : Term E) (bytes : List ℕ) → IsFrontFactor bytes x →
        degree_max < O.degree (product t.at x.at) → IsFactorFault t bytes DegreeTooLarge
    -- something other than blanks is behind the factor
    no_end : (t x : Term E) (bytes : List ℕ) (h : IsFrontFactor bytes x) →
        O.degree (product t.at x.at) ≤ degree_max → list_all is_blank h.rest ≡ false →
        IsFactorFault t bytes PolySyntax

  -- The fault of bytes without signs that are to be factors by which t is multiplied: the bytes before the first `*` have
  -- one, or they are a factor and the bytes behind that `*` have one.
  pub data IsProductFault : Term E → List ℕ → LineKind → Type 0 where
    in_factor : (t : Term E) (bytes : List ℕ) (kind : LineKind) →
        IsFactorFault t (front (λ b. not (b == 42)) bytes) kind → IsProductFault t bytes kind
    in_later_factor : (t u x : Term E) (bytes part rest : List ℕ) (kind : LineKind) →
        bytes ≡ part ++ (42 ∷ rest) → IsSpacedFactor K O names part x → IsNextProduct K O names t x u →
        IsProductFault u rest kind → IsProductFault t bytes kind

  -- The fault of bytes that are to be terms: the bytes before the first sign have one, or they are a term and the bytes
  -- behind that sign have one.
  pub data IsSumFault : Bool → List ℕ → LineKind → Type 0 where
    in_term : (minus : Bool) (bytes : List ℕ) (kind : LineKind) →
        IsProductFault (term_of [] (sign K O names minus)) (front (λ b. not (is_sign b)) bytes) kind →
        IsSumFault minus bytes kind
    in_later_term : (minus next : Bool) (bytes part rest : List ℕ) (t : Term E) (kind : LineKind) →
        bytes ≡ part ++ (sign_byte next ∷ rest) → IsTermOf K O names minus part t → IsSumFault next rest kind →
        IsSumFault minus bytes kind

  -- a sign before the first term, with blanks before it, and a fault behind it
  pub record IsSignedFault (bytes : List ℕ) (kind : LineKind) : Type 0 where
    pub before : List ℕ
    pub minus : Bool
    pub rest : List ℕ
    pub is : bytes ≡ before ++ (sign_byte minus ∷ rest)
    pub blank_before : AreBlanks before
    pub fault : IsSumFault minus rest kind

  -- no sign is before the first term: the line has no sign, or more than blanks before its first one
  abbrev pub IsUnsigned : List ℕ → Type 0
  IsUnsigned bytes = (behind (λ b. not (is_sign b)) bytes ≡ []) ⊎ (list_all is_blank (front (λ b. not (is_sign b)) bytes) ≡ false)

  -- the first fault of a line
  abbrev pub IsLineFault : List ℕ → LineKind → Type 0
  IsLineFault bytes kind = (IsUnsigned bytes × IsSumFault false bytes kind) ⊎ IsSignedFault bytes kind

-- Lines with canonical polynomials, and the fault of a line.
use Rattle.std.specs.Prelude.{◌≡◌, ◌<◌, ℕ, List, true, Option, Some, None, IsSome, IfSome, Result, Err}
use Rattle.word_field.specs.Field.{FieldOps}
use Rattle.monomial_order.specs.MonomialOrder.{MonomialOrder}
use Rattle.polynomials.specs.Polynomial.{Polynomial, IsCanonical}
use Rattle.poly_core.specs.Names.{name_at, has_name_form}
use Rattle.poly_core.specs.Text.{poly_text, AreNamed}
use Rattle.poly_core.specs.declared.place_names.Names.{Names}
use Rattle.polynomial_text.specs.declared.line_fault.LineFault.{LineFault}
use Rattle.polynomial_text.specs.declared.line_fault.LineFault.TheVariants as line_faults
use Rattle.polynomial_text.specs.Degrees.{IsLow}

-- the fault that a line has, unless memory runs out
abbrev pub IsLineFaultOf : {A K : Type 0} → Result A K → LineFault K → Type 0
IsLineFaultOf read line_faults.Memory = Unit {0}
IsLineFaultOf read (line_faults.Kind kind) = read ≡ Err kind

-- each of the first n places that has a name has one of its own, in the form of a name
pub record AreDifferent (n : ℕ) (names : Names) : Type 0 where
  pub form : (i : ℕ) → i < n → IfSome (name_at names i) (λ name. has_name_form name ≡ true)
  pub differ : (i j : ℕ) → i < n → j < n → IsSome (name_at names i) → name_at names i ≡ name_at names j → i ≡ j

-- the line is the canonical text of the polynomial, which is canonical in the order, has names for its variables, and
-- has degrees of at most degree_max
pub record IsCanonicalText {E : Type 0} (K : FieldOps E) (O : MonomialOrder) (names : Names) (line : List ℕ) (p : Polynomial E) : Type 0 where
  pub canonical : IsCanonical K O p
  pub named : AreNamed names p
  pub small : IsLow O p
  pub text : line ≡ poly_text K names p

-- the polynomial whose canonical text the line is, or None if it is the text of none
abbrev pub IsCanonicalReading : {E : Type 0} → FieldOps E → MonomialOrder → Names → List ℕ → Option (Polynomial E) → Type 0
IsCanonicalReading K O names line (Some p) = IsCanonicalText K O names line p
IsCanonicalReading {E} K O names line None = (p : Polynomial E) → IsCanonicalText K O names line p → ⊥

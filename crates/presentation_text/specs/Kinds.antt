-- The kinds of faults in texts.
use Rattle.std.specs.Prelude.{ℕ, List, Option, Some, None, Result, Ok, Err, codes}
use Rattle.polynomial_text.specs.declared.line_fault.LineFault.{LineFault}
use Rattle.polynomial_text.specs.declared.line_fault.LineFault.TheVariants as line_faults
use Rattle.polynomial_text.specs.declared.line_fault.LineKind.{LineKind}
use Rattle.polynomial_text.specs.declared.line_fault.LineKind.TheVariants as line_kinds
use Rattle.presentation_text.specs.declared.text_kind.TextKind.{TextKind}
use Rattle.presentation_text.specs.declared.text_kind.TextKind.TheVariants as kinds

abbrev pub kind_name : TextKind → List ℕ
kind_name kinds.Header = codes "Header"
kind_name kinds.FieldUnknown = codes "FieldUnknown"
kind_name kinds.VarsLine = codes "VarsLine"
kind_name kinds.DuplicateName = codes "DuplicateName"
kind_name kinds.WeightsLine = codes "WeightsLine"
kind_name kinds.OrderLine = codes "OrderLine"
kind_name kinds.CountLine = codes "CountLine"
kind_name kinds.PolySyntax = codes "PolySyntax"
kind_name kinds.UnknownName = codes "UnknownName"
kind_name kinds.NumberTooLong = codes "NumberTooLong"
kind_name kinds.DegreeTooLarge = codes "DegreeTooLarge"
kind_name kinds.NotHomogeneous = codes "NotHomogeneous"
kind_name kinds.UnitIdeal = codes "UnitIdeal"
kind_name kinds.ConstantGenerator = codes "ConstantGenerator"
kind_name kinds.Truncated = codes "Truncated"
kind_name kinds.TextAfterEnd = codes "TextAfterEnd"

-- the kind of a fault in the line of a polynomial
abbrev pub kind_of : LineKind → TextKind
kind_of line_kinds.PolySyntax = kinds.PolySyntax
kind_of line_kinds.UnknownName = kinds.UnknownName
kind_of line_kinds.NumberTooLong = kinds.NumberTooLong
kind_of line_kinds.DegreeTooLarge = kinds.DegreeTooLarge

-- what is made of the line of a polynomial
unfoldable pub in_text : {A : Type 0} → Result A LineKind → Result A TextKind
in_text (Ok x) = Ok x
in_text (Err kind) = Err (kind_of kind)

abbrev pub fault_of : LineFault LineKind → LineFault TextKind
fault_of line_faults.Memory = line_faults.Memory
fault_of (line_faults.Kind kind) = line_faults.Kind (kind_of kind)

-- a kind of fault, and the number of its line
abbrev pub Fault : Type 0
Fault = TextKind × ℕ

-- a value, or a fault if there is none
abbrev pub or_fault : {A F : Type 0} → F → Option A → Result A F
or_fault e None = Err e
or_fault e (Some x) = Ok x

-- What the calls give that read a text.
use Rattle.std.specs.Prelude.{◌≡◌, ℕ, List, [], Result, Ok, Err}
use Rattle.monomial_order.specs.MonomialOrder.{MonomialOrder}
use Rattle.poly_core.specs.Presentation.{weight_order_of}
use Rattle.poly_core.specs.declared.place_names.Names.{Names}
use Rattle.poly_core.specs.declared.place_names.Names.TheVariants.{Listed, Numbered, Paired}
use Rattle.presentation_text.specs.declared.head.Head.{Head as Opening}
use Rattle.polynomial_text.specs.declared.line_fault.LineFault.{LineFault}
use Rattle.polynomial_text.specs.declared.line_fault.LineFault.TheVariants as line_faults
use Rattle.presentation_text.specs.declared.text_fault.TextFault.{TextFault}
use Rattle.presentation_text.specs.declared.text_fault.TextFault.TheVariants as faults
use Rattle.presentation_text.specs.Kinds.{Fault}
use Rattle.presentation_text.specs.declared.text_kind.TextKind.{TextKind}
use Rattle.presentation_text.specs.Reading.{Head}
use Rattle.presentation_text.specs.Meaning.{IsFaultOf}

-- what a call returned, seen by view, is what reading gives, unless memory ran out
abbrev pub Gives : {X Y : Type 0} → (X → Y) → Result X TextFault → Result Y Fault → Type 0
Gives view (Ok x) read = read ≡ Ok (view x)
Gives view (Err e) read = IsFaultOf read e

-- the fault of a line, with the number of the line
abbrev pub fault_at : ℕ → LineFault TextKind → TextFault
fault_at line line_faults.Memory = faults.Memory
fault_at line (line_faults.Kind kind) = faults.At kind line

abbrev pub located : {X : Type 0} → ℕ → Result X (LineFault TextKind) → Result X TextFault
located line (Ok x) = Ok x
located line (Err e) = Err (fault_at line e)

-- the names in a table
abbrev pub listed : Names → List (List ℕ)
listed (Listed table) = table
listed (Numbered prefix skip) = []
listed (Paired first count second) = []

-- the meaning of a head of the program
abbrev pub head_of : Opening → Head
head_of h = record { size = h.size; names = listed h.names; weights = h.order.weights.items; rows = h.order.rows.items; tie = h.order.tie }

-- its order
abbrev pub order_in : Opening → MonomialOrder
order_in h = weight_order_of h.order

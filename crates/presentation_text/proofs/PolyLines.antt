-- What is made of a polynomial's line with the head of the program.
use Rattle.std.proofs.Common.{◌≡◌, ℕ, List, length, Result, Ok, refl, sym, ap, ◌∙◌}
use Rattle.word_field.specs.Field.{FieldOps}
use Rattle.polynomials.specs.Polynomial.{Polynomial}
use Rattle.poly_core.specs.Names.{AreNames}
use Rattle.poly_core.specs.declared.place_names.Names.{Names}
use Rattle.polynomial_text.specs.declared.line_fault.LineFault.{LineFault}
use Rattle.polynomial_text.specs.declared.line_fault.LineFault.TheVariants as line_faults
use Rattle.polynomial_text.specs.declared.line_fault.LineKind.{LineKind}
use Rattle.polynomial_text.specs.Canonical.{IsLineFaultOf}
use Rattle.polynomial_text.specs.PolyLine.{terms_of}
use Rattle.polynomial_text.specs.Results.{◌>>=◌}
use Rattle.presentation_text.specs.declared.head.Head.{Head}
use Rattle.presentation_text.specs.declared.text_kind.TextKind.{TextKind}
use Rattle.presentation_text.specs.Giving.{order_in, head_of}
use Rattle.presentation_text.specs.Judging.{judged}
use Rattle.presentation_text.specs.Kinds.{fault_of, in_text}
use Rattle.presentation_text.specs.Reading.{poly_line}
use Rattle.presentation_text.proofs.TableNames.{is_listed}

pub in_text_ok : {A : Type 0} (r : Result A LineKind) (x : A) → r ≡ Ok x → in_text r ≡ Ok x
unfolding in_text
in_text_ok r x e = rw e refl

-- the fault of a line is one of it in a text
pub in_text_fault : {A : Type 0} (r : Result A LineKind) (e : LineFault LineKind) → IsLineFaultOf r e → IsLineFaultOf (in_text r) (fault_of e)
unfolding in_text
in_text_fault r line_faults.Memory h = tt
in_text_fault r (line_faults.Kind kind) h = rw h refl

module _ {E : Type 0} (K : FieldOps E) (h : Head) (named : AreNames (length h.order.weights.items) h.names) where
  abbrev pub terms : List ℕ → Result (Polynomial E) LineKind
  terms line = terms_of K (order_in h) h.names line

  line_is : (constant : TextKind) (line : List ℕ) → poly_line K (head_of h) constant line ≡ (in_text (terms line) >>= judged K (order_in h) constant)
  unfolding poly_line
  line_is constant line = ap (λ (names : Names). in_text (terms_of K (order_in h) names line) >>= judged K (order_in h) constant) (sym (is_listed _ h.names named))

  pub line_judged : (constant : TextKind) (line : List ℕ) (sum : Polynomial E) → terms line ≡ Ok sum → poly_line K (head_of h) constant line ≡ judged K (order_in h) constant sum
  line_judged constant line sum e = line_is constant line ∙ ap (λ (r : Result (Polynomial E) TextKind). r >>= judged K (order_in h) constant) (in_text_ok (terms line) sum e)

  pub line_err : (constant : TextKind) (line : List ℕ) (e : LineFault TextKind) → IsLineFaultOf (in_text (terms line)) e → IsLineFaultOf (poly_line K (head_of h) constant line) e
  line_err constant line line_faults.Memory k = tt
  line_err constant line (line_faults.Kind kind) k = line_is constant line ∙ ap (λ (r : Result (Polynomial E) TextKind). r >>= judged K (order_in h) constant) k

  pub line_fault : (constant : TextKind) (line : List ℕ) (sum : Polynomial E) (e : LineFault TextKind) → terms line ≡ Ok sum → IsLineFaultOf (judged K (order_in h) constant sum) e → IsLineFaultOf (poly_line K (head_of h) constant line) e
  line_fault constant line sum e is k = rw (line_judged constant line sum is) k

-- A heading that was read is one of a presentation.
use Rattle.std.proofs.Common.{◌≡◌, ℕ, true, false, Bool, cond, List, length, Some, None, Ok, refl, sym, subst}
use Rattle.std.specs.Prelude.{codes}
use Rattle.monomial_order.specs.MonomialOrder.{IsMonomialOrder}
use Rattle.monomial_order.specs.laws.Orders.{between_from_all}
use Rattle.monomial_order.specs.laws.Ties.{weight_laws}
use Rattle.poly_core.specs.Names.{IsNameList}
use Rattle.polynomial_text.specs.laws.Steps.{step_ok, same_ok}
use Rattle.presentation_text.specs.declared.text_kind.TextKind.TheVariants.{FieldUnknown}
use Rattle.presentation_text.specs.Numbers.{number_of}
use Rattle.presentation_text.specs.Lines.{tokens}
use Rattle.presentation_text.specs.Heading.{◌>>=◌, behind_key, only, size, is_size, header_line, field_line, vars_line, weights_line, order_line}
use Rattle.presentation_text.specs.Reading.{Line, Head, order_of_head, next, head}
use Rattle.presentation_text.specs.Presenting.{IsHeading}
use Rattle.presentation_text.proofs.HeadFacts.{vars_read}
use Rattle.presentation_text.proofs.NextLines.{next_was}
use Rattle.presentation_text.proofs.TakenTokens.{bind_some, or_fault_ok}
use Rattle.presentation_text.proofs.Weighing.{weighing, weights_read}

-- ---- the size of the field

size_known : (known : ℕ → Bool) (line : List (List ℕ)) (n : ℕ) → size known line ≡ Some n → known n ≡ true
unfolding size
size_known known line n e =
    let rest = bind_some (behind_key (codes "field") line) _ n e in
    let number = bind_some (only rest.0 >>= number_of) _ n rest.2 in
    chosen (known number.0) number.0 refl number.2
  where
    chosen : (b : Bool) (k : ℕ) → known k ≡ b → cond b (Some k) None ≡ Some n → known n ≡ true
    chosen true k is h = let same : k ≡ n = cc in subst (λ (i : ℕ). known i ≡ true) same is
    chosen false k is h = absurd cc

pub field_read : (known : ℕ → Bool) (last : ℕ) (ls : List Line) (x : ℕ × List Line) → next last (field_line known) ls ≡ Ok x → known x.0 ≡ true
field_read known last ls x e =
    let w = next_was (field_line known) last ls x e in
    size_known known (tokens w.0) x.0 (or_fault_ok FieldUnknown (size known (tokens w.0)) x.0 w.1)

-- ---- the heading

pub head_read : (last : ℕ) (ls : List Line) (x : Head × List Line) → head is_size last ls ≡ Ok x → IsHeading x.0
unfolding head
head_read last ls x e =
    let first = step_ok (next last header_line ls) _ x e in
    let size = step_ok (next last (field_line is_size) first.0.1) _ x first.2 in
    let names = step_ok (next last vars_line size.0.1) _ x size.2 in
    let weights = step_ok (next last (weights_line (length names.0.0)) names.0.1) _ x names.2 in
    let order = step_ok (next last (order_line (length names.0.0)) weights.0.1) _ x weights.2 in
    let h : Head = record { size = size.0.0; names = names.0.0; weights = weights.0.0; rows = order.0.0.0; tie = order.0.0.1 } in
    let named = vars_read last size.0.1 names.0 names.1 in
    let many = weights_read (length names.0.0) last names.0.1 weights.0 weights.1 in
    let is : IsHeading h = record {
      size = field_read is_size last first.0.1 size.0 size.1;
      names = subst (λ (n : ℕ). IsNameList n names.0.0) (sym many.0) named;
      order = weighing (length names.0.0) last last names.0.1 weights.0.1 weights.0.1 order.0.1 names.0.0 weights.0.0 order.0.0.0 order.0.0.1 named weights.1 order.1;
    } in
    subst (λ (y : Head × List Line). IsHeading y.0) (same_ok (h, order.0.1) x order.2) is

-- its order has the laws
pub heading_laws : (h : Head) → IsHeading h → IsMonomialOrder (order_of_head h)
heading_laws h is = weight_laws h.weights h.rows h.tie (between_from_all 1 64 h.weights is.order.positive is.order.light.weights_light)

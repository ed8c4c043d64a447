use Rattle.std.proofs.Common.{length, ℕ, sym, ap, subst, ◌∙◌}
use Rattle.poly_core.specs.Names.{IsNameList}
use Rattle.presentation_text.proofs.HeadFacts.{vars_read}
use Rattle.presentation_text.proofs.ReadHeads.{field_read}
use Rattle.presentation_text.proofs.Weighing.{weighing, weights_read}
use Rattle.presentation_text.proofs.head.read_head.Goals as goal

pub weight_order-requires : goal.weight_order-requires
weight_order-requires c =
    let named = subst (λ (n : ℕ). IsNameList n c.in_ok-names.names) (sym c.len-count.ensures.length) (vars_read _ _ _ c.in_ok-names.ensures.read) in
    rw (c.deref.ensures.value, c.deref-2.ensures.value) (weighing c.len-count.result _ _ _ _ _ _ c.in_ok-names.names c.in_ok-weights.weights.items c.in_ok-rows.rows.items c.in_ok-rows.tie named c.in_ok-weights.ensures.read c.in_ok-rows.ensures.read)

pub returns-clause-named : goal.returns-clause-named
returns-clause-named c =
    let names = vars_read _ _ _ c.in_ok-names.ensures.read in
    let weights = weights_read _ _ _ _ c.in_ok-weights.ensures.read in
    let places = ap length (c.in_ok-order.ensures.weights ∙ c.deref.ensures.value) ∙ weights.0 ∙ c.len-count.ensures.length in
    subst (λ (n : ℕ). IsNameList n c.in_ok-names.names) (sym places) names

pub returns-clause-known : goal.returns-clause-known
returns-clause-known c = field_read _ _ _ _ c.in_ok-size.ensures.read

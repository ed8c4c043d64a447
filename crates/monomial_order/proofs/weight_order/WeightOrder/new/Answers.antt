use Rattle.std.proofs.Common.{◌≡◌, ◌≢◌, true, ℕ, List, length, sym, ap, subst, rules, Err}
use Rattle.monomial_order.specs.Ranges.{all_between, are_rows}
use Rattle.monomial_order.specs.declared.order_fault.OrderFault.{OrderFault}
use Rattle.monomial_order.specs.declared.order_fault.OrderFault.TheVariants.{Memory}
use Rattle.monomial_order.specs.Faults.{IsFault, IsWeighing}
use Rattle.monomial_order.proofs.FaultLemmas.{fault_same, rows_from_all}
use Rattle.monomial_order.specs.laws.Orders.{between_from_all}
use Rattle.monomial_order.proofs.weight_order.WeightOrder.new.Goals as goal

no_fault : (ws : List ℕ) (rows : List (List ℕ)) (e : OrderFault) → IsWeighing ws rows → e ≢ Memory → IsFault ws rows e → ⊥
no_fault ws rows e h ne f = ne (fault_same ws rows e Memory f h)

pub returns-in-Some-clause-exact : goal.returns-in-Some-clause-exact
returns-in-Some-clause-exact c = λ e ne f. ap Err (fault_same c.args.weights.now c.args.rows.now c.in-Some.fault e c.in-Some.ensures.fault f)

pub returns-in_err-to_vec-clause-exact : goal.returns-in_err-to_vec-clause-exact
returns-in_err-to_vec-clause-exact c = λ e ne f. absurd (no_fault c.args.weights.now c.args.rows.now e c.in_default.ensures.none ne f)

pub returns-in_err-copied_rows-clause-exact : goal.returns-in_err-copied_rows-clause-exact
returns-in_err-copied_rows-clause-exact c = λ e ne f. absurd (no_fault c.args.weights.now c.args.rows.now e c.in_default.ensures.none ne f)

pub returns-clause-exact : goal.returns-clause-exact
returns-clause-exact c = λ e ne f. absurd (no_fault c.args.weights.now c.args.rows.now e c.in_default.ensures.none ne f)

tests : (ws weights : List ℕ) (rs rows : List (List ℕ)) → weights ≡ ws → rows ≡ rs → IsWeighing ws rs → (all_between 1 64 weights ≡ true) × (are_rows (length weights) rows ≡ true)
tests ws weights rs rows e f h = (
  subst (λ xs. all_between 1 64 xs ≡ true) (sym e) (between_from_all 1 64 ws h.positive h.light.weights_light),
  subst (λ xs. are_rows (length xs) rows ≡ true) (sym e) (subst (λ xs. are_rows (length ws) xs ≡ true) (sym f) (rows_from_all (length ws) rs h.whole_rows h.light.rows_light)),
)

pub invariant_of-result-clause-weights_in_range : goal.invariant_of-result-clause-weights_in_range
invariant_of-result-clause-weights_in_range c =
    let copied : c.in_ok-to_vec.field-0.items ≡ c.args.weights.now = search rules in
    (tests c.args.weights.now c.in_ok-to_vec.field-0.items c.args.rows.now c.in_ok-copied_rows.field-0.items copied c.in_ok-copied_rows.ensures c.in_default.ensures.none).0

pub invariant_of-result-clause-rows_in_range : goal.invariant_of-result-clause-rows_in_range
invariant_of-result-clause-rows_in_range c =
    let copied : c.in_ok-to_vec.field-0.items ≡ c.args.weights.now = search rules in
    (tests c.args.weights.now c.in_ok-to_vec.field-0.items c.args.rows.now c.in_ok-copied_rows.field-0.items copied c.in_ok-copied_rows.ensures c.in_default.ensures.none).1

-- Powers of the variables are monomials, and those of a later variable are smaller.
use Rattle.std.proofs.Common.{◌≡◌, ℕ, zero, suc, ◌<◌, ◌≤◌, [], length, true, refl, sym, ap, ◌∙◌, arith}
use Rattle.std.specs.Prelude.{replicate}
use Rattle.std.proofs.Math.ListN.{length-replicate}
use Rattle.std.proofs.lemmas.Bool.Decides.{nat_tests}
use Rattle.std.specs.Ordering.{nat_cmp, ordering_then}
use Rattle.std.specs.declared.cmp.Ordering.TheVariants.{Less, Equal}
use Rattle.monomial_order.specs.declared.tie_break.Tie.TheVariants.{Lex}
use Rattle.monomial_order.specs.Monomial.{IsTrimmed, IsMonomial, weighted_degree}
use Rattle.monomial_order.specs.MonomialOrder.{IsMonomialOrder}
use Rattle.monomial_order.specs.Orders.{lex}
use Rattle.monomial_order.specs.Ranges.{all_between}
use Rattle.monomial_order.specs.laws.Monomial.{weighted_nil}
use Rattle.monomial_order.specs.laws.Ties.{weight_laws}
use Rattle.power_sums.specs.PowerSums.{power, unit_order}

pub power_trimmed : (i d : ℕ) → 1 ≤ d → IsTrimmed (power i d)
power_trimmed zero d h = λ e. absurd (omega arith)
power_trimmed (suc zero) d h = λ e. absurd (omega arith)
power_trimmed (suc (suc i)) d h = power_trimmed (suc i) d h

-- its place is the last
power_length : (i d : ℕ) → length (power i d) ≡ suc i
power_length zero d = refl
power_length (suc i) d = ap suc (power_length i d)

pub power_monomial : (m i d : ℕ) → i < m → 1 ≤ d → IsMonomial (unit_order m).places (power i d)
power_monomial m i d l h = record { trimmed = power_trimmed i d h; within = omega (arith, power_length i d, length-replicate {A = ℕ} m 1) }

unit_weights : (m : ℕ) → all_between 1 64 (replicate m 1) ≡ true
unit_weights zero = refl
unit_weights (suc m) = unit_weights m

pub unit_laws : (m : ℕ) → IsMonomialOrder (unit_order m)
unit_laws m = weight_laws (replicate m 1) [] Lex (unit_weights m)

pub power_degree : (m i d : ℕ) → i < m → (unit_order m).degree (power i d) ≡ d
power_degree zero i d l = absurd (omega arith)
power_degree (suc m) zero d l = let z = weighted_nil (replicate m 1) in omega arith
power_degree (suc m) (suc i) d l = let e = power_degree m i d (omega arith) in omega arith

-- the later power has a 0 where the other has its exponent
lex_falls : (i k d : ℕ) → 1 ≤ d → i < k → lex (power k d) (power i d) ≡ Less
lex_falls i zero d h l = absurd (omega arith)
lex_falls zero (suc k) d h l = ap (λ o. ordering_then o (lex (power k d) [])) (first d h)
  where
    first : (d : ℕ) → 1 ≤ d → nat_cmp 0 d ≡ Less
    first d h = grind (arith, nat_tests)
lex_falls (suc i) (suc k) d h l = lex_falls i k d h (omega arith)

pub power_falls : (m i k d : ℕ) → 1 ≤ d → i < k → k < m → (unit_order m).compare (power k d) (power i d) ≡ Less
power_falls m i k d h l r =
    let a = power_degree m k d r in
    let b = power_degree m i d (omega arith) in
    ap (λ o. ordering_then o (lex (power k d) (power i d))) (same (weighted_degree (replicate m 1) (power k d)) (weighted_degree (replicate m 1) (power i d)) (a ∙ sym b)) ∙ lex_falls i k d h l
  where
    same : (x y : ℕ) → x ≡ y → nat_cmp x y ≡ Equal
    same x y e = grind (arith, nat_tests)

-- Polynomials in x and y over 101 elements.
use Rattle.std.proofs.Common.{◌≡◌, ◌≤◌, ◌+◌, ◌%◌, ℕ, refl, List, [], ◌∷◌, arith}
use Rattle.std.specs.declared.cmp.Ordering.TheVariants.{Less}
use Rattle.word_field.specs.Field.{IsField}
use Rattle.word_field.specs.Residues.{residues}
use Rattle.word_field.specs.laws.Residues.{residues_field}
use Rattle.monomial_order.specs.Monomial.{IsMonomial}
use Rattle.monomial_order.specs.MonomialOrder.{MonomialOrder, IsMonomialOrder}
use Rattle.monomial_order.specs.Orders.{lex, weight_order}
use Rattle.monomial_order.specs.laws.Orders.{weight_order_laws, lex_part, lex_equal}
use Rattle.polynomials.specs.Polynomial.{term_of, IsTerm, IsDecreasing}
use Rattle.subalgebra_laws.specs.Samples.{sum_xy, x_times_y, sum_times_y}

pub field : IsField (residues 101)
field = residues_field 101 refl

abbrev pub plane : MonomialOrder
plane = weight_order (1 ∷ (1 ∷ [])) [] lex

pub plane_laws : IsMonomialOrder plane
plane_laws = weight_order_laws (1 ∷ (1 ∷ [])) [] lex (omega arith, (omega arith, tt)) lex_part lex_equal

pub term_in : (n : ℕ) (m : List ℕ) (c : ℕ) → IsMonomial n m → c % 101 ≡ c → IsTerm (residues 101) n (term_of m c)
term_in n m c h v = record { monomial = h; value = v }

-- x + y, x*y^e and x*y^e + y^(e + 1)
pub sum_decreasing : IsDecreasing (residues 101) plane sum_xy
sum_decreasing = (
  record { term = term_in 2 (1 ∷ []) 1 (record { trimmed = λ e. cc; within = omega arith }) refl; nonzero = λ e. cc; above = (refl, tt) },
  (record { term = term_in 2 (0 ∷ (1 ∷ [])) 1 (record { trimmed = λ e. cc; within = omega arith }) refl; nonzero = λ e. cc; above = tt }, tt),
)

pub product_decreasing : (e : ℕ) → 1 ≤ e → IsDecreasing (residues 101) plane (x_times_y e)
product_decreasing e n = (record { term = term_in 2 (1 ∷ (e ∷ [])) 1 (record { trimmed = λ z. absurd (let y = z in omega arith); within = omega arith }) refl; nonzero = λ z. cc; above = tt }, tt)

pub sum_times_decreasing : (e : ℕ) → 1 ≤ e → plane.compare (0 ∷ ((e + 1) ∷ [])) (1 ∷ (e ∷ [])) ≡ Less → IsDecreasing (residues 101) plane (sum_times_y e)
sum_times_decreasing e n less = (
  record { term = (product_decreasing e n).0.term; nonzero = λ z. cc; above = (less, tt) },
  (record { term = term_in 2 (0 ∷ ((e + 1) ∷ [])) 1 (record { trimmed = λ z. absurd (let y = z in omega arith); within = omega arith }) refl; nonzero = λ z. cc; above = tt }, tt),
)

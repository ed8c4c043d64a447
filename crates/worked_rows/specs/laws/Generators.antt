-- Generators of presentations are canonical and of low degree.
use Rattle.std.proofs.Common.{ℕ, zero, suc, ◌≤◌, List, [], ◌∷◌, subst, sym, ⊎_elim, get_or, arith}
use Rattle.word_field.specs.Field.{FieldOps, IsField}
use Rattle.monomial_order.specs.MonomialOrder.{MonomialOrder, IsMonomialOrder}
use Rattle.polynomials.specs.Polynomial.{Polynomial, IsCanonical}
use Rattle.polynomials.specs.laws.Degrees.{decreasing_all}
use Rattle.poly_core.specs.Presentation.{IsCanonicalGenerator, AreCanonicalGenerators}
use Rattle.polynomial_text.specs.Degrees.{IsLow}

module _ {E : Type 0} (K : FieldOps E) (F : IsField K) (O : MonomialOrder) (L : IsMonomialOrder O) where
  pub low_generator : (f : Polynomial E) → IsCanonicalGenerator K O f → IsLow O f
  low_generator f h =
      ⊎_elim (λ e. subst (IsLow O) (sym e) tt)
      (λ r. decreasing_all K F O L (λ m. O.degree m ≤ 30000) f h.canonical.decreasing
      (λ m n. let e = r.3.each m n in let l = r.2 in omega arith)) h.homogeneous

  pub low_generators : (fs : List (Polynomial E)) (i : ℕ) → AreCanonicalGenerators K O fs → IsCanonical K O (get_or fs i []) × IsLow O (get_or fs i [])
  low_generators [] i h = (record { decreasing = tt; small = tt }, tt)
  low_generators (f ∷ fs) zero h = (h.0.canonical, low_generator f h.0)
  low_generators (f ∷ fs) (suc i) h = low_generators fs i h.1

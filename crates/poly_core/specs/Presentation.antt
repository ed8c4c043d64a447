-- What a presentation of the program presents, and its limits.
use Rattle.std.specs.Prelude.{◌≡◌, ℕ, ◌≤◌, ◌⊎◌, List, [], ◌∷◌, length, map}
use Rattle.word_field.specs.Field.{FieldOps}
use Rattle.monomial_order.specs.Limits.{degree_max}
use Rattle.monomial_order.specs.declared.weight_order.WeightOrder.{WeightOrder}
use Rattle.monomial_order.specs.MonomialOrder.{MonomialOrder}
use Rattle.monomial_order.specs.Orders.{weight_order}
use Rattle.monomial_order.specs.Ties.{tie_order}
use Rattle.poly_core.specs.declared.presentations.Presentation.{Presentation}
use Rattle.polynomials.specs.Polynomial.{Polynomial, IsCanonical, IsHomogeneous}
use Rattle.poly_core.specs.Names.{AreNames}
use Rattle.polynomials.specs.Subalgebra.{Presented, IsPresentation}

module _ {E : Type 0} (K : FieldOps E) (O : MonomialOrder) where
  -- zero, or homogeneous of a degree from 1 to 30000
  pub record IsCanonicalGenerator (f : Polynomial E) : Type 0 where
    pub canonical : IsCanonical K O f
    pub homogeneous : (f ≡ []) ⊎ ((d : ℕ) × (1 ≤ d) × (d ≤ degree_max) × IsHomogeneous K O d f)

  abbrev pub AreCanonicalGenerators : List (Polynomial E) → Type 0
  AreCanonicalGenerators [] = Unit {0}
  AreCanonicalGenerators (f ∷ fs) = IsCanonicalGenerator f × AreCanonicalGenerators fs

  -- at most 256 of them
  pub record IsCanonicalList (fs : List (Polynomial E)) : Type 0 where
    pub each : AreCanonicalGenerators fs
    pub few : length fs ≤ 256

-- the degree of a generator, and 1 for zero
abbrev pub generator_degree : {E : Type 0} → MonomialOrder → Polynomial E → ℕ
generator_degree O [] = 1
generator_degree O (t ∷ f) = O.degree t.at

module _ {F O E : Type 0} where
  -- by the meaning of the field and of the order
  abbrev pub presented : (F → FieldOps E) → (O → MonomialOrder) → Presentation F O E → Presented E
  presented ops order p = record { field = ops p.field; order = order p.order; ideal = p.ideal.items; generators = p.generators.items }

  -- The invariant of a presentation. The words in its generators have a place for each generator, and no other.
  pub record IsValid (ops : F → FieldOps E) (order : O → MonomialOrder) (p : Presentation F O E) : Type 0 where
    pub presentation : IsPresentation (presented ops order p)
    pub names : AreNames (order p.order).places p.names
    pub ideal : IsCanonicalList (ops p.field) (order p.order) p.ideal.items
    pub generators : IsCanonicalList (ops p.field) (order p.order) p.generators.items
    pub no_x : p.gen_order.x_degrees.items ≡ []
    pub degrees : p.gen_order.s_degrees.items ≡ map (generator_degree (order p.order)) p.generators.items

-- the meaning of an order by weights
abbrev pub weight_order_of : WeightOrder → MonomialOrder
weight_order_of o = weight_order o.weights.items o.rows.items (tie_order o.tie)

-- q presents what p presents, with the same names and orders
pub record IsSame {F E : Type 0} (p q : Presentation F WeightOrder E) : Type 0 where
  pub field : q.field ≡ p.field
  pub weights : q.order.weights.items ≡ p.order.weights.items
  pub rows : q.order.rows.items ≡ p.order.rows.items
  pub tie : q.order.tie ≡ p.order.tie
  pub names : q.names ≡ p.names
  pub ideal : q.ideal.items ≡ p.ideal.items
  pub generators : q.generators.items ≡ p.generators.items
  pub x_degrees : q.gen_order.x_degrees.items ≡ p.gen_order.x_degrees.items
  pub s_degrees : q.gen_order.s_degrees.items ≡ p.gen_order.s_degrees.items

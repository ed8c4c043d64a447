-- Polynomials of the program for sums that were read.
use Rattle.std.specs.Prelude.{◌≡◌, ℕ, List, [], map, Result, Ok, codes}
use Rattle.word_field.specs.Field.{FieldOps}
use Rattle.monomial_order.specs.MonomialOrder.{MonomialOrder}
use Rattle.polynomials.specs.Polynomial.{Polynomial, Same}
use Rattle.poly_core.specs.Presentation.{IsCanonicalGenerator, IsCanonicalList, generator_degree, weight_order_of}
use Rattle.poly_core.specs.declared.presentations.Presentation.{Presentation}
use Rattle.monomial_order.specs.declared.weight_order.WeightOrder.{WeightOrder}
use Rattle.presentation_text.specs.declared.head.Head.{Head as Opening}
use Rattle.presentation_text.specs.declared.text_kind.TextKind.TheVariants.{UnitIdeal, ConstantGenerator}
use Rattle.polynomial_text.specs.Results.{◌>>=◌}
use Rattle.presentation_text.specs.Kinds.{Fault}
use Rattle.presentation_text.specs.Reading.{Line, Head, counted, ended}
use Rattle.presentation_text.specs.Meaning.{AreSums}

module _ {E : Type 0} (K : FieldOps E) (O : MonomialOrder) where
  -- the polynomial may be a generator, and is a sum that was read
  pub record IsSumIn (reads : Polynomial E → Type 0) (p : Polynomial E) : Type 0 where
    pub sum : Polynomial E
    pub is : reads sum
    pub same : Same K p sum
    pub generator : IsCanonicalGenerator K O p

  -- at most count_max polynomials that may be generators, and are sums that were read
  pub record AreSumsIn (reads : List (Polynomial E) → Type 0) (ps : List (Polynomial E)) : Type 0 where
    pub sums : List (Polynomial E)
    pub is : reads sums
    pub same : AreSums K O sums ps
    pub canonical : IsCanonicalList K O ps

  -- two such lists of polynomials, the ideal and the generators
  pub record AreListsIn (reads : List (Polynomial E) × List (Polynomial E) → Type 0) (ideal generators : List (Polynomial E)) : Type 0 where
    pub ideal_sums : List (Polynomial E)
    pub generator_sums : List (Polynomial E)
    pub is : reads (ideal_sums, generator_sums)
    pub ideal_same : AreSums K O ideal_sums ideal
    pub generators_same : AreSums K O generator_sums generators
    pub ideal_canonical : IsCanonicalList K O ideal
    pub generators_canonical : IsCanonicalList K O generators

-- the lines behind the order: the sums of the ideal's lines, and of the generators'
unfoldable pub lists : {E : Type 0} → FieldOps E → ℕ → Head → List Line → Result (List (Polynomial E) × List (Polynomial E)) Fault
lists K last h ls = do
  ideal ← counted K last h (codes "ideal") UnitIdeal ls
  generators ← counted K last h (codes "generators") ConstantGenerator ideal.1
  end ← ended last generators.1
  Ok (ideal.0, generators.0)

-- the presentation is made of a field, a head and the two lists
pub record IsMadeOf {F E : Type 0} (f : F) (h : Opening) (ideal generators : List (Polynomial E)) (p : Presentation F WeightOrder E) : Type 0 where
  pub field : p.field ≡ f
  pub names : p.names ≡ h.names
  pub order : p.order ≡ h.order
  pub ideal_is : p.ideal.items ≡ ideal
  pub generators_are : p.generators.items ≡ generators
  pub no_x : p.gen_order.x_degrees.items ≡ []
  pub degrees : p.gen_order.s_degrees.items ≡ map (generator_degree (weight_order_of h.order)) generators

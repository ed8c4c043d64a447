-- What a reading gives is a presentation.
use Rattle.std.specs.Prelude.{◌≡◌, List, [], length, map, true}
use Rattle.word_field.specs.Field.{FieldOps}
use Rattle.monomial_order.specs.declared.weight_order.WeightOrder.{WeightOrder}
use Rattle.monomial_order.specs.Faults.{IsWeighing}
use Rattle.monomial_order.specs.Limits.{degree_max}
use Rattle.monomial_order.specs.Ranges.{all_between}
use Rattle.polynomials.specs.Polynomial.{Polynomial}
use Rattle.polynomials.specs.Subalgebra.{IsPresentation}
use Rattle.poly_core.specs.Names.{IsNameList}
use Rattle.poly_core.specs.Presentation.{IsCanonicalList, generator_degree, weight_order_of}
use Rattle.poly_core.specs.declared.place_names.Names.TheVariants.{Listed}
use Rattle.poly_core.specs.declared.presentations.Presentation.{Presentation}
use Rattle.presentation_text.specs.Heading.{is_size}
use Rattle.presentation_text.specs.Reading.{Head, Reading, order_of_head}
use Rattle.presentation_text.specs.Meaning.{AreSums}

-- there is a field of this size, a name for each place, and an order with these weights and rows
pub record IsHeading (h : Head) : Type 0 where
  pub size : is_size h.size ≡ true
  pub names : IsNameList (length h.weights) h.names
  pub order : IsWeighing h.weights h.rows

-- the sums of lines are those of a list of polynomials of a presentation
pub record IsListOf {E : Type 0} (K : FieldOps E) (h : Head) (sums : List (Polynomial E)) : Type 0 where
  pub polys : List (Polynomial E)
  pub same : AreSums K (order_of_head h) sums polys
  pub canonical : IsCanonicalList K (order_of_head h) polys

-- What was read is a presentation, and each of its generators has the degree of a letter.
pub record IsPresented {E : Type 0} (K : FieldOps E) (r : Reading E) : Type 0 where
  pub heading : IsHeading r.head
  pub ideal : IsListOf K r.head r.ideal
  pub generators : IsListOf K r.head r.generators
  pub presentation : IsPresentation (record { field = K; order = order_of_head r.head; ideal = ideal.polys; generators = generators.polys })
  pub degrees : all_between 1 degree_max (map (generator_degree (order_of_head r.head)) generators.polys) ≡ true

-- p is made of what was read; whether p is valid is not said
pub record IsFromReading {F E : Type 0} (ops : F → FieldOps E) (r : Reading E) (p : Presentation F WeightOrder E) : Type 0 where
  pub field : (ops p.field).size ≡ r.head.size
  pub names : p.names ≡ Listed r.head.names
  pub weights : p.order.weights.items ≡ r.head.weights
  pub rows : p.order.rows.items ≡ r.head.rows
  pub tie : p.order.tie ≡ r.head.tie
  pub ideal : AreSums (ops p.field) (weight_order_of p.order) r.ideal p.ideal.items
  pub generators : AreSums (ops p.field) (weight_order_of p.order) r.generators p.generators.items
  pub no_x : p.gen_order.x_degrees.items ≡ []
  pub degrees : p.gen_order.s_degrees.items ≡ map (generator_degree (weight_order_of p.order)) p.generators.items

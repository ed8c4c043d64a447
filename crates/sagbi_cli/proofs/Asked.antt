-- The outcome of a command that reads queries.
use Rattle.std.proofs.Common.{◌≡◌, ◌∙◌, ℕ, List, Ok, sym, ap}
use Rattle.std.specs.FinMap as map
use Rattle.word_field.specs.Field.{FieldOps}
use Rattle.word_field.specs.Residues.{residues}
use Rattle.word_field.specs.declared.WordField.{WordField}
use Rattle.ext_field.specs.PairField.{pairs_of}
use Rattle.ext_field.specs.declared.pair.Pair.{Pair}
use Rattle.ext_field.specs.declared.pair_field.PairField.{PairField}
use Rattle.ext_field.specs.laws.Sizes.{pairs_of_square}
use Rattle.monomial_order.specs.MonomialOrder.{MonomialOrder}
use Rattle.monomial_order.specs.Orders.{weight_order}
use Rattle.monomial_order.specs.Ties.{tie_order}
use Rattle.monomial_order.specs.declared.weight_order.WeightOrder.{WeightOrder}
use Rattle.poly_core.specs.declared.place_names.Names.{Names}
use Rattle.poly_core.specs.declared.place_names.Names.TheVariants.{Listed}
use Rattle.poly_core.specs.declared.presentations.Presentation.{Presentation}
use Rattle.poly_core.specs.Presentation.{weight_order_of}
use Rattle.presentation_text.specs.Meaning.{word_ops, pair_ops, IsReadIn}
use Rattle.presentation_text.specs.Reading.{reading, queries, order_of_head, Reading}
use Rattle.presentation_text.specs.Reading.AnyReading.{word, pair}
use Rattle.presentation_text.specs.declared.any_presentation.AnyPresentation.TheVariants as presentations
use Rattle.shelf_io.specs.Shelf.{Files}
use Rattle.sagbi_cli.specs.Outcome.{after_loading, after_queries}
use Rattle.sagbi_cli.specs.Output.{IsGiven}
use Rattle.sagbi_cli.specs.declared.outcome.Outcome.{Outcome}
use Rattle.sagbi_cli.specs.declared.outcome.Outcome.TheVariants.{Done}
use Rattle.sagbi_cli.specs.declared.stop.Input.TheVariants as inputs
use Rattle.sagbi_cli.proofs.Loads.{goes_on}

module _ (files : Files) (name asked : List ℕ) where
  -- what comes of the queries over a field, by an order and with names
  abbrev pub read_by : {E : Type 0} → FieldOps E → MonomialOrder → Names → Outcome
  read_by K O names = after_loading inputs.Queries (map.get files asked) (queries K O names) (λ _. Done)

  -- a presentation has the order and the names of its reading
  same_rest : {F E : Type 0} (ops : F → FieldOps E) (reads : Reading E → Type 0) (p : Presentation F WeightOrder E) (h : IsReadIn ops reads p) (K : FieldOps E) →
      read_by K (order_of_head h.present.head) (Listed h.present.head.names) ≡ read_by K (weight_order_of p.order) p.names
  same_rest ops reads p h K =
      let r = h.present.head in
      ap (λ ws. read_by K (weight_order ws r.rows (tie_order r.tie)) (Listed r.names)) (sym h.weights) ∙
      (ap (λ rows. read_by K (weight_order p.order.weights.items rows (tie_order r.tie)) (Listed r.names)) (sym h.rows) ∙
      (ap (λ tie. read_by K (weight_order p.order.weights.items p.order.rows.items (tie_order tie)) (Listed r.names)) (sym h.tie) ∙
      ap (λ names. read_by K (weight_order_of p.order) names) (sym h.names)))

  pub word_outcome : (p : Presentation WordField WeightOrder ℕ) → IsGiven files name (presentations.Word p) →
      after_loading inputs.Presentation (map.get files name) reading (after_queries (map.get files asked)) ≡
      read_by (word_ops p.field) (weight_order_of p.order) p.names
  word_outcome p h =
      let r = h.read.present in
      goes_on inputs.Presentation (map.get files name) reading (after_queries (map.get files asked)) h.bytes h.found h.short (word r) h.read.reading ∙
      (ap (λ n. read_by (residues n) (order_of_head r.head) (Listed r.head.names)) (sym h.read.field) ∙
      same_rest word_ops (λ x. reading h.bytes ≡ Ok (word x)) p h.read (word_ops p.field))

  pub pair_outcome : (p : Presentation PairField WeightOrder Pair) → IsGiven files name (presentations.Pair p) →
      after_loading inputs.Presentation (map.get files name) reading (after_queries (map.get files asked)) ≡
      read_by (pair_ops p.field) (weight_order_of p.order) p.names
  pair_outcome p h =
      let r = h.read.present in
      let f = p.field in
      let ops : pairs_of r.head.size ≡ pair_ops f =
      ap pairs_of (sym h.read.field) ∙ pairs_of_square f.prime f.square.low f.square.high f.chosen in
      goes_on inputs.Presentation (map.get files name) reading (after_queries (map.get files asked)) h.bytes h.found h.short (pair r) h.read.reading ∙
      (ap (λ K. read_by K (order_of_head r.head) (Listed r.head.names)) ops ∙
      same_rest pair_ops (λ x. reading h.bytes ≡ Ok (pair x)) p h.read (pair_ops f))

-- What a text is read as is a presentation.
use Rattle.std.proofs.Common.{◌≡◌, ℕ, ◌≤◌, List, length, Ok, refl, sym, ap, subst, ◌∙◌}
use Rattle.std.specs.Prelude.{codes}
use Rattle.std.specs.List.{AllByRecursion}
use Rattle.word_field.specs.Field.{FieldOps, IsField}
use Rattle.monomial_order.specs.declared.weight_order.WeightOrder.{WeightOrder}
use Rattle.monomial_order.specs.MonomialOrder.{MonomialOrder, IsMonomialOrder}
use Rattle.monomial_order.specs.laws.Ties.{weight_laws}
use Rattle.polynomials.specs.Polynomial.{Polynomial}
use Rattle.poly_core.specs.Names.{AreNames, IsNameList}
use Rattle.poly_core.specs.Presentation.{IsCanonicalList, IsValid, weight_order_of}
use Rattle.poly_core.specs.declared.place_names.Names.{Names}
use Rattle.poly_core.specs.declared.presentations.Presentation.{Presentation}
use Rattle.poly_core.specs.laws.Presentation.{canonical_presentation}
use Rattle.polynomial_text.specs.laws.Steps.{step_ok, same_ok}
use Rattle.presentation_text.specs.declared.text_kind.TextKind.TheVariants.{UnitIdeal, ConstantGenerator}
use Rattle.presentation_text.specs.Heading.{is_size, count_max}
use Rattle.presentation_text.specs.Lines.{content, end_line}
use Rattle.presentation_text.specs.Meaning.{AreSums, IsReadIn}
use Rattle.presentation_text.specs.Presenting.{IsHeading, IsListOf, IsPresented, IsFromReading}
use Rattle.presentation_text.specs.Reading.{Line, Head, Reading, AnyReading, order_of_head, head, counted, ended, reading_over, reading_of, reading}
use Rattle.presentation_text.proofs.FieldKinds.{IsKind}
use Rattle.presentation_text.proofs.ReadHeads.{head_read, heading_laws}
use Rattle.presentation_text.proofs.ReadLists.{IsFit, counted_fit, forms, canonical_list, letter_degrees}

-- sums of a list of a presentation
record AreFit {E : Type 0} (K : FieldOps E) (h : Head) (sums : List (Polynomial E)) : Type 0 where
  few : length sums ≤ count_max
  each : AllByRecursion (IsFit K (order_of_head h)) sums

-- what is known of each part
record HasFitParts {E : Type 0} (K : FieldOps E) (r : Reading E) : Type 0 where
  laws : IsField K
  heading : IsHeading r.head
  ideal : AreFit K r.head r.ideal
  generators : AreFit K r.head r.generators

module _ {E : Type 0} (K : FieldOps E) (F : IsField K) where
  over_parts : (last : ℕ) (h : Head) (ls : List Line) (r : Reading E) → IsHeading h → reading_over K last h ls ≡ Ok r → (r.head ≡ h) × HasFitParts K r
  unfolding reading_over
  over_parts last h ls r heading e =
      let ideal = step_ok (counted K last h (codes "ideal") UnitIdeal ls) _ r e in
      let generators = step_ok (counted K last h (codes "generators") ConstantGenerator ideal.0.1) _ r ideal.2 in
      let end = step_ok (ended last generators.0.1) _ r generators.2 in
      let first = counted_fit K F h last (codes "ideal") UnitIdeal ls ideal.0 ideal.1 in
      let second = counted_fit K F h last (codes "generators") ConstantGenerator ideal.0.1 generators.0 generators.1 in
      let whole : Reading E = record { head = h; ideal = ideal.0.0; generators = generators.0.0 } in
      let are : HasFitParts K whole = record { laws = F; heading = heading; ideal = record { few = first.0; each = first.1 }; generators = record { few = second.0; each = second.1 } } in
      subst (λ (x : Reading E). (x.head ≡ h) × HasFitParts K x) (same_ok whole r end.2) (refl, are)

  -- ---- there is a presentation

  list_of : (h : Head) → IsHeading h → (sums : List (Polynomial E)) → AreFit K h sums → IsListOf K h sums
  list_of h is sums fit =
      let ps = forms K F (order_of_head h) (heading_laws h is) sums fit.each in
      record { polys = ps.0; same = ps.1; canonical = canonical_list K F (order_of_head h) (heading_laws h is) sums ps.0 fit.few fit.each ps.1 }

  presented_parts : (r : Reading E) → HasFitParts K r → IsPresented K r
  presented_parts r parts =
      let laws = heading_laws r.head parts.heading in
      let ideal = list_of r.head parts.heading r.ideal parts.ideal in
      let generators = list_of r.head parts.heading r.generators parts.generators in
      record {
        heading = parts.heading;
        ideal = ideal;
        generators = generators;
        presentation = canonical_presentation K (order_of_head r.head) F laws ideal.polys generators.polys ideal.canonical generators.canonical;
        degrees = letter_degrees K F (order_of_head r.head) laws generators.polys generators.canonical.each;
      }

module _ {F E : Type 0} (ops : F → FieldOps E) (of_size : ℕ → FieldOps E) (any : Reading E → AnyReading) (kind : IsKind ops of_size any) where
  parts_of : (last : ℕ) (ls : List Line) (r : Reading E) → reading_of is_size last ls ≡ Ok (any r) → HasFitParts (of_size r.head.size) r
  unfolding reading_of
  parts_of last ls r e =
      let h = step_ok (head is_size last ls) _ (any r) e in
      let heading = head_read last ls h.0 h.1 in
      let over = kind.was last h.0.0 h.0.1 r heading.size h.2 in
      let parts = over_parts (of_size h.0.0.size) over.0 last h.0.0 h.0.1 r heading over.1 in
      subst (λ (x : Head). HasFitParts (of_size x.size) r) (sym parts.0) parts.1

  pub read_presented : (text : List ℕ) (r : Reading E) → reading text ≡ Ok (any r) → IsPresented (of_size r.head.size) r
  read_presented text r e = let parts = parts_of (end_line text) (content text) r e in presented_parts (of_size r.head.size) parts.laws r parts

-- ---- what is made of the reading is that

module _ {F E : Type 0} (ops : F → FieldOps E) (r : Reading E) (p : Presentation F WeightOrder E) (from : IsFromReading ops r p) (parts : HasFitParts (ops p.field) r) where
  same_order : order_of_head r.head ≡ weight_order_of p.order
  same_order = let w = from.weights in let r = from.rows in let t = from.tie in cc

  laws : IsMonomialOrder (weight_order_of p.order)
  laws = weight_laws p.order.weights.items p.order.rows.items p.order.tie p.order.weights_in_range

  list_in : (sums ps : List (Polynomial E)) → AreFit (ops p.field) r.head sums → AreSums (ops p.field) (weight_order_of p.order) sums ps → IsCanonicalList (ops p.field) (weight_order_of p.order) ps
  list_in sums ps fit same =
      let each : AllByRecursion (IsFit (ops p.field) (weight_order_of p.order)) sums = subst (λ (O : MonomialOrder). AllByRecursion (IsFit (ops p.field) O) sums) same_order fit.each in
      canonical_list (ops p.field) parts.laws (weight_order_of p.order) laws sums ps fit.few each same

  named : AreNames (weight_order_of p.order).places p.names
  named =
      let list : IsNameList (length p.order.weights.items) r.head.names = subst (λ (ws : List ℕ). IsNameList (length ws) r.head.names) (sym from.weights) parts.heading.names in
      subst (λ (names : Names). AreNames (length p.order.weights.items) names) (sym from.names) list

  valid_parts : IsValid ops weight_order_of p
  valid_parts =
      let ideal = list_in r.ideal p.ideal.items parts.ideal from.ideal in
      let generators = list_in r.generators p.generators.items parts.generators from.generators in
      record {
        presentation = canonical_presentation (ops p.field) (weight_order_of p.order) parts.laws laws p.ideal.items p.generators.items ideal generators;
        names = named;
        ideal = ideal;
        generators = generators;
        no_x = from.no_x;
        degrees = from.degrees;
      }

module _ {F E : Type 0} (ops : F → FieldOps E) (of_size : ℕ → FieldOps E) (any : Reading E → AnyReading) (kind : IsKind ops of_size any) where
  pub read_from : (text : List ℕ) (r : Reading E) (p : Presentation F WeightOrder E) → reading text ≡ Ok (any r) → IsFromReading ops r p → IsReadIn ops (λ r. reading text ≡ Ok (any r)) p
  read_from text r p e from =
      let over : of_size r.head.size ≡ ops p.field = ap of_size (sym from.field) ∙ kind.field p.field in
      let parts : HasFitParts (ops p.field) r = subst (λ (K : FieldOps E). HasFitParts K r) over (parts_of ops of_size any kind (end_line text) (content text) r e) in
      record {
        present = r;
        reading = e;
        field = from.field;
        names = from.names;
        weights = from.weights;
        rows = from.rows;
        tie = from.tie;
        ideal = from.ideal;
        generators = from.generators;
        valid = valid_parts ops r p from parts;
      }

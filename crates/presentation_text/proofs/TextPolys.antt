-- The lines of the polynomials of a canonical text are read.
use Rattle.std.proofs.Common.{◌≡◌, ℕ, suc, ◌≤◌, ◌^◌, true, false, List, [], ◌∷◌, ◌++◌, length, Ok, refl, ◌∙◌, append_assoc}
use Rattle.word_field.specs.Field.{FieldOps, IsField}
use Rattle.monomial_order.specs.MonomialOrder.{MonomialOrder, IsMonomialOrder}
use Rattle.monomial_order.specs.Ranges.{all_between, are_rows}
use Rattle.polynomials.specs.Polynomial.{Polynomial, Same}
use Rattle.poly_core.specs.Names.{IsNameList}
use Rattle.poly_core.specs.declared.place_names.Names.TheVariants.{Listed}
use Rattle.poly_core.specs.Presentation.{IsCanonicalGenerator, AreCanonicalGenerators}
use Rattle.poly_core.specs.Text.{poly_text}
use Rattle.poly_core.specs.laws.Text.{decreasing_named}
use Rattle.presentation_text.specs.declared.text_kind.TextKind.{TextKind}
use Rattle.polynomial_text.specs.Bytes.{is_skipped}
use Rattle.polynomial_text.specs.Degrees.{IsLow}
use Rattle.polynomial_text.specs.PolyLine.{terms_of}
use Rattle.polynomial_text.specs.laws.Names.{names_differ}
use Rattle.presentation_text.specs.Heading.{is_size, rows_max, weight_max}
use Rattle.presentation_text.specs.Lines.{lines, content_lines}
use Rattle.presentation_text.specs.Judging.{judged}
use Rattle.presentation_text.specs.Reading.{Head, order_of_head, several, poly_line}
use Rattle.presentation_text.specs.PresentationText.{line, poly_lines}
use Rattle.presentation_text.specs.Meaning.{AreSums}
use Rattle.polynomial_text.specs.laws.CanonicalPoly.{canonical_terms, canonical_line, canonical_not_skipped}
use Rattle.presentation_text.proofs.Judged.{judged_generator, generator_low}
use Rattle.presentation_text.proofs.PolyLines.{in_text_ok}
use Rattle.presentation_text.proofs.TextLines.{IsOneLine, next_line}

-- ---- lines

-- what makes a heading sound
pub record IsSound (h : Head) : Type 0 where
  pub size : is_size h.size ≡ true
  pub weights : all_between 1 weight_max h.weights ≡ true
  pub few : length h.rows ≤ rows_max
  pub rows : are_rows (length h.weights) h.rows ≡ true
  pub order : IsMonomialOrder (order_of_head h)
  pub names : IsNameList (order_of_head h).places h.names

module _ {E : Type 0} (field : FieldOps E) (laws : IsField field) (few : field.size ≤ 2 ^ 32) (h : Head) (S : IsSound h) where
  abbrev order : MonomialOrder
  order = order_of_head h

  -- the line of a generator
  record IsPolyLine (constant : TextKind) (f ts : Polynomial E) : Type 0 where
    read : poly_line field h constant (poly_text field (Listed h.names) f) ≡ Ok ts
    sum : Same field f ts
    one : IsOneLine (poly_text field (Listed h.names) f)
    content : is_skipped (poly_text field (Listed h.names) f) ≡ false

  poly_back : (constant : TextKind) (f : Polynomial E) → IsCanonicalGenerator field order f → (ts : Polynomial E) × IsPolyLine constant f ts
  unfolding poly_line
  poly_back constant f g =
      let different = names_differ order.places (Listed h.names) S.names in
      let named = decreasing_named field order (Listed h.names) S.names f g.canonical.decreasing in
      let small : IsLow order f = generator_low field laws order S.order f g.canonical g in
      let ts = canonical_terms field laws few order S.order (Listed h.names) different f g.canonical named small in
      let judge : judged field order constant ts.0 ≡ Ok ts.0 = judged_generator field laws order S.order ts.0 f ts.2 constant g in (
        ts.0,
        record {
          read = rw (in_text_ok (terms_of field order (Listed h.names) (poly_text field (Listed h.names) f)) ts.0 ts.1) judge;
          sum = ts.2;
          one = canonical_line field laws few order S.order (Listed h.names) different f g.canonical named small;
          content = canonical_not_skipped field laws few order S.order (Listed h.names) different f g.canonical named small;
        },
      )

  -- the lines of generators
  pub polys_back : (constant : TextKind) (last n : ℕ) (fs : List (Polynomial E)) (rest : List ℕ) → AreCanonicalGenerators field order fs →
      (sums : List (Polynomial E)) × (k : ℕ)
      × (several last (poly_line field h constant) (length fs) (content_lines n (lines (poly_lines field h.names fs ++ rest))) ≡ Ok (sums, content_lines k (lines rest)))
      × AreSums field order sums fs
  unfolding several
  polys_back constant last n [] rest g = ([], n, refl, tt)
  polys_back constant last n (f ∷ fs) rest g =
      let text : List ℕ = poly_text field (Listed h.names) f in
      let more : List ℕ = poly_lines field h.names fs ++ rest in
      let first = poly_back constant f g.0 in
      let others = polys_back constant last (suc n) fs rest g.1 in
      let regroup : poly_lines field h.names (f ∷ fs) ++ rest ≡ text ++ 10 ∷ more =
      append_assoc (line text []) (poly_lines field h.names fs) rest ∙ append_assoc text (10 ∷ []) more in
      let one = next_line last n (poly_line field h constant) first.0 text more first.1.one first.1.content first.1.read in
      (first.0 ∷ others.0, others.1, rw (regroup, one, others.2) refl, (first.1.sum, g.0.canonical, others.3))

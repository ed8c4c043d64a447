-- The canonical text of a presentation is read as the presentation.
use Rattle.std.proofs.Common.{◌≡◌, ℕ, suc, ◌<◌, ◌≤◌, ◌^◌, Bool, true, not, leb, eqb, ◌&&◌, List, [], ◌∷◌, ◌++◌, length, map, Result, Ok, refl, sym, ap, subst, ◌∙◌, arith}
use Rattle.std.specs.Prelude.{codes}
use Rattle.std.specs.List.{AllByRecursion, list_all}
use Rattle.std.specs.Fmt.{decimal}
use Rattle.std.proofs.lemmas.Bool.{and_parts, leb-true, not-true}
use Rattle.std.proofs.lemmas.List.Elements.{recursion_from_All}
use Rattle.word_field.specs.Field.{FieldOps, IsField}
use Rattle.monomial_order.specs.declared.weight_order.WeightOrder.{WeightOrder}
use Rattle.monomial_order.specs.Ranges.{are_rows}
use Rattle.monomial_order.specs.laws.Ties.{weight_laws}
use Rattle.poly_core.specs.declared.place_names.Names.TheVariants.{Listed}
use Rattle.poly_core.specs.declared.presentations.Presentation.{Presentation}
use Rattle.poly_core.specs.Names.{AreNames, IsName}
use Rattle.poly_core.specs.Presentation.{IsCanonicalList, IsValid, weight_order_of}
use Rattle.presentation_text.specs.declared.text_kind.TextKind.{TextKind}
use Rattle.presentation_text.specs.declared.text_kind.TextKind.TheVariants.{UnitIdeal, ConstantGenerator}
use Rattle.presentation_text.specs.Lines.{lines, content_lines, end_line}
use Rattle.presentation_text.specs.Heading.{is_size, count_max, weight_max, header_line, field_line, vars_line, weights_line, order_line, count_line, closing_line}
use Rattle.presentation_text.specs.Reading.{Line, Head, Reading, AnyReading, order_of_head, next, several, head, poly_line, counted, ended, reading_over, reading_behind, reading_of, reading_with, reading}
use Rattle.polynomial_text.specs.Results.{◌>>=◌}
use Rattle.presentation_text.specs.Kinds.{Fault}
use Rattle.presentation_text.specs.PresentationText.{line, poly_lines}
use Rattle.presentation_text.specs.Meaning.{AreSums, IsTextOf, IsReadIn}
use Rattle.presentation_text.proofs.TextLines.{no_more}
use Rattle.presentation_text.proofs.TextTokens.{IsToken, Begins, next_tokens}
use Rattle.presentation_text.proofs.TextNumbers.{decimal_token, between_tokens}
use Rattle.presentation_text.proofs.TextHeading.{row_line, size_small, names_tokens, row_line_tokens, reads_header, reads_field, reads_vars, reads_weights, reads_order, reads_count, reads_end}
use Rattle.presentation_text.proofs.FieldKinds.{IsKind}
use Rattle.presentation_text.proofs.TextPolys.{IsSound, polys_back}
use Rattle.polynomials.specs.Polynomial.{Polynomial}

-- ---- tokens that are keys

visible : (w : List ℕ) → list_all (leb 33) w ≡ true → AllByRecursion (λ b. 33 ≤ b) w
visible [] h = tt
visible (b ∷ w) h = let p = and_parts (leb 33 b) (list_all (leb 33) w) h in (leb-true 33 b p.0, visible w p.1)

key : (w : List ℕ) → (not (eqb (length w) 0) && list_all (leb 33) w) ≡ true → IsToken w
key w h = let p = and_parts (not (eqb (length w) 0)) (list_all (leb 33) w) h in record { some = not-true (eqb (length w) 0) p.0; visible = visible w p.1 }

-- ---- the lines of the heading

count_back : (token : List ℕ) (k last n : ℕ) (rest : List ℕ) → Begins token → IsToken token → k ≤ count_max → next last (count_line token) (content_lines n (lines (line token (decimal k ∷ []) ++ rest))) ≡ Ok (k, content_lines (suc n) (lines rest))
count_back token k last n rest b w few =
    next_tokens last n (count_line token) k token (decimal k ∷ []) rest b w (decimal_token k (omega arith), tt) (λ l. reads_count token k l few)

head_steps : (known : ℕ → Bool) (last : ℕ) (l0 l1 l2 l3 l4 l5 : List Line) (h : Head) →
    next last header_line l0 ≡ Ok ([], l1) → next last (field_line known) l1 ≡ Ok (h.size, l2) → next last vars_line l2 ≡ Ok (h.names, l3) →
    next last (weights_line (length h.names)) l3 ≡ Ok (h.weights, l4) → next last (order_line (length h.names)) l4 ≡ Ok ((h.rows, h.tie), l5) → head known last l0 ≡ Ok (h, l5)
unfolding head
head_steps known last l0 l1 l2 l3 l4 l5 h a b c d e = rw (a, b, c, d, e) refl

-- the lines of the heading, and those behind them
heading : Head → List ℕ → List ℕ
heading h rest =
    line (codes "subalgebra") (codes "1" ∷ []) ++ (line (codes "field") (decimal h.size ∷ []) ++
    (line (codes "vars") h.names ++ (line (codes "weights") (map decimal h.weights) ++
    (line (codes "order") (row_line h.rows h.tie) ++ rest))))

head_back : (known : ℕ → Bool) (h : Head) → IsSound h → known h.size ≡ true → (last : ℕ) (rest : List ℕ) → head known last (content_lines 1 (lines (heading h rest))) ≡ Ok (h, content_lines 6 (lines rest))
unfolding heading
head_back known h s is_known last rest =
    let order : List ℕ = line (codes "order") (row_line h.rows h.tie) ++ rest in
    let weights : List ℕ = line (codes "weights") (map decimal h.weights) ++ order in
    let vars : List ℕ = line (codes "vars") h.names ++ weights in
    let field : List ℕ = line (codes "field") (decimal h.size ∷ []) ++ vars in
    let small = size_small h.size s.size in
    let places : length h.names ≡ length h.weights = s.names.each_place in
    let rows : are_rows (length h.names) h.rows ≡ true = ap (λ (n : ℕ). are_rows n h.rows) places ∙ s.rows in
    head_steps known last (content_lines 1 (lines (heading h rest))) (content_lines 2 (lines field)) (content_lines 3 (lines vars)) (content_lines 4 (lines weights)) (content_lines 5 (lines order)) (content_lines 6 (lines rest)) h
    (next_tokens last 1 header_line [] (codes "subalgebra") (codes "1" ∷ []) field (omega arith) (key (codes "subalgebra") refl) (key (codes "1") refl, tt) reads_header)
    (next_tokens last 2 (field_line known) h.size (codes "field") (decimal h.size ∷ []) vars (omega arith) (key (codes "field") refl) (decimal_token h.size small, tt) (λ l. reads_field known h.size l small is_known))
    (next_tokens last 3 vars_line h.names (codes "vars") h.names weights (omega arith) (key (codes "vars") refl) (names_tokens h.names (recursion_from_All IsName h.names s.names.each)) (λ l. reads_vars (length h.weights) h.names l s.names))
    (next_tokens last 4 (weights_line (length h.names)) h.weights (codes "weights") (map decimal h.weights) order (omega arith) (key (codes "weights") refl) (between_tokens 1 weight_max h.weights (omega arith) s.weights)
    (λ l. reads_weights (length h.names) h.weights l (sym places) s.weights))
    (next_tokens last 5 (order_line (length h.names)) (h.rows, h.tie) (codes "order") (row_line h.rows h.tie) rest (omega arith) (key (codes "order") refl) (row_line_tokens (length h.names) h.rows h.tie rows) (λ l. reads_order (length h.names) h.rows h.tie l s.few rows))

-- ---- the lists

module _ {E : Type 0} (K : FieldOps E) where
  counted_steps : (last : ℕ) (h : Head) (token : List ℕ) (constant : TextKind) (l0 l1 l2 : List Line) (k : ℕ) (sums : List (Polynomial E)) →
      next last (count_line token) l0 ≡ Ok (k, l1) → several last (poly_line K h constant) k l1 ≡ Ok (sums, l2) → counted K last h token constant l0 ≡ Ok (sums, l2)
  unfolding counted
  counted_steps last h token constant l0 l1 l2 k sums a b = rw (a, b) refl

  -- the lines of a list, and those behind them
  listing : Head → List ℕ → List (Polynomial E) → List ℕ → List ℕ
  listing h token fs rest = line token (decimal (length fs) ∷ []) ++ (poly_lines K h.names fs ++ rest)

  reading_steps : (last : ℕ) (l0 l1 l2 l3 : List Line) (h : Head) (ideal generators : List (Polynomial E)) →
      counted K last h (codes "ideal") UnitIdeal l1 ≡ Ok (ideal, l2) →
      counted K last h (codes "generators") ConstantGenerator l2 ≡ Ok (generators, l3) → ended last l3 ≡ Ok [] →
      reading_over K last h l1 ≡ Ok record { head = h; ideal = ideal; generators = generators }
  unfolding reading_over
  reading_steps last l0 l1 l2 l3 h ideal generators b c d = rw (b, c, d) refl

  -- what is behind the heading
  lists_text : Head → List (Polynomial E) → List (Polynomial E) → List ℕ
  lists_text h ideal generators = listing h (codes "ideal") ideal (listing h (codes "generators") generators (line (codes "end") []))

  text_of : Head → List (Polynomial E) → List (Polynomial E) → List ℕ
  text_of h ideal generators = heading h (lists_text h ideal generators)

-- ---- the end

ended_steps : (last : ℕ) (l0 : List Line) → next last closing_line l0 ≡ Ok ([], []) → ended last l0 ≡ Ok []
unfolding ended
ended_steps last l0 a = rw a refl

ended_back : (last n : ℕ) → ended last (content_lines n (lines (line (codes "end") []))) ≡ Ok []
ended_back last n =
    let one = next_tokens last n closing_line [] (codes "end") [] [] (omega arith) (key (codes "end") refl) tt reads_end in
    ended_steps last (content_lines n (lines (line (codes "end") []))) (one ∙ ap (λ (l : List Line). Ok ([], l)) (no_more (suc n)))

-- ---- the whole

module _ {E : Type 0} (K : FieldOps E) (laws : IsField K) (few : K.size ≤ 2 ^ 32) (h : Head) (s : IsSound h) where
  counted_back : (token : List ℕ) (constant : TextKind) (last n : ℕ) (fs : List (Polynomial E)) (rest : List ℕ) → Begins token → IsToken token → IsCanonicalList K (order_of_head h) fs →
      (sums : List (Polynomial E)) × (k : ℕ)
      × (counted K last h token constant (content_lines n (lines (listing K h token fs rest))) ≡ Ok (sums, content_lines k (lines rest)))
      × AreSums K (order_of_head h) sums fs
  unfolding listing
  counted_back token constant last n fs rest b w g =
      let more : List ℕ = poly_lines K h.names fs ++ rest in
      let polys = polys_back K laws few h s constant last (suc n) fs rest g.each in (
        polys.0,
        polys.1,
        counted_steps K last h token constant (content_lines n (lines (listing K h token fs rest))) (content_lines (suc n) (lines more)) (content_lines polys.1 (lines rest)) (length fs) polys.0
            (count_back token (length fs) last n more b w g.few) polys.2,
        polys.3,
      )

  -- what the lines behind the heading are read as
  lists_back : (last n : ℕ) (ideal generators : List (Polynomial E)) → IsCanonicalList K (order_of_head h) ideal → IsCanonicalList K (order_of_head h) generators →
      (is : List (Polynomial E)) × (gs : List (Polynomial E))
      × (reading_over K last h (content_lines n (lines (lists_text K h ideal generators))) ≡ Ok record { head = h; ideal = is; generators = gs })
      × AreSums K (order_of_head h) is ideal × AreSums K (order_of_head h) gs generators
  unfolding lists_text
  lists_back last n ideal generators hi hg =
      let end : List ℕ = line (codes "end") [] in
      let behind : List ℕ = listing K h (codes "generators") generators end in
      let first = counted_back (codes "ideal") UnitIdeal last n ideal behind (omega arith) (key (codes "ideal") refl) hi in
      let second = counted_back (codes "generators") ConstantGenerator last first.1 generators end (omega arith) (key (codes "generators") refl) hg in (
        first.0,
        second.0,
        reading_steps K last (content_lines n (lines (listing K h (codes "ideal") ideal behind))) (content_lines n (lines (listing K h (codes "ideal") ideal behind))) (content_lines first.1 (lines behind)) (content_lines second.1 (lines end)) h first.0 second.0
            first.2 second.2 (ended_back last second.1),
        first.3,
        second.3,
      )

reading_behind_head : (known : ℕ → Bool) (last : ℕ) (l0 l1 : List Line) (h : Head) → head known last l0 ≡ Ok (h, l1) → reading_of known last l0 ≡ reading_behind last h l1
unfolding reading_of
reading_behind_head known last l0 l1 h e = rw e refl

-- ---- presentations

module _ {F E : Type 0} (ops : F → FieldOps E) (of_size : ℕ → FieldOps E) (any : Reading E → AnyReading) (kind : IsKind ops of_size any) where
  -- the heading of a presentation
  head_of : Presentation F WeightOrder E → List (List ℕ) → Head
  head_of p names = record { size = (ops p.field).size; names = names; weights = p.order.weights.items; rows = p.order.rows.items; tie = p.order.tie }

  sound : (p : Presentation F WeightOrder E) (names : List (List ℕ)) → p.names ≡ Listed names → IsValid ops weight_order_of p → IsSound (head_of p names)
  unfolding head_of
  sound p names e valid = record {
    size = kind.known p.field;
    weights = p.order.weights_in_range;
    few = p.order.few_rows;
    rows = p.order.rows_in_range;
    order = weight_laws p.order.weights.items p.order.rows.items p.order.tie p.order.weights_in_range;
    names = subst (AreNames (weight_order_of p.order).places) e valid.names;
  }

  -- with every test that knows the size of the field
  pub presentation_read_with : (known : ℕ → Bool) (p : Presentation F WeightOrder E) (text : List ℕ) → known (ops p.field).size ≡ true → IsValid ops weight_order_of p → IsTextOf ops p text →
      IsReadIn ops (λ r. reading_with known text ≡ Ok (any r)) p
  unfolding head_of text_of lists_text heading listing
  presentation_read_with known p text is_known valid is =
      let K : FieldOps E = ops p.field in
      let h : Head = head_of p is.0 in
      let s : IsSound h = sound p is.0 is.1 valid in
      let small : K.size < 100000 = size_small K.size (kind.known p.field) in
      let whole : List ℕ = text_of K h p.ideal.items p.generators.items in
      let behind : List Line = content_lines 6 (lines (lists_text K h p.ideal.items p.generators.items)) in
      let all = lists_back K (kind.laws p.field) (omega arith) h s (end_line whole) 6 p.ideal.items p.generators.items valid.ideal valid.generators in
      let first : reading_of known (end_line whole) (content_lines 1 (lines whole)) ≡ reading_behind (end_line whole) h behind =
      reading_behind_head known (end_line whole) (content_lines 1 (lines whole)) behind h (head_back known h s is_known (end_line whole) (lists_text K h p.ideal.items p.generators.items)) in
      let second : reading_behind (end_line whole) h behind ≡ Ok (any (record { head = h; ideal = all.0; generators = all.1 })) =
      kind.behind p.field (end_line whole) h behind refl ∙ ap (λ (x : Result (Reading E) Fault). x >>= λ r. Ok (any r)) all.2 in
      record {
        present = record { head = h; ideal = all.0; generators = all.1 };
        reading = ap (reading_with known) is.2 ∙ first ∙ second;
        field = refl;
        names = is.1;
        weights = refl;
        rows = refl;
        tie = refl;
        ideal = all.3;
        generators = all.4;
        valid = valid;
      }

  pub presentation_read : (p : Presentation F WeightOrder E) (text : List ℕ) → IsValid ops weight_order_of p → IsTextOf ops p text → IsReadIn ops (λ r. reading text ≡ Ok (any r)) p
  presentation_read p text valid is = presentation_read_with is_size p text (kind.known p.field) valid is

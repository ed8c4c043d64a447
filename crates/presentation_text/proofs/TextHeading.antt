-- The lines of the heading of a canonical text are read.
use Rattle.std.proofs.Common.{◌≡◌, ℕ, zero, suc, ◌<◌, ◌≤◌, Bool, ⊎_elim, true, false, leb, eqb, ◌&&◌, List, [], ◌∷◌, ◌++◌, length, map, Some, Ok, refl, sym, ap, subst, ◌∙◌, arith, append_assoc, length-append}
use Rattle.std.specs.Prelude.{codes}
use Rattle.std.specs.List.{AllByRecursion, list_all, flat_map}
use Rattle.std.specs.Fmt.{decimal}
use Rattle.std.proofs.lemmas.Bool.{and_parts, or_cases, eqb-true, le-leb}
use Rattle.std.proofs.lemmas.Slice.Eq.{bytes_eq-Decides}
use Rattle.std.proofs.lemmas.List.{append-nil}
use Rattle.std.proofs.lemmas.List.Elements.{recursion_from_All}
use Rattle.word_field.specs.Residues.{is_listed}
use Rattle.ext_field.specs.PairField.{is_pair_size}
use Rattle.monomial_order.specs.Ranges.{all_between, are_rows}
use Rattle.monomial_order.specs.declared.tie_break.Tie.{Tie}
use Rattle.monomial_order.specs.declared.tie_break.Tie.TheVariants.{Lex, RevLex}
use Rattle.poly_core.specs.Names.{is_letter, is_name_byte, IsName, IsNameList}
use Rattle.presentation_text.specs.Lines.{tokens}
use Rattle.presentation_text.specs.Heading.{count_max, entry_max, name_max, names_max, rows_max, weight_max, numbers_first, behind_key, header, size, is_size, is_name, names_of, weights_of, tie_of, tie_alone, row_at, rows_of, order_of, count_of, closing, header_line, field_line, vars_line, weights_line, order_line, count_line, closing_line}
use Rattle.presentation_text.specs.PresentationText.{row_tokens, tie_token}
use Rattle.presentation_text.proofs.NameTokens.{different}
use Rattle.presentation_text.proofs.TextTokens.{IsToken, not_equal}
use Rattle.polynomial_text.specs.laws.CanonicalParts.{each_append}
use Rattle.presentation_text.proofs.TextNumbers.{decimal_number, decimal_within, between_first, between_tokens}

pub reads_header : (l : List ℕ) → tokens l ≡ codes "subalgebra" ∷ (codes "1" ∷ []) → header_line l ≡ Ok []
unfolding header behind_key
reads_header l e = rw e refl

listed_small : (p : ℕ) → is_listed p ≡ true → p < 100000
listed_small p e = grind arith

pair_size_small : (p : ℕ) → is_pair_size p ≡ true → p < 100000
pair_size_small p e = grind arith

pub size_small : (p : ℕ) → is_size p ≡ true → p < 100000
size_small p e = ⊎_elim (listed_small p) (pair_size_small p) (or_cases (is_listed p) (is_pair_size p) e)

pub reads_field : (known : ℕ → Bool) (p : ℕ) (l : List ℕ) → p < 100000 → known p ≡ true → tokens l ≡ codes "field" ∷ (decimal p ∷ []) → field_line known l ≡ Ok p
unfolding size behind_key
reads_field known p l small h e = rw (e, decimal_number p small, h) refl

-- ---- names

pub names_pass : (names : List (List ℕ)) → AllByRecursion IsName names → list_all is_name names ≡ true
names_pass [] h = refl
names_pass (n ∷ names) h = rw (h.0.form, le-leb (length n) name_max h.0.short) (names_pass names h.1)

letter_visible : (b : ℕ) → is_letter b ≡ true → 48 ≤ b
letter_visible b h = grind arith

name_byte_visible : (b : ℕ) → is_name_byte b ≡ true → 48 ≤ b
name_byte_visible b h = grind arith

name_bytes_visible : (bytes : List ℕ) → list_all is_name_byte bytes ≡ true → AllByRecursion (λ b. 33 ≤ b) bytes
name_bytes_visible [] h = tt
name_bytes_visible (b ∷ bytes) h =
    let p = and_parts (is_name_byte b) (list_all is_name_byte bytes) h in
    (let low = name_byte_visible b p.0 in omega arith, name_bytes_visible bytes p.1)

name_token : (name : List ℕ) → IsName name → IsToken name
name_token [] h = absurd (let f = h.form in cc)
name_token (b ∷ bytes) h =
    let p = and_parts (is_letter b) (list_all is_name_byte bytes) h.form in
    record { some = not_equal (length (b ∷ bytes)) 0 (omega arith); visible = (let low = letter_visible b p.0 in omega arith, name_bytes_visible bytes p.1) }

pub names_tokens : (names : List (List ℕ)) → AllByRecursion IsName names → AllByRecursion IsToken names
names_tokens [] h = tt
names_tokens (n ∷ names) h = (name_token n h.0, names_tokens names h.1)

pub reads_vars : (n : ℕ) (names : List (List ℕ)) (l : List ℕ) → IsNameList n names → tokens l ≡ codes "vars" ∷ names → vars_line l ≡ Ok names
unfolding vars_line names_of behind_key
reads_vars n names l h e =
    let some : leb 1 (length names) ≡ true = le-leb 1 (length names) (omega (arith, h.each_place, h.some)) in
    let few : leb (length names) names_max ≡ true = le-leb (length names) names_max (omega (arith, h.each_place, h.few)) in
    rw (e, some, few, names_pass names (recursion_from_All IsName names h.each), different names h.distinct) refl

-- ---- weights and rows

pub reads_weights : (n : ℕ) (weights : List ℕ) (l : List ℕ) → length weights ≡ n → all_between 1 weight_max weights ≡ true → tokens l ≡ codes "weights" ∷ map decimal weights → weights_line n l ≡ Ok weights
unfolding weights_of behind_key
reads_weights n weights l c h e =
    let taken : numbers_first 1 weight_max n (map decimal weights) ≡ Some (weights, []) =
    ap (numbers_first 1 weight_max n) (sym (append-nil (map decimal weights))) ∙ subst (λ (k : ℕ). numbers_first 1 weight_max k (map decimal weights ++ []) ≡ Some (weights, [])) c (between_first 1 weight_max weights [] (omega arith) h) in
    rw (e, taken) refl

tie_back : (tie : Tie) → tie_alone (tie_token tie ∷ []) ≡ Some ([], tie)
unfolding tie_of
tie_back Lex = refl
tie_back RevLex = refl

-- the tokens of the rows, and the tie behind them
abbrev pub row_line : List (List ℕ) → Tie → List (List ℕ)
row_line rows tie = flat_map row_tokens rows ++ (tie_token tie ∷ [])

row_line_step : (row : List ℕ) (rows : List (List ℕ)) (tie : Tie) → row_line (row ∷ rows) tie ≡ map decimal row ++ (codes ";" ∷ row_line rows tie)
row_line_step row rows tie =
    append_assoc (row_tokens row) (flat_map row_tokens rows) (tie_token tie ∷ []) ∙ append_assoc (map decimal row) (codes ";" ∷ []) (row_line rows tie)

row_back : (row : List ℕ) (rest : List (List ℕ)) → all_between 0 entry_max row ≡ true → row_at (length row) (map decimal row ++ (codes ";" ∷ rest)) ≡ Some (row, rest)
unfolding row_at behind_key
row_back row rest h = rw (between_first 0 entry_max row (codes ";" ∷ rest) (omega arith) h) refl

longer : (ws rest : List (List ℕ)) (w : List ℕ) → 1 ≤ length rest → eqb (length (ws ++ (w ∷ rest))) 1 ≡ false
longer ws rest w h = let l = length-append ws (w ∷ rest) in grind (arith, l)

tie_there : (rows : List (List ℕ)) (tie : Tie) → 1 ≤ length (row_line rows tie)
tie_there rows tie = omega (arith, length-append (flat_map row_tokens rows) (tie_token tie ∷ []))

pub rows_back : (k n : ℕ) (rows : List (List ℕ)) (tie : Tie) → length rows ≤ k → are_rows n rows ≡ true → rows_of n k (row_line rows tie) ≡ Some (rows, tie)
unfolding rows_of
rows_back zero n [] tie l h = tie_back tie
rows_back zero n (row ∷ rows) tie l h = absurd (omega arith)
rows_back (suc k) n [] tie l h = tie_back tie
rows_back (suc k) n (row ∷ rows) tie l h =
    let p = and_parts (eqb (length row) n && all_between 0 entry_max row) (are_rows n rows) h in
    let q = and_parts (eqb (length row) n) (all_between 0 entry_max row) p.0 in
    let c : length row ≡ n = eqb-true (length row) n q.0 in
    let here : row_at n (map decimal row ++ (codes ";" ∷ row_line rows tie)) ≡ Some (row, row_line rows tie) =
    subst (λ (m : ℕ). row_at m (map decimal row ++ (codes ";" ∷ row_line rows tie)) ≡ Some (row, row_line rows tie)) c (row_back row (row_line rows tie) q.1) in
    ap (rows_of n (suc k)) (row_line_step row rows tie) ∙
    rw (longer (map decimal row) (row_line rows tie) (codes ";") (tie_there rows tie), here, rows_back k n rows tie (omega arith) p.1) refl

pub reads_order : (n : ℕ) (rows : List (List ℕ)) (tie : Tie) (l : List ℕ) → length rows ≤ rows_max → are_rows n rows ≡ true → tokens l ≡ codes "order" ∷ row_line rows tie → order_line n l ≡ Ok (rows, tie)
unfolding order_of behind_key
reads_order n rows tie l few h e = rw (e, rows_back rows_max n rows tie few h) refl

tie_is_token : (tie : Tie) → IsToken (tie_token tie)
tie_is_token Lex = record { some = refl; visible = (omega arith, (omega arith, (omega arith, tt))) }
tie_is_token RevLex = record { some = refl; visible = (omega arith, (omega arith, (omega arith, (omega arith, (omega arith, (omega arith, tt)))))) }

pub row_line_tokens : (n : ℕ) (rows : List (List ℕ)) (tie : Tie) → are_rows n rows ≡ true → AllByRecursion IsToken (row_line rows tie)
row_line_tokens n [] tie h = (tie_is_token tie, tt)
row_line_tokens n (row ∷ rows) tie h =
    let p = and_parts (eqb (length row) n && all_between 0 entry_max row) (are_rows n rows) h in
    let q = and_parts (eqb (length row) n) (all_between 0 entry_max row) p.0 in
    let semicolon : IsToken (codes ";") = record { some = refl; visible = (omega arith, tt) } in
    subst (AllByRecursion IsToken) (sym (row_line_step row rows tie))
    (each_append IsToken (map decimal row) (codes ";" ∷ row_line rows tie) (between_tokens 0 entry_max row (omega arith) q.1) (semicolon, row_line_tokens n rows tie p.1))

-- ---- counts, and the end

pub reads_count : (key : List ℕ) (n : ℕ) (l : List ℕ) → n ≤ count_max → tokens l ≡ key ∷ (decimal n ∷ []) → count_line key l ≡ Ok n
unfolding count_of behind_key
reads_count key n l few e = rw (e, (bytes_eq-Decides key key).1 refl, decimal_within 0 count_max n (omega arith) (rw (le-leb 0 n (omega arith), le-leb n count_max few) refl)) refl

pub reads_end : (l : List ℕ) → tokens l ≡ codes "end" ∷ [] → closing_line l ≡ Ok []
unfolding closing behind_key
reads_end l e = rw e refl

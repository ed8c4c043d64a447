-- Weights and rows that were read make an order.
use Rattle.std.proofs.Common.{◌≡◌, ℕ, zero, suc, ◌-◌, ◌≤◌, inl, inr, Bool, true, false, cond, eqb, List, [], ◌∷◌, length, Some, None, Ok, refl, sym, ap, subst, ◌∙◌, arith, unwrap_or}
use Rattle.std.specs.Prelude.{All, codes}
use Rattle.std.specs.List.{AllByRecursion}
use Rattle.std.proofs.lemmas.List.Elements.{All-get_or, All-from_recursion}
use Rattle.std.proofs.lemmas.Option.{slice_get_within, unwrap_or-slice_get}
use Rattle.monomial_order.specs.declared.order_fault.OrderFault.{OrderFault}
use Rattle.monomial_order.specs.declared.order_fault.OrderFault.TheVariants as order_faults
use Rattle.monomial_order.specs.declared.tie_break.Tie.{Tie}
use Rattle.monomial_order.specs.Faults.{IsNth, IsFault, IsWeighing}
use Rattle.poly_core.specs.Names.{IsNameList}
use Rattle.polynomial_text.specs.laws.CanonicalParts.{each_weaker}
use Rattle.presentation_text.specs.declared.text_kind.TextKind.TheVariants.{OrderLine, WeightsLine}
use Rattle.presentation_text.specs.Numbers.{number_within}
use Rattle.presentation_text.specs.Lines.{tokens}
use Rattle.presentation_text.specs.Heading.{◌>>=◌, behind_key, only, number_first, numbers_first, weights_of, weights_line, entry_max, weight_max, tie_of, tie_alone, row_at, rows_of, rows_max, order_of, order_line}
use Rattle.presentation_text.specs.Reading.{Line, next}
use Rattle.presentation_text.proofs.NextLines.{next_was}
use Rattle.presentation_text.proofs.TakenTokens.{bind_some, number_between, or_fault_ok}

-- ---- weights and rows of an order have no fault

all_at : {A : Type 0} (P : A → Type 0) (xs : List A) (i : ℕ) (x : A) → All P xs → IsNth xs i x → P x
all_at P xs i x all nth =
    let lt = slice_get_within xs (i - 1) x nth.here in
    let same = sym (unwrap_or-slice_get xs (i - 1) x) ∙ ap (λ o. unwrap_or o x) nth.here in
    subst P same (All-get_or P xs (i - 1) x lt all)

pub memory_alone : (weights : List ℕ) (rows : List (List ℕ)) (e : OrderFault) → IsWeighing weights rows → IsFault weights rows e → e ≡ order_faults.Memory
memory_alone weights rows order_faults.PlaceCount w (inl none) = absurd (omega (arith, w.places.some, none))
memory_alone weights rows order_faults.PlaceCount w (inr many) = absurd (omega (arith, w.places.few, many))
memory_alone weights rows order_faults.TooManyRows w h = absurd (omega (arith, w.few_rows, h.1))
memory_alone weights rows (order_faults.ZeroWeight i) w h =
    let p = all_at (λ k. 1 ≤ k) weights i h.2.at w.positive h.2.nth in
    absurd (omega (arith, p, h.2.has))
memory_alone weights rows (order_faults.TooHeavy zero i) w h =
    let p = all_at (λ k. k ≤ 64) weights i h.3.at w.light.weights_light h.3.nth in
    absurd (omega (arith, p, h.3.has))
memory_alone weights rows (order_faults.TooHeavy (suc r) i) w h =
    let p = all_at (All (λ k. k ≤ 1000)) rows (suc r) h.3.1.at w.light.rows_light h.3.1.nth in
    let heavy = h.3.1.has in
    let q = All-get_or (λ k. k ≤ 1000) h.3.1.at heavy.0 heavy.1 heavy.2 p in
    absurd (omega (arith, q, heavy.3, heavy.4))
memory_alone weights rows (order_faults.RowLength r) w h = absurd (h.4.has (all_at (λ row. length row ≡ length weights) rows r h.4.at w.whole_rows h.4.nth))
memory_alone weights rows order_faults.Memory w h = refl

-- ---- numbers and rows that were read

first_between : (low high : ℕ) (line : List (List ℕ)) (y : ℕ × List (List ℕ)) → number_first low high line ≡ Some y → (low ≤ y.0) × (y.0 ≤ high)
unfolding number_first
first_between low high [] y h = absurd cc
first_between low high (token ∷ line) y h =
    let number = bind_some (number_within low high token) _ y h in
    let same : (number.0, line) ≡ y = cc in
    subst (λ (z : ℕ × List (List ℕ)). (low ≤ z.0) × (z.0 ≤ high)) same (number_between low high token number.0 number.1)

taken : (low high n : ℕ) (line : List (List ℕ)) (x : List ℕ × List (List ℕ)) → numbers_first low high n line ≡ Some x → (length x.0 ≡ n) × AllByRecursion (λ k. (low ≤ k) × (k ≤ high)) x.0
unfolding numbers_first
taken low high zero line x e = let same : ([], line) ≡ x = cc in subst (λ (y : List ℕ × List (List ℕ)). (length y.0 ≡ 0) × AllByRecursion (λ k. (low ≤ k) × (k ≤ high)) y.0) same (refl, tt)
taken low high (suc n) line x e =
    let first = bind_some (number_first low high line) _ x e in
    let others = bind_some (numbers_first low high n first.0.1) _ x first.2 in
    let same : (first.0.0 ∷ others.0.0, others.0.1) ≡ x = cc in
    let rest = taken low high n first.0.1 others.0 others.1 in
    subst (λ (y : List ℕ × List (List ℕ)). (length y.0 ≡ suc n) × AllByRecursion (λ k. (low ≤ k) × (k ≤ high)) y.0) same
    (ap suc rest.0, (first_between low high line first.0 first.1, rest.1))

-- a row of n entries of at most entry_max
abbrev IsRow : ℕ → List ℕ → Type 0
IsRow n row = (length row ≡ n) × AllByRecursion (λ e. (0 ≤ e) × (e ≤ entry_max)) row

tie_rows : (k n : ℕ) (line : List (List ℕ)) (x : List (List ℕ) × Tie) → tie_alone line ≡ Some x → (length x.0 ≤ k) × AllByRecursion (IsRow n) x.0
tie_rows k n line x e =
    let token = bind_some (only line) _ x e in
    let tie = bind_some (tie_of token.0) _ x token.2 in
    let same : ([], tie.0) ≡ x = cc in
    subst (λ (y : List (List ℕ) × Tie). (length y.0 ≤ k) × AllByRecursion (IsRow n) y.0) same (omega arith, tt)

rows_taken : (n k : ℕ) (line : List (List ℕ)) (x : List (List ℕ) × Tie) → rows_of n k line ≡ Some x → (length x.0 ≤ k) × AllByRecursion (IsRow n) x.0
unfolding rows_of row_at
rows_taken n zero line x e = tie_rows 0 n line x e
rows_taken n (suc k) line x e = by (eqb (length line) 1) (λ rest y. rows_taken n k rest y) e
  where
    by : (b : Bool) → ((rest : List (List ℕ)) (y : List (List ℕ) × Tie) → rows_of n k rest ≡ Some y → (length y.0 ≤ k) × AllByRecursion (IsRow n) y.0) →
        cond b (tie_alone line) (row_at n line >>= λ row. rows_of n k row.1 >>= λ rows. Some (row.0 ∷ rows.0, rows.1)) ≡ Some x → (length x.0 ≤ suc k) × AllByRecursion (IsRow n) x.0
    by true again h = tie_rows (suc k) n line x h
    by false again h =
        let row = bind_some (row_at n line) _ x h in
        let rows = bind_some (rows_of n k row.0.1) _ x row.2 in
        let same : (row.0.0 ∷ rows.0.0, rows.0.1) ≡ x = cc in
        let numbers = bind_some (numbers_first 0 entry_max n line) _ row.0 row.1 in
        let behind = bind_some (behind_key (codes ";") numbers.0.1) _ row.0 numbers.2 in
        let one : (numbers.0.0, behind.0) ≡ row.0 = cc in
        let more = again row.0.1 rows.0 rows.1 in
        subst (λ (y : List (List ℕ) × Tie). (length y.0 ≤ suc k) × AllByRecursion (IsRow n) y.0) same
        (omega (arith, more.0), (subst (λ (z : List ℕ × List (List ℕ)). IsRow n z.0) one (taken 0 entry_max n line numbers.0 numbers.1), more.1))

weights_taken : (n : ℕ) (line : List (List ℕ)) (ws : List ℕ) → weights_of n line ≡ Some ws → (length ws ≡ n) × AllByRecursion (λ k. (1 ≤ k) × (k ≤ weight_max)) ws
unfolding weights_of
weights_taken n line ws e =
    let rest = bind_some (behind_key (codes "weights") line) _ ws e in
    let numbers = bind_some (numbers_first 1 weight_max n rest.0) _ ws rest.2 in
    chosen (eqb (length numbers.0.1) 0) numbers.0.0 (taken 1 weight_max n rest.0 numbers.0 numbers.1) numbers.2
  where
    chosen : (b : Bool) (ns : List ℕ) → (length ns ≡ n) × AllByRecursion (λ k. (1 ≤ k) × (k ≤ weight_max)) ns → cond b (Some ns) None ≡ Some ws → (length ws ≡ n) × AllByRecursion (λ k. (1 ≤ k) × (k ≤ weight_max)) ws
    chosen true ns h is = let same : ns ≡ ws = cc in subst (λ (l : List ℕ). (length l ≡ n) × AllByRecursion (λ k. (1 ≤ k) × (k ≤ weight_max)) l) same h
    chosen false ns h is = absurd cc

each : {A : Type 0} (P Q : A → Type 0) → ((x : A) → P x → Q x) → (xs : List A) → AllByRecursion P xs → All Q xs
each P Q f xs h = All-from_recursion Q xs (each_weaker P Q f xs h)

-- ---- the head

pub weights_read : (n last : ℕ) (ls : List Line) (x : List ℕ × List Line) → next last (weights_line n) ls ≡ Ok x → (length x.0 ≡ n) × AllByRecursion (λ k. (1 ≤ k) × (k ≤ weight_max)) x.0
weights_read n last ls x e =
    let w = next_was (weights_line n) last ls x e in
    weights_taken n (tokens w.0) x.0 (or_fault_ok WeightsLine (weights_of n (tokens w.0)) x.0 w.1)

rows_read : (n last : ℕ) (ls : List Line) (x : (List (List ℕ) × Tie) × List Line) → next last (order_line n) ls ≡ Ok x → (length x.0.0 ≤ rows_max) × AllByRecursion (IsRow n) x.0.0
unfolding order_of
rows_read n last ls x e =
    let w = next_was (order_line n) last ls x e in
    let o = or_fault_ok OrderLine (order_of n (tokens w.0)) x.0 w.1 in
    let rest = bind_some (behind_key (codes "order") (tokens w.0)) _ x.0 o in
    rows_taken n rows_max rest.0 x.0 rest.2

pub weighing : (n last end : ℕ) (l1 l2 l3 l4 : List Line) (names : List (List ℕ)) (weights : List ℕ) (rows : List (List ℕ)) (tie : Tie) → IsNameList n names →
    next last (weights_line n) l1 ≡ Ok (weights, l2) → next end (order_line n) l3 ≡ Ok ((rows, tie), l4) → IsWeighing weights rows
weighing n last end l1 l2 l3 l4 names weights rows tie named first second =
    let w = weights_read n last l1 (weights, l2) first in
    let r = rows_read n end l3 ((rows, tie), l4) second in
    record {
      places = record { some = omega (arith, w.0, named.some); few = omega (arith, w.0, named.few) };
      few_rows = r.0;
      positive = each (λ k. (1 ≤ k) × (k ≤ weight_max)) (λ k. 1 ≤ k) (λ k h. h.0) weights w.1;
      light = record {
        weights_light = each (λ k. (1 ≤ k) × (k ≤ weight_max)) (λ k. k ≤ 64) (λ k h. h.1) weights w.1;
        rows_light = each (IsRow n) (All (λ e. e ≤ 1000)) (λ row h. each (λ e. (0 ≤ e) × (e ≤ entry_max)) (λ e. e ≤ 1000) (λ e k. k.1) row h.1) rows r.1;
      };
      whole_rows = each (IsRow n) (λ row. length row ≡ length weights) (λ row h. h.0 ∙ sym w.0) rows r.1;
    }

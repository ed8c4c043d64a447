-- Names in the line of names.
use Rattle.std.proofs.Common.{◌≡◌, ℕ, zero, suc, ◌+◌, ◌≤◌, Bool, true, false, cond, ltb, leb, not, ◌&&◌, List, [], ◌∷◌, ◌++◌, length, Result, Ok, Err, Option, Some, None, refl, sym, ap, subst, ◌∙◌, arith}
use Rattle.std.specs.Prelude.{Contains}
use Rattle.std.specs.List.{AllByRecursion, IsDistinct, list_any, list_all}
use Rattle.std.specs.Str.{bytes_eq, IsUtf8}
use Rattle.std.proofs.lemmas.List.{append-nil}
use Rattle.std.proofs.Math.Bool.{or-true, and-false}
use Rattle.std.proofs.lemmas.Bool.{and_parts, or_parts, leb-true, not-true}
use Rattle.std.proofs.lemmas.Bool.Decides.{nat_tests}
use Rattle.std.proofs.lemmas.Slice.Eq.{bytes_eq-Decides}
use Rattle.poly_core.specs.Names.{has_name_form}
use Rattle.polynomial_text.specs.laws.Names.{name_is_text}
use Rattle.presentation_text.specs.Heading.{name_max, names_max, is_name, are_different, behind_key, names_of}
use Rattle.polynomial_text.specs.Canonical.{IsLineFaultOf}
use Rattle.polynomial_text.specs.declared.line_fault.LineFault.{LineFault}
use Rattle.polynomial_text.specs.declared.line_fault.LineFault.TheVariants as line_faults
use Rattle.presentation_text.specs.declared.text_kind.TextKind.{TextKind}
use Rattle.presentation_text.specs.declared.text_kind.TextKind.TheVariants.{DuplicateName}
use Rattle.presentation_text.specs.Taking.{are_names, IsRepeated}

pub name_is_utf8 : (name : List ℕ) → is_name name ≡ true → IsUtf8 name
name_is_utf8 name e = name_is_text name (and_parts (has_name_form name) (leb (length name) name_max) e).0

-- ---- the form

pub form_next : (n : ℕ) (tokens rest : List (List ℕ)) (token : List ℕ) → tokens ≡ token ∷ rest → is_name token ≡ true → are_names (n + 1) rest ≡ are_names n tokens
form_next n tokens rest token split name =
    let count : n + length tokens ≡ n + 1 + length rest = omega (arith, ap length split) in
    rw (count, split, name) refl

pub form_bad : (n : ℕ) (tokens rest : List (List ℕ)) (token : List ℕ) → tokens ≡ token ∷ rest → is_name token ≡ false → false ≡ are_names n tokens
form_bad n tokens rest token split other = rw (split, other) (sym (fails (leb 1 (n + suc (length rest))) (leb (n + suc (length rest)) names_max)))
  where
    fails : (a b : Bool) → (a && (b && false)) ≡ false
    fails a b = grind (arith, nat_tests)

pub form_many : (n : ℕ) (tokens rest : List (List ℕ)) (token : List ℕ) → tokens ≡ token ∷ rest → names_max ≤ n → false ≡ are_names n tokens
form_many n tokens rest token split many = grind (arith, nat_tests, ap length split)

pub form_over : (n : ℕ) (tokens : List (List ℕ)) → tokens ≡ [] → n ≤ names_max → ltb 0 n ≡ are_names n tokens
form_over n tokens over few = rw over (grind (arith, nat_tests))

-- ---- different names

contains_any : (names rest : List (List ℕ)) (name : List ℕ) → Contains names name → list_any (bytes_eq name) (names ++ rest) ≡ true
contains_any [] rest name (k, lt, e) = absurd (omega arith)
contains_any (n ∷ names) rest name (zero, lt, e) = let same : bytes_eq name n ≡ true = (bytes_eq-Decides name n).1 (sym e) in rw same refl
contains_any (n ∷ names) rest name (suc k, lt, e) = rw (contains_any names rest name (k, omega arith, e)) (or-true (bytes_eq name n))

has_again : (n name : List ℕ) (names rest : List (List ℕ)) → bytes_eq n name ≡ true → list_any (bytes_eq n) (names ++ name ∷ rest) ≡ true
has_again n name [] rest e = rw e refl
has_again n name (m ∷ names) rest e = rw (has_again n name names rest e) (or-true (bytes_eq n m))

-- a name behind the same name
pub not_different : (names rest : List (List ℕ)) (name : List ℕ) → Contains names name → are_different (names ++ name ∷ rest) ≡ false
not_different [] rest name (k, lt, e) = absurd (omega arith)
not_different (n ∷ names) rest name (zero, lt, e) =
    let same : bytes_eq n name ≡ true = (bytes_eq-Decides n name).1 e in
    rw (has_again n name names rest same) refl
not_different (n ∷ names) rest name (suc k, lt, e) =
    let later = not_different names rest name (k, omega arith, e) in
    rw later (and-false (not (list_any (bytes_eq n) (names ++ name ∷ rest))))

none_same : (n : List ℕ) (names : List (List ℕ)) → AllByRecursion (λ y. bytes_eq n y ≡ false) names → list_any (bytes_eq n) names ≡ false
none_same n [] h = refl
none_same n (m ∷ names) h = rw (h.0, none_same n names h.1) refl

pub different : (names : List (List ℕ)) → IsDistinct bytes_eq names → are_different names ≡ true
unfolding IsDistinct
different [] h = refl
different (n ∷ names) h = rw (none_same n names h.0, different names h.1) refl

any_none : (n : List ℕ) (names : List (List ℕ)) → list_any (bytes_eq n) names ≡ false → AllByRecursion (λ y. bytes_eq n y ≡ false) names
any_none n [] e = tt
any_none n (m ∷ names) e = let h = or_parts (bytes_eq n m) (list_any (bytes_eq n) names) e in (h.0, any_none n names h.1)

pub are_distinct : (names : List (List ℕ)) → are_different names ≡ true → IsDistinct bytes_eq names
unfolding IsDistinct
are_distinct [] e = tt
are_distinct (n ∷ names) e =
    let h = and_parts (not (list_any (bytes_eq n) names)) (are_different names) e in
    (any_none n names (not-true _ h.0), are_distinct names h.1)

-- ---- the table of names

abbrev pub distinct_names : List (List ℕ) → Result (List (List ℕ)) TextKind
distinct_names line = cond (are_different line) (Ok line) (Err DuplicateName)

pub table_stop : (e : LineFault TextKind) (line names tokens rest : List (List ℕ)) (token : List ℕ) → names ++ tokens ≡ line → tokens ≡ token ∷ rest → IsRepeated names token e → IsLineFaultOf (distinct_names line) e
table_stop line_faults.Memory line names tokens rest token whole split repeated = tt
table_stop (line_faults.Kind kind) line names tokens rest token whole split repeated =
    let same : names ++ token ∷ rest ≡ line = ap (λ (l : List (List ℕ)). names ++ l) (sym split) ∙ whole in
    let not_all : are_different line ≡ false = subst (λ (l : List (List ℕ)). are_different l ≡ false) same (not_different names rest token repeated.1) in
    rw (not_all, repeated.0) refl

pub table_whole : (line names tokens : List (List ℕ)) → names ++ tokens ≡ line → tokens ≡ [] → IsDistinct bytes_eq names → distinct_names line ≡ Ok names
table_whole line names tokens whole over distinct =
    let same : names ≡ line = sym (append-nil names) ∙ ap (λ (l : List (List ℕ)). names ++ l) (sym over) ∙ whole in
    let all : are_different line ≡ true = subst (λ (l : List (List ℕ)). are_different l ≡ true) same (different names distinct) in
    rw all (ap (λ (l : List (List ℕ)). Ok l) (sym same))

-- 1 to names_max names
pub record HaveForm (names : List (List ℕ)) : Type 0 where
  pub some : 1 ≤ length names
  pub few : length names ≤ names_max
  pub each : list_all is_name names ≡ true

pub names_form : (line names : List (List ℕ)) → names_of line ≡ Some names → HaveForm names
unfolding names_of
names_form line names e = bound (behind_key (Rattle.std.specs.Prelude.codes "vars") line) names e
  where
    checked : (ns names : List (List ℕ)) (b : Bool) → (leb 1 (length ns) && (leb (length ns) names_max && list_all is_name ns)) ≡ b → cond b (Some ns) None ≡ Some names → HaveForm names
    checked ns names false t h = absurd cc
    checked ns names true t h =
        let same : ns ≡ names = cc in
        let one = and_parts (leb 1 (length ns)) (leb (length ns) names_max && list_all is_name ns) t in
        let two = and_parts (leb (length ns) names_max) (list_all is_name ns) one.1 in
        subst HaveForm same (record { some = leb-true _ _ one.0; few = leb-true _ _ two.0; each = two.1 })

    bound : (r : Option (List (List ℕ))) (names : List (List ℕ)) → Rattle.presentation_text.specs.Heading.◌>>=◌ r (λ ns. cond (leb 1 (length ns) && (leb (length ns) names_max && list_all is_name ns)) (Some ns) None) ≡ Some names → HaveForm names
    bound None names h = absurd cc
    bound (Some ns) names h = checked ns names _ refl h

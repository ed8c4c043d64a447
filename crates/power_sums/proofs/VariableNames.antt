-- The names x1, x2, .. are names of variables, and all different.
use Rattle.std.proofs.Common.{◌≡◌, ℕ, zero, suc, ◌+◌, ◌<◌, ◌≤◌, true, ◌∷◌, refl, sym, subst, ◌∙◌, zero-add, ⊎_elim, arith}
use Rattle.std.specs.Prelude.{Contains}
use Rattle.std.specs.Fmt.{decimal, digits}
use Rattle.std.specs.List.{list_all, range_with_len, IsDistinct}
use Rattle.std.specs.Str.{bytes_eq}
use Rattle.std.proofs.lemmas.Fmt.{decimal_injective, length-decimal-le}
use Rattle.std.proofs.lemmas.List.Elements.{All-map}
use Rattle.std.proofs.lemmas.List.FromFn.{length-range_with_len, get_or-range_with_len, length-map-range_with_len}
use Rattle.std.proofs.lemmas.List.Sums.{AllPass-from_list_all}
use Rattle.monomial_order.specs.laws.Lists.{contains_cases, contains_none, map_contains}
use Rattle.poly_core.specs.Names.{is_name_byte, IsName, IsNameList}
use Rattle.power_sums.specs.PowerSums.{variable_names}

in_range : (a n x : ℕ) → Contains (range_with_len a n) x → x < a + n
in_range a zero x h = absurd (contains_none x h)
in_range a (suc n) x h =
    ⊎_elim (λ e. omega (arith, e)) (λ k. omega (arith, in_range (a + 1) n x k)) (contains_cases a (range_with_len (a + 1) n) x h)

-- the next name is a new one
pub new_name : (k j : ℕ) → k < 32 → j ≡ k + 1 → Contains (variable_names k) (120 ∷ decimal j) → ⊥
new_name k j few next h =
    let x = map_contains (λ i. 120 ∷ decimal i) (range_with_len 1 k) (120 ∷ decimal j) h in
    let low = in_range 1 k x.0 x.1 in
    let text = x.2 in
    let same : decimal x.0 ≡ decimal j = cc in
    let number = decimal_injective x.0 j (omega arith) (omega arith) same in
    absurd (omega arith)

digits_in_names : list_all (λ i. list_all is_name_byte (decimal i)) (range_with_len 0 33) ≡ true
unfolding digits
digits_in_names = refl

variable_name : (i : ℕ) → i < 33 → IsName (120 ∷ decimal i)
variable_name i l = record {
  form =
      let each = AllPass-from_list_all (λ j. list_all is_name_byte (decimal j)) (range_with_len 0 33) digits_in_names in
      subst (λ j. list_all is_name_byte (decimal j) ≡ true) (get_or-range_with_len 0 33 i 0 l ∙ zero-add i) (each i 0 (omega (arith, length-range_with_len 0 33)));
  short = let e = length-decimal-le 2 i (omega arith) (omega arith) (omega arith) in omega arith;
}

pub variable_list : (m : ℕ) → 1 ≤ m → m ≤ 32 → IsDistinct bytes_eq (variable_names m) → IsNameList m (variable_names m)
variable_list m some few distinct = record {
  each_place = length-map-range_with_len (λ i. 120 ∷ decimal i) 1 m;
  some = some;
  few = few;
  distinct = distinct;
  each = All-map IsName (λ i. 120 ∷ decimal i) (range_with_len 1 m) (λ k d l.
      let within : k < m = omega (arith, length-range_with_len 1 m, l) in
      subst (λ n. IsName (120 ∷ decimal n)) (sym (get_or-range_with_len 1 m k d within)) (variable_name (1 + k) (omega arith)));
}

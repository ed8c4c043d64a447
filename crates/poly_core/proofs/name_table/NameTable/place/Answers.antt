use Rattle.std.proofs.Common.{◌≡◌, ◌↔◌, ℕ, false, sym, List, Option, Some, None, IsNone, IfSome, map, rules}
use Rattle.std.specs.Prelude.{Contains, slice_get, is_some}
use Rattle.std.specs.List.{list_any, position}
use Rattle.std.specs.Str.{bytes_eq}
use Rattle.std.specs.String.{string_bytes}
use Rattle.poly_core.proofs.NameLists.{found_at, any_from_contains, contains_from_any}
use Rattle.poly_core.proofs.name_table.NameTable.place.Goals as goal

module _ {A : Type 0} (f : A → List ℕ) where
  found_there : (q : List ℕ) (ks : List A) (r : Option ℕ) → r ≡ position (λ k. bytes_eq q (f k)) ks → IfSome r (λ i. slice_get (map f ks) i ≡ Some q)
  found_there q ks None h = tt
  found_there q ks (Some i) h = found_at f q ks i (sym h)

  none_is_absent : (q : List ℕ) (ks : List A) (r : Option ℕ) → is_some r ≡ list_any (λ k. bytes_eq q (f k)) ks → IsNone r ↔ (Contains (map f ks) q → ⊥)
  none_is_absent q ks None h = (λ _ k. let e = any_from_contains f q ks k in let i : false ≡ list_any (λ k. bytes_eq q (f k)) ks = h in cc, λ _. search rules)
  none_is_absent q ks (Some i) h = (λ n. absurd (search rules), λ n. absurd (n (contains_from_any f q ks (sym h))))

pub returns-clause-at : goal.returns-clause-at
returns-clause-at c = rw (← c.self.view_is) (found_there string_bytes c.args.name.now c.self.inside.names.keys c.get_index_of.result c.get_index_of.ensures.index)

pub returns-clause-absent : goal.returns-clause-absent
returns-clause-absent c = rw (← c.self.view_is) (none_is_absent string_bytes c.args.name.now c.self.inside.names.keys c.get_index_of.result c.get_index_of.ensures.found)

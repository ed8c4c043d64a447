use Rattle.std.proofs.Common.{◌≡◌, ℕ, true, false, refl, sym, ◌∙◌, ap, subst, List, [], ◌∷◌, ◌++◌, map, cond, Result, Ok, Err, Bool, ◌↔◌}
use Rattle.std.specs.Prelude.{IsErr, Contains}
use Rattle.std.specs.List.{list_any}
use Rattle.std.specs.Str.{bytes_eq}
use Rattle.std.specs.String.{string_bytes}
use Rattle.std.proofs.lemmas.List.{map-append}
use Rattle.indexmap.specs.IndexSet.{insert_key}
use Rattle.poly_core.proofs.NameLists.{any_from_contains, contains_from_any, distinct_names}
use Rattle.poly_core.proofs.name_table.NameTable.push.Goals as goal

refused : {C E : Type 0} (r : Result Bool E) → IsErr r → (C → ⊥) → (r ≡ Ok false) ↔ C
refused (Ok b) h n = let e : false ≡ true = h in cc
refused (Err x) h n = (λ e. cc, λ k. absurd (n k))

module _ {A : Type 0} (f : A → List ℕ) where
  added_last : (q : List ℕ) (k : A) (ks : List A) (new : List A) → f k ≡ q → list_any (λ x. bytes_eq q (f x)) ks ≡ false → new ≡ insert_key (λ a b. bytes_eq (f a) (f b)) ks k → map f new ≡ map f ks ++ q ∷ []
  added_last q k ks new e h i =
      let n : list_any (λ x. bytes_eq (f k) (f x)) ks ≡ false = subst (λ p. list_any (λ x. bytes_eq p (f x)) ks ≡ false) (sym e) h in
      let whole : new ≡ ks ++ k ∷ [] = i ∙ ap (λ b. cond b ks (ks ++ k ∷ [])) n in
      ap (map f) whole ∙ (map-append f ks (k ∷ []) ∙ ap (λ p. map f ks ++ p ∷ []) e)

  absent : (q : List ℕ) (ks : List A) → list_any (λ x. bytes_eq q (f x)) ks ≡ false → Contains (map f ks) q → ⊥
  absent q ks n k = let e : true ≡ false = sym (any_from_contains f q ks k) ∙ n in cc

pub returns-then-contains-clause-repeated : goal.returns-then-contains-clause-repeated
returns-then-contains-clause-repeated c =
    rw (← c.self.view_is) (λ _. contains_from_any string_bytes c.args.name.now c.self.inside.names.keys (sym c.contains.ensures ∙ c.if-contains.true), λ _. refl)

pub invariant_of-self-2 : goal.invariant_of-self-2
invariant_of-self-2 c = distinct_names string_bytes c.insert.new.self.keys c.insert.ensures.unique

pub returns-clause-distinct : goal.returns-clause-distinct
returns-clause-distinct c = distinct_names string_bytes c.insert.new.self.keys c.insert.ensures.unique

pub returns-in_err-name-clause-repeated : goal.returns-in_err-name-clause-repeated
returns-in_err-name-clause-repeated c =
    refused c.from_residual.result c.from_residual.ensures.0
    (rw (← c.self.view_is) (absent string_bytes c.args.name.now c.self.inside.names.keys (sym c.contains.ensures ∙ c.if-contains.false)))

pub returns-in_err-insert-clause-repeated : goal.returns-in_err-insert-clause-repeated
returns-in_err-insert-clause-repeated c =
    refused c.from_residual-in_err-insert.result c.from_residual-in_err-insert.ensures.0
    (rw (← c.self.view_is) (absent string_bytes c.args.name.now c.self.inside.names.keys (sym c.contains.ensures ∙ c.if-contains.false)))

pub returns-clause-repeated : goal.returns-clause-repeated
returns-clause-repeated c =
    rw (← c.self.view_is) (λ e. let i : true ≡ false = cc in cc, λ k. absurd (absent string_bytes c.args.name.now c.self.inside.names.keys (sym c.contains.ensures ∙ c.if-contains.false) k))

pub returns-clause-added : goal.returns-clause-added
returns-clause-added c _ =
    rw (← c.self.view_is) (added_last string_bytes c.args.name.now c.in_ok-name.name c.self.inside.names.keys c.insert.new.self.keys c.in_ok-name.ensures.ok (sym c.contains.ensures ∙ c.if-contains.false) c.in_ok-insert.ensures.keys)

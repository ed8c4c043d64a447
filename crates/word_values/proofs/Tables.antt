-- What a table keeps, as a list of words with their values.
use Rattle.std.proofs.Common.{◌≡◌, ℕ, refl, sym, subst, Bor, ◌∙◌, ap, List, [], ◌∷◌, Bool, true, false, cond, ⊎_elim, Option, Some, None}
use Rattle.std.specs.Prelude.{map, nat_eq, IfSome, IsSome, option_copied}
use lib.Pointwise.{pointwise, bytes_decides}
use Rattle.std.specs.Cmp.Lexicographic.{nat_list_eq_equiv}
use Rattle.std.proofs.lemmas.Bool.{cases_Bool, cond-true, cond-false}
use Rattle.std.specs.Map.{lookup, KeepsOthers}

-- looking up in the entries with the words of their keys
pub lookup_map : {K X : Type 0} (f : K → List ℕ) (test : List ℕ → Bool) (es : List (K × X)) → lookup test (map (λ e. (f e.0, e.1)) es) ≡ lookup (λ k. test (f k)) es
lookup_map f test [] = refl
lookup_map f test (e ∷ es) = ap (cond (test (f e.0)) (Some e.1)) (lookup_map f test es)

-- a reference that was found, by what it points to
pub found_value : {V : Type 0} (r : Option (Bor V)) (o : Option V) → option_copied r ≡ o → (Q : V → Type 0) → ((v : V) → o ≡ Some v → Q v) → IfSome r (λ v. Q v.now)
found_value None o e Q h = tt
found_value (Some b) o e Q h = h b.now (sym e)

pub some_found : {V : Type 0} (r : Option (Bor V)) (o : Option V) → option_copied r ≡ o → IsSome o → IsSome r
some_found None o e h = subst IsSome (sym e) h
some_found (Some b) o e h = refl

pub some_back : {V : Type 0} (r : Option (Bor V)) (o : Option V) → option_copied r ≡ o → IsSome r → IsSome o
some_back None o e h = let z : false ≡ true = h in cc
some_back (Some b) o e h = subst IsSome e refl

-- the table after a value is put in it
module _ {K : Type 0} (f : K → List ℕ) where
  abbrev pub same_key : K → K → Bool
  same_key a b = pointwise nat_eq (f a) (f b)

  pub puts : {X : Type 0} (w : List ℕ) (key : K) (old new : List (K × X)) (v : X) → f key ≡ w → lookup (same_key key) new ≡ Some v → KeepsOthers same_key (same_key key) old new →
      (u : List ℕ) → lookup (pointwise nat_eq u) (map (λ e. (f e.0, e.1)) new) ≡ cond (pointwise nat_eq w u) (Some v) (lookup (pointwise nat_eq u) (map (λ e. (f e.0, e.1)) old))
  unfolding KeepsOthers
  puts w key old new v e here others u = ⊎_elim
      (λ y.
      let same : f key ≡ u = e ∙ (bytes_decides w u).0 y in
      lookup_map f (pointwise nat_eq u) new ∙ (ap (λ m. lookup (λ k. pointwise nat_eq m (f k)) new) (sym same) ∙ (here ∙ sym (cond-true (pointwise nat_eq w u) (Some v) _ y))))
      (λ n.
      lookup_map f (pointwise nat_eq u) new ∙
      (others (λ k. pointwise nat_eq u (f k)) (λ x y. nat_list_eq_equiv.congr u (f x) (f y))
      (λ k y. nat_list_eq_equiv.symm u (f k) ∙ (sym (nat_list_eq_equiv.congr (f key) (f k) u y) ∙ (ap (λ m. pointwise nat_eq m u) e ∙ n))) ∙
      (sym (lookup_map f (pointwise nat_eq u) old) ∙ sym (cond-false (pointwise nat_eq w u) (Some v) _ n))))
      (cases_Bool (pointwise nat_eq w u))

pub put_here : {X : Type 0} (w : List ℕ) (v : X) (o o' : Option X) → o' ≡ cond (pointwise nat_eq w w) (Some v) o → IsSome o'
put_here w v o o' e = subst IsSome (sym (e ∙ cond-true (pointwise nat_eq w w) (Some v) o ((bytes_decides w w).1 refl))) refl

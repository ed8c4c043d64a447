-- Members of the parts of lists.
use Rattle.std.proofs.Common.{◌≡◌, ℕ, suc, ◌<◌, ◌≤◌, sym, ◌∙◌, subst, List, [], ◌∷◌, length, take, drop, get_or, arith, drop-cons, ◌⊎◌, inl, inr, ⊎_elim, ◌≢◌, false}
use Rattle.std.specs.Prelude.{Contains}
use Rattle.std.proofs.Math.Seq.{drop-length, take-suc}
use Rattle.std.proofs.lemmas.List.{get_or-take, length-take-le, take-append-drop, take_all}
use Rattle.std.proofs.lemmas.List.Elements.{Contains-append_cases, Contains-append_left, Contains-append_right, Contains-push, Contains-push_cases}
use Rattle.std.specs.Cmp.Lexicographic.{nat_list_eq_equiv}
use Rattle.monomial_order.specs.laws.Lists.{contains_at, contains_cases, contains_none}
use lib.Pointwise.{pointwise}
use lib.Dec.{eqb}

-- a member of the first i + 1 is that at i, or one of the first i
pub take_next : {A : Type 0} (xs : List A) (i : ℕ) (d : A) → i < length xs → (z : A) → Contains (take (suc i) xs) z → (get_or xs i d ≡ z) ⊎ Contains (take i xs) z
take_next xs i d l z h = ⊎_elim (λ c. inr c) (λ e. inl e) (Contains-push_cases (take i xs) (get_or xs i d) z (subst (λ ys. Contains ys z) (take-suc xs i d l) h))

pub take_at : {A : Type 0} (xs : List A) (i : ℕ) (d : A) → i < length xs → Contains (take (suc i) xs) (get_or xs i d)
take_at xs i d l = subst (λ ys. Contains ys (get_or xs i d)) (sym (take-suc xs i d l)) (Contains-push (take i xs) (get_or xs i d))

pub take_more : {A : Type 0} (xs : List A) (i : ℕ) (d : A) → i < length xs → (z : A) → Contains (take i xs) z → Contains (take (suc i) xs) z
take_more xs i d l z h = subst (λ ys. Contains ys z) (sym (take-suc xs i d l)) (Contains-append_left (take i xs) (get_or xs i d ∷ []) z h)

pub take_whole : {A : Type 0} (xs : List A) (i : ℕ) → length xs ≤ i → (z : A) → Contains xs z → Contains (take i xs) z
take_whole xs i l z h = subst (λ ys. Contains ys z) (sym (take_all i xs l)) h

pub contains_take : {A : Type 0} (xs : List A) (i : ℕ) (z : A) → Contains (take i xs) z → Contains xs z
contains_take xs i z h = subst (λ ys. Contains ys z) (take-append-drop i xs) (Contains-append_left (take i xs) (drop i xs) z h)

pub contains_drop : {A : Type 0} (xs : List A) (i : ℕ) (z : A) → Contains (drop i xs) z → Contains xs z
contains_drop xs i z h = subst (λ ys. Contains ys z) (take-append-drop i xs) (Contains-append_right (take i xs) (drop i xs) z h)

pub contains_parts : {A : Type 0} (xs : List A) (i : ℕ) (z : A) → Contains xs z → Contains (take i xs) z ⊎ Contains (drop i xs) z
contains_parts xs i z h = Contains-append_cases (take i xs) (drop i xs) z (subst (λ ys. Contains ys z) (sym (take-append-drop i xs)) h)

pub drop_none : {A : Type 0} (xs : List A) (z : A) → Contains (drop (length xs) xs) z → ⊥
drop_none xs z h = contains_none z (subst (λ ys. Contains ys z) (drop-length xs) h)

-- a member of what follows the first i is that at i, or follows the first i + 1
pub drop_next : {A : Type 0} (xs : List A) (i : ℕ) (d : A) → i < length xs → (z : A) → Contains (drop i xs) z → (get_or xs i d ≡ z) ⊎ Contains (drop (suc i) xs) z
drop_next xs i d l z h = contains_cases (get_or xs i d) (drop (suc i) xs) z (subst (λ ys. Contains ys z) (drop-cons xs i d l) h)

pub take_index : {A : Type 0} (xs : List A) (i : ℕ) (z : A) → i ≤ length xs → Contains (take i xs) z → (j : ℕ) × (j < i) × (get_or xs j z ≡ z)
take_index xs i z l h = let n = length-take-le i xs l in let k = h.1 in let b : h.0 < i = omega arith in (h.0, b, sym (get_or-take i xs h.0 z b) ∙ h.2)

-- the item of a loop over a list
pub item_contained : {A : Type 0} (xs items : List A) (i : ℕ) (x : A) → items ≡ xs → i < length items → x ≡ get_or items i x → Contains xs x
item_contained xs items i x e l q = subst (λ ys. Contains ys x) e (subst (Contains items) (sym q) (contains_at items i x l))

-- words that a test tells apart differ
pub words_differ : (x m : List ℕ) → pointwise eqb x m ≡ false → x ≢ m
words_differ x m h e = let t = nat_list_eq_equiv.refl m in let q : pointwise eqb m m ≡ false = subst (λ y. pointwise eqb y m ≡ false) e h in cc

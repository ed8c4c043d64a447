-- Lists in two parts.
use Rattle.std.proofs.Common.{◌≡◌, ℕ, ◌<◌, refl, sym, ◌∙◌, ap, subst, List, [], ◌∷◌, ◌++◌, get_or, arith}
use Rattle.std.specs.Prelude.{All, Contains}
use Rattle.monomial_order.specs.Monomial.{Exponents}
use Rattle.monomial_order.specs.MonomialOrder.{IsIncreasing, MonomialOrder}
use Rattle.monomial_order.specs.laws.Comparing.{increasing_tail}
use Rattle.monomial_order.specs.laws.Lists.{contains_at, contains_here, contains_left, contains_there}
use Rattle.polynomials.specs.Subalgebra.{AllIn, IsGenerated}

pub contains-All : {A : Type 0} (Q : A → Type 0) (xs : List A) → ((x : A) → Contains xs x → Q x) → All Q xs
contains-All Q xs h i d l = h (get_or xs i d) (contains_at xs i d l)

-- a list has one way to stand in parts by degrees
pub unique_parts : {A : Type 0} (f : A → ℕ) (d : ℕ) (xs ys us vs : List A) → xs ++ ys ≡ us ++ vs → ((x : A) → Contains xs x → f x < d) → ((x : A) → Contains ys x → f x ≡ d) →
    ((x : A) → Contains us x → f x < d) → ((x : A) → Contains vs x → f x ≡ d) → (xs ≡ us) × (ys ≡ vs)
unique_parts f d [] ys [] vs e a b g h = (refl, e)
unique_parts f d [] ys (u ∷ us) vs e a b g h =
    let p = b u (subst (λ zs. Contains zs u) (sym e) (contains_here u (us ++ vs))) in
    let q = g u (contains_here u us) in absurd (omega arith)
unique_parts f d (x ∷ xs) ys [] vs e a b g h =
    let p = h x (subst (λ zs. Contains zs x) e (contains_here x (xs ++ ys))) in
    let q = a x (contains_here x xs) in absurd (omega arith)
unique_parts f d (x ∷ xs) ys (u ∷ us) vs e a b g h =
    let first : x ≡ u = cc in
    let rest : xs ++ ys ≡ us ++ vs = cc in
    let r = unique_parts f d xs ys us vs rest (λ m k. a m (contains_there x xs m k)) b (λ m k. g m (contains_there u us m k)) h in
    (ap (λ z. z ∷ xs) first ∙ ap (λ zs. u ∷ zs) r.0, r.1)

-- products of members of a list are such of a longer list
all_in_more : (M N ms : List Exponents) → AllIn M ms → AllIn (M ++ N) ms
all_in_more M N [] h = tt
all_in_more M N (m ∷ ms) h = (contains_left M N m h.0, all_in_more M N ms h.1)

pub generated_more : (M N : List Exponents) (m : Exponents) → IsGenerated M m → IsGenerated (M ++ N) m
generated_more M N m h = record { factors = h.factors; members = all_in_more M N h.factors h.members; product = h.product }

-- the end of an increasing list is increasing
pub increasing_end : (O : MonomialOrder) (ks ms : List Exponents) → IsIncreasing O (ks ++ ms) → IsIncreasing O ms
increasing_end O [] ms h = h
increasing_end O (k ∷ ks) ms h = increasing_end O ks ms (increasing_tail O k (ks ++ ms) h)

-- The last of increasing monomials has the greatest degree.
use Rattle.std.proofs.Common.{◌≡◌, ℕ, suc, ◌-◌, ◌<◌, ◌≤◌, ◌∙◌, ap, subst, List, [], ◌∷◌, length, arith, ⊎_elim, Some, None}
use Rattle.std.specs.Prelude.{map, slice_get, Contains}
use Rattle.std.proofs.lemmas.List.{length-map}
use Rattle.std.proofs.lemmas.Option.{get_or_from_slice_get, slice_get-get_or, slice_get-map, slice_get_within}
use Rattle.std.specs.Option.{option_map}
use Rattle.monomial_order.specs.Monomial.{Exponents}
use Rattle.monomial_order.specs.MonomialOrder.{IsIncreasing, IsMonomialOrder, MonomialOrder}
use Rattle.monomial_order.specs.laws.Comparing.{degree_falls, increasing_below}
use Rattle.monomial_order.specs.laws.Lists.{contains_cases, contains_none}

-- the member at an index
pub got_contains : {A : Type 0} (xs : List A) (k : ℕ) (x : A) → slice_get xs k ≡ Some x → Contains xs x
got_contains xs k x e = (k, slice_get_within xs k x e, get_or_from_slice_get xs k x x e)

-- a list without a last member is empty
pub no_last : {A : Type 0} (xs : List A) → slice_get xs (length xs - 1) ≡ None → (y : A) → Contains xs y → ⊥
no_last xs e y h =
    let l = h.1 in
    let k : length xs - 1 < length xs = omega arith in
    let s = slice_get-get_or xs (length xs - 1) y k in cc

pub mapped_last : {A B : Type 0} (f : A → B) (xs : List A) (x : A) → slice_get xs (length xs - 1) ≡ Some x →
    slice_get (map f xs) (length (map f xs) - 1) ≡ Some (f x)
mapped_last f xs x e =
    ap (λ n. slice_get (map f xs) (n - 1)) (length-map xs f) ∙ (slice_get-map f xs (length xs - 1) ∙ ap (option_map f) e)

module _ (O : MonomialOrder) (laws : IsMonomialOrder O) where
  pub last_greatest : (ms : List Exponents) (x : Exponents) → IsIncreasing O ms → slice_get ms (length ms - 1) ≡ Some x →
      (y : Exponents) → Contains ms y → O.degree y ≤ O.degree x
  last_greatest [] x h e y k = absurd (contains_none y k)
  last_greatest (m ∷ []) x h e y k =
      let is : m ≡ x = cc in
      ⊎_elim (λ s. let q : O.degree y ≡ O.degree x = ap O.degree (cc) in omega arith) (λ i. absurd (contains_none y i)) (contains_cases m [] y k)
  last_greatest (m ∷ (n ∷ ms)) x h e y k =
      let q : length (m ∷ (n ∷ ms)) - 1 ≡ suc (length (n ∷ ms) - 1) = omega arith in
      let rest : slice_get (n ∷ ms) (length (n ∷ ms) - 1) ≡ Some x = subst (λ i. slice_get (m ∷ (n ∷ ms)) i ≡ Some x) q e in
      ⊎_elim
      (λ s. subst (λ z. O.degree z ≤ O.degree x) s
      (degree_falls O laws m x (increasing_below O laws m (n ∷ ms) h x (got_contains (n ∷ ms) (length (n ∷ ms) - 1) x rest))))
      (λ i. last_greatest (n ∷ ms) x h.1 rest y i) (contains_cases m (n ∷ ms) y k)

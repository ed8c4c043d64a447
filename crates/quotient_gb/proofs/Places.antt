-- Members of lists by their indices.
use Rattle.std.proofs.Common.{◌≡◌, ◌≢◌, ℕ, zero, suc, ◌<◌, ◌≤◌, refl, sym, ◌∙◌, ap, subst, List, [], ◌∷◌, ◌++◌, ⊎_elim, length, arith, get_or, Bool, true, false}
use Rattle.std.proofs.lemmas.List.{length-map, get_or_default, nil_from_length}
use Rattle.std.proofs.lemmas.Bool.{eqb-true, eq-eqb, true≢false}
use Rattle.std.specs.Prelude.{map, nat_eq}
use Rattle.monomial_order.specs.Monomial.{Divides, IsMultiple, Exponents}
use Rattle.monomial_order.specs.laws.Lists.{contains_either, contains_map, map_contains}
use Rattle.polynomials.specs.Polynomial.{Polynomial, lead_monomial}
use Rattle.quotient_gb.specs.Combinations.{HasLeadDivisor}
use Rattle.quotient_gb.specs.DegreeStep.{IsPart}

pub below_stop : (k n i : ℕ) → k < n → n ≤ i → k < i
below_stop k n i h l = omega arith

pub not_below_zero : (k : ℕ) → k < 0 → ⊥
not_below_zero k l = omega arith

pub not_below : (n k : ℕ) → (n ≤ k → ⊥) → k < n
not_below n k h = omega arith

-- a member by its index
pub at_default : {A : Type 0} (xs : List A) (i : ℕ) (x d : A) → i < length xs → get_or xs i x ≡ x → get_or xs i d ≡ x
at_default xs i x d l e = get_or_default xs i d x l ∙ e

-- what the test for an empty list says
pub empty_is : {A : Type 0} (xs : List A) (b : Bool) → b ≡ nat_eq (length xs) 0 → b ≡ true → xs ≡ []
empty_is xs b e t = nil_from_length xs (eqb-true (length xs) 0 (sym e ∙ t))

pub not_empty_is : {A : Type 0} (xs : List A) (b : Bool) → b ≡ nat_eq (length xs) 0 → b ≡ false → xs ≢ []
not_empty_is xs b e f n = true≢false (sym (eq-eqb (length xs) 0 (ap length n)) ∙ (sym e ∙ f))

pub some_first : {A : Type 0} (xs : List A) (x : A) (ys : List A) → xs ≡ x ∷ ys → xs ≢ []
some_first xs x ys e n = let a = ap length e in let b = ap length n in omega arith

module _ {E : Type 0} where
  -- the lead at an index
  pub lead_at : (G : List (Polynomial E)) (i : ℕ) → get_or (map lead_monomial G) i [] ≡ lead_monomial (get_or G i [])
  lead_at [] i = refl
  lead_at (g ∷ G) zero = refl
  lead_at (g ∷ G) (suc i) = lead_at G i

  -- a multiple of a lead has a member as divisor
  pub has_divisor : (G : List (Polynomial E)) (m : Exponents) → IsMultiple (map lead_monomial G) m → HasLeadDivisor G m
  has_divisor G m h = let r = map_contains lead_monomial G h.0 h.1 in (r.0, r.1, subst (λ n. Divides n m) (sym r.2) h.2)

  pub is_multiple : (G : List (Polynomial E)) (m : Exponents) → HasLeadDivisor G m → IsMultiple (map lead_monomial G) m
  is_multiple G m (g, k, d) = (lead_monomial g, contains_map lead_monomial G g k, d)

  pub multiple_more : (G G' : List (Polynomial E)) (m : Exponents) → IsPart G G' → IsMultiple (map lead_monomial G) m → IsMultiple (map lead_monomial G') m
  multiple_more G G' m part h = let r = has_divisor G m h in is_multiple G' m (r.0, part r.0 r.1, r.2)

  -- if no lead divides m, no member has a lead that divides m
  pub no_divisor : (G : List (Polynomial E)) (ls : List Exponents) (m : Exponents) → ls ≡ map lead_monomial G → ((k : ℕ) → k < length ls → Divides (get_or ls k []) m → ⊥) → HasLeadDivisor G m → ⊥
  no_divisor G ls m e h (g, (k, l, at), d) =
      h k (let a : length ls ≡ length (map lead_monomial G) = ap length e in let b = length-map G lead_monomial in omega arith)
      (subst (λ y. Divides y m) (sym (ap (λ zs. get_or zs k []) e ∙ (lead_at G k ∙ ap lead_monomial (at_default G k g [] l at)))) d)

  pub no_divisor_append : (G G' : List (Polynomial E)) (m : Exponents) → (HasLeadDivisor G m → ⊥) → (HasLeadDivisor G' m → ⊥) → HasLeadDivisor (G ++ G') m → ⊥
  no_divisor_append G G' m h k (g, i, d) = ⊎_elim (λ j. h (g, j, d)) (λ j. k (g, j, d)) (contains_either G G' g i)

-- Walks along links, and how often an index is in them.
use Rattle.std.proofs.Common.{◌≡◌, ◌≢◌, ℕ, zero, suc, ◌+◌, ◌<◌, ◌≤◌, refl, sym, ap, ◌∙◌, subst, List, [], ◌∷◌, ◌++◌, length, arith, true, false, cond, nat_eq, add-zero, ◌⊎◌, inl, inr}
use Rattle.std.proofs.lemmas.Bool.{cases_lt}
use Rattle.std.proofs.lemmas.Bool.Decides.{nat_tests}
use Rattle.monomial_order.specs.laws.Comparing.{numbers_or_not}
use Rattle.linked_terms.specs.Links.{times_in, walk, past, IsPartition}

nat_eq_self : (i : ℕ) → nat_eq i i ≡ true
nat_eq_self i = grind (arith, nat_tests)

pub times_in-here : (i : ℕ) (p : List ℕ) → times_in i (i ∷ p) ≡ 1 + times_in i p
times_in-here i p = ap (λ b. cond b 1 0 + times_in i p) (nat_eq_self i)

pub times_in-other : (i j : ℕ) (p : List ℕ) → j ≢ i → times_in i (j ∷ p) ≡ times_in i p
times_in-other i j p ne = elim (nat_eq j i) as (λ v. nat_eq j i ≡ v → cond v 1 0 + times_in i p ≡ times_in i p) [
  | true ↦ λ e. absurd (ne (yes j i e))
  | false ↦ λ e. omega arith
] refl
  where
    yes : (a b : ℕ) → nat_eq a b ≡ true → a ≡ b
    yes a b h = grind (arith, nat_tests)

pub times_in-more : (i j : ℕ) (p : List ℕ) → times_in i p ≤ times_in i (j ∷ p)
times_in-more i j p = omega arith

pub times_in-append : (i : ℕ) (p q : List ℕ) → times_in i (p ++ q) ≡ times_in i p + times_in i q
times_in-append i [] q = omega arith
times_in-append i (j ∷ p) q = omega (arith, times_in-append i p q)

-- what is in a list differs from what is not
pub differs : (i j : ℕ) (p : List ℕ) → times_in i p ≡ 0 → 1 ≤ times_in j p → j ≢ i
differs i j p h k e = let z : times_in j p ≡ 0 = subst (λ x. times_in x p ≡ 0) (sym e) h in absurd (omega arith)

pub length-walk : (f : ℕ → ℕ) (n s : ℕ) → length (walk f n s) ≡ n
length-walk f zero s = refl
length-walk f (suc n) s = ap suc (length-walk f n (f s))

pub walk_more : (f : ℕ → ℕ) (n s : ℕ) → walk f (suc n) s ≡ walk f n s ++ past f n s ∷ []
walk_more f zero s = refl
walk_more f (suc n) s = ap (λ p. s ∷ p) (walk_more f n (f s))

pub past_more : (f : ℕ → ℕ) (n s : ℕ) → past f (suc n) s ≡ f (past f n s)
past_more f zero s = refl
past_more f (suc n) s = past_more f n (f s)

pub walk_join : (f : ℕ → ℕ) (m n s : ℕ) → walk f (n + m) s ≡ walk f m s ++ walk f n (past f m s)
walk_join f zero n s = ap (λ k. walk f k s) (add-zero n)
walk_join f (suc m) n s =
    let e : n + suc m ≡ suc (n + m) = omega arith in
    ap (λ k. walk f k s) e ∙ ap (λ p. s ∷ p) (walk_join f m n (f s))

-- a walk depends on the links of its own nodes alone
pub walk_same : (f h : ℕ → ℕ) (n s : ℕ) → ((i : ℕ) → 1 ≤ times_in i (walk f n s) → h i ≡ f i) → (walk h n s ≡ walk f n s) × (past h n s ≡ past f n s)
walk_same f h zero s k = (refl, refl)
walk_same f h (suc n) s k =
    let here : 1 ≤ times_in s (s ∷ walk f n (f s)) = omega (arith, times_in-here s (walk f n (f s))) in
    let first : h s ≡ f s = k s here in
    let rest : (walk h n (f s) ≡ walk f n (f s)) × (past h n (f s) ≡ past f n (f s)) =
    walk_same f h n (f s) (λ i l. k i (omega (arith, times_in-more i s (walk f n (f s))))) in (
      ap (λ x. s ∷ walk h n x) first ∙ ap (λ p. s ∷ p) rest.0,
      ap (past h n) first ∙ rest.1,
    )

-- the last node of a walk is linked anew
pub walk_relinked : (f h : ℕ → ℕ) (n s : ℕ) → ((i : ℕ) → 1 ≤ times_in i (walk f n s) → h i ≡ f i) →
    (walk h (suc n) s ≡ walk f (suc n) s) × (past h (suc n) s ≡ h (past f n s))
walk_relinked f h n s k =
    let same = walk_same f h n s k in (
      walk_more h n s ∙ (ap (λ p. p ++ past h n s ∷ []) same.0 ∙ (ap (λ x. walk f n s ++ x ∷ []) same.1 ∙ sym (walk_more f n s))),
      past_more h n s ∙ ap h same.1,
    )

module _ (n : ℕ) where
  pub at_most_once : (p q r : List ℕ) → IsPartition n p q r → (i : ℕ) → times_in i p + (times_in i q + times_in i r) ≤ 1
  at_most_once p q r h i = cases (cases_lt i n)
    where
      cases : (i < n) ⊎ (n ≤ i) → times_in i p + (times_in i q + times_in i r) ≤ 1
      cases (inl l) = omega (arith, h.once i l)
      cases (inr l) = omega (arith, h.outside i l)

  -- what is in one of the lists is below n
  pub is_below : (p q r : List ℕ) → IsPartition n p q r → (i : ℕ) → 1 ≤ times_in i p + (times_in i q + times_in i r) → i < n
  is_below p q r h i k = cases (cases_lt i n)
    where
      cases : (i < n) ⊎ (n ≤ i) → i < n
      cases (inl l) = l
      cases (inr l) = absurd (omega (arith, h.outside i l))

  pub partition_advance : (p : List ℕ) (x : ℕ) (q r : List ℕ) → IsPartition n p (x ∷ q) r → IsPartition n (p ++ x ∷ []) q r
  partition_advance p x q r h = record {
    once = λ i l. omega (arith, h.once i l, times_in-append i p (x ∷ []));
    outside = λ i l. omega (arith, h.outside i l, times_in-append i p (x ∷ []));
  }

  pub partition_insert : (p q : List ℕ) (x : ℕ) (r : List ℕ) → IsPartition n p q (x ∷ r) → IsPartition n (p ++ x ∷ []) q r
  partition_insert p q x r h = record {
    once = λ i l. omega (arith, h.once i l, times_in-append i p (x ∷ []));
    outside = λ i l. omega (arith, h.outside i l, times_in-append i p (x ∷ []));
  }

  pub partition_remove : (p : List ℕ) (x : ℕ) (q r : List ℕ) → IsPartition n p (x ∷ q) r → IsPartition n p q (x ∷ r)
  partition_remove p x q r h = record {
    once = λ i l. omega (arith, h.once i l);
    outside = λ i l. omega (arith, h.outside i l);
  }

  pub partition_rewind : (p q r : List ℕ) → IsPartition n p q r → IsPartition n [] (p ++ q) r
  partition_rewind p q r h = record {
    once = λ i l. omega (arith, h.once i l, times_in-append i p q);
    outside = λ i l. omega (arith, h.outside i l, times_in-append i p q);
  }

  pub partition_grow : (p q r : List ℕ) → IsPartition n p q r → IsPartition (n + 1) p q (n ∷ r)
  partition_grow p q r h = record {
    once = λ i l. cases i (numbers_or_not n i) l;
    outside = λ i l. omega (arith, h.outside i (omega arith), times_in-other i n r (λ e. omega arith));
  }
    where
      cases : (i : ℕ) → (n ≡ i) ⊎ (n ≢ i) → i < n + 1 → times_in i p + (times_in i q + times_in i (n ∷ r)) ≡ 1
      cases i (inl e) l =
          subst (λ x. times_in x p + (times_in x q + times_in x (n ∷ r)) ≡ 1) e
          (omega (arith, h.outside n (omega arith), times_in-here n r))
      cases i (inr ne) l = omega (arith, h.once i (omega arith), times_in-other i n r ne)

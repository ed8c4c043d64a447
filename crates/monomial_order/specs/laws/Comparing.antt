-- Laws of the comparison.
use Rattle.std.proofs.Common.{◌≡◌, ◌≢◌, ℕ, suc, ◌<◌, ◌≤◌, refl, sym, ◌∙◌, ap, subst, List, [], ◌∷◌, length, true, false, arith, ◌⊎◌, inl, inr, ⊎_elim, ◌++◌}
use Rattle.std.specs.Prelude.{nat_le, Contains}
use Rattle.std.proofs.lemmas.Bool.Decides.{nat_tests, eqb_tells}
use Rattle.std.specs.Cmp.{tied_itself}
use Rattle.std.specs.Ordering.{nat_cmp, ordering_reverse}
use Rattle.std.specs.declared.cmp.Ordering.{Ordering}
use Rattle.std.specs.declared.cmp.Ordering.TheVariants.{Less, Equal, Greater}
use Rattle.monomial_order.specs.Monomial.{exponent, IsMonomial, IsTrimmed, Divides, product}
use Rattle.monomial_order.specs.MonomialOrder.{IsIncreasing, MonomialOrder, IsMonomialOrder}
use Rattle.monomial_order.specs.laws.Lists.{contains_cases, contains_here, contains_none, contains_there}
use Rattle.monomial_order.specs.laws.Monomial.{product-one, length-product}
use Rattle.monomial_order.specs.laws.Cofactors.{cofactor, trimmed_or_not, length-product_right}

pub less_not_equal : (o : Ordering) → o ≡ Less → o ≡ Equal → ⊥
less_not_equal o h k = let e : Less ≡ Equal = sym h ∙ k in cc

pub cmp_greater : (x y : ℕ) → y < x → nat_cmp x y ≡ Greater
cmp_greater x y h = grind (arith, nat_tests)

pub le_or_not : (a b : ℕ) → (a ≤ b) ⊎ (a ≤ b → ⊥)
le_or_not a b = elim (nat_le a b) as (λ v. nat_le a b ≡ v → (a ≤ b) ⊎ (a ≤ b → ⊥)) [ true ↦ λ e. inl (yes_le a b e) | false ↦ λ e. inr (no_le a b e) ] refl
  where
    yes_le : (a b : ℕ) → nat_le a b ≡ true → a ≤ b
    yes_le a b h = grind (arith, nat_tests)

    no_le : (a b : ℕ) → nat_le a b ≡ false → a ≤ b → ⊥
    no_le a b h k = grind (arith, nat_tests)

pub less_or_not : (o : Ordering) → (o ≡ Less) ⊎ (o ≡ Less → ⊥)
less_or_not Less = inl refl
less_or_not Equal = inr (λ e. cc)
less_or_not Greater = inr (λ e. cc)

pub numbers_or_not : (a b : ℕ) → (a ≡ b) ⊎ (a ≢ b)
numbers_or_not a b = ⊎_elim (λ h. inl h.1) (λ h. inr h.1) (eqb_tells a b)

pub equal_or_not : (m n : List ℕ) → (m ≡ n) ⊎ (m ≢ n)
equal_or_not [] [] = inl refl
equal_or_not [] (b ∷ n) = inr (λ e. cc)
equal_or_not (a ∷ m) [] = inr (λ e. cc)
equal_or_not (a ∷ m) (b ∷ n) =
    ⊎_elim (λ e. ⊎_elim (λ f. inl (ap (λ x. x ∷ m) e ∙ ap (λ x. b ∷ x) f)) (λ f. inr (λ s. f (let t : m ≡ n = cc in t))) (equal_or_not m n))
    (λ e. inr (λ s. e (let t : a ≡ b = cc in t))) (numbers_or_not a b)

-- a trimmed list that is not empty has an exponent that is not 0
pub some_exponent : (k : List ℕ) → IsTrimmed k → k ≢ [] → (i : ℕ) × (i < length k) × (1 ≤ exponent k i)
some_exponent [] h n = absurd (n refl)
some_exponent (a ∷ []) h n = (0, omega arith, omega (arith, h))
some_exponent (a ∷ (b ∷ k)) h n = let r = some_exponent (b ∷ k) h (λ e. cc) in let l = r.1 in (suc r.0, omega arith, r.2)

pub monomial_or_not : (n : ℕ) (m : List ℕ) → IsMonomial n m ⊎ (IsMonomial n m → ⊥)
monomial_or_not n m =
    ⊎_elim (λ t. ⊎_elim (λ l. inl (record { trimmed = t; within = l })) (λ l. inr (λ h. l h.within)) (le_or_not (length m) n)) (λ t. inr (λ h. t h.trimmed)) (trimmed_or_not m)

module _ (O : MonomialOrder) (L : IsMonomialOrder O) where
  pub compare_self : (m : List ℕ) → O.compare m m ≡ Equal
  compare_self m = tied_itself L.total m

  pub not_below_self : (m : List ℕ) → O.compare m m ≡ Less → ⊥
  not_below_self m h = less_not_equal (O.compare m m) h (compare_self m)

  pub greater_less : (m n : List ℕ) → O.compare m n ≡ Greater → O.compare n m ≡ Less
  greater_less m n h = L.total.antisymm n m ∙ ap ordering_reverse h

  pub less_greater : (m n : List ℕ) → O.compare m n ≡ Less → O.compare n m ≡ Greater
  less_greater m n h = L.total.antisymm n m ∙ ap ordering_reverse h

  -- smaller, equal or greater
  pub three_ways : (m n : List ℕ) → (O.compare m n ≡ Less) ⊎ ((m ≡ n) ⊎ (O.compare n m ≡ Less))
  three_ways m n = elim (O.compare m n) as (λ o. O.compare m n ≡ o → (O.compare m n ≡ Less) ⊎ ((m ≡ n) ⊎ (O.compare n m ≡ Less))) [
    | Less ↦ λ e. inl e
    | Equal ↦ λ e. inr (inl (L.equal m n e))
    | Greater ↦ λ e. inr (inr (greater_less m n e))
  ] refl

  -- a smaller monomial has no greater degree
  pub degree_falls : (m n : List ℕ) → O.compare m n ≡ Less → O.degree m ≤ O.degree n
  degree_falls m n h =
      ⊎_elim (λ l. l) (λ l. absurd (not_below_self n (L.total.trans n m n (L.degree_first n m (let g = l in omega arith)) h))) (le_or_not (O.degree m) (O.degree n))

  pub degree_one : O.degree [] ≡ 0
  degree_one = let e = L.degree_product [] [] in omega arith

  -- the cofactor of a proper divisor has a degree
  pub proper_divisor : (v w : List ℕ) → IsMonomial O.places w → IsTrimmed v → Divides v w → v ≢ w → IsMonomial O.places v × (O.degree v < O.degree w)
  proper_divisor v w hw hv d ne =
      let k = cofactor v w hv hw.trimmed d in
      let some : k.0 ≢ [] = λ e. ne (sym (product-one v) ∙ (ap (product v) (sym e) ∙ k.2)) in
      let x = some_exponent k.0 k.1 some in
      let xl = x.1 in
      let long = length-product_right v k.0 in
      let whole : length (product v k.0) ≡ length w = ap length k.2 in
      let most = hw.within in
      let e = L.exponent_at_most k.0 x.0 (omega arith) in
      let x2 = x.2 in
      let p = L.degree_product v k.0 in
      let q : O.degree (product v k.0) ≡ O.degree w = ap O.degree k.2 in
      let f = length-product v k.0 in
      (record { trimmed = hv; within = omega arith }, omega arith)

  pub divisor_degree : (v w : List ℕ) → IsTrimmed v → IsTrimmed w → Divides v w → O.degree v ≤ O.degree w
  divisor_degree v w hv hw d = let k = cofactor v w hv hw d in let p = L.degree_product v k.0 in let q : O.degree (product v k.0) ≡ O.degree w = ap O.degree k.2 in omega arith

  -- 1 is less than every other monomial
  pub one_below : (m : List ℕ) → IsMonomial O.places m → m ≢ [] → O.compare [] m ≡ Less
  one_below m h ne =
      let x = some_exponent m h.trimmed ne in
      let within = h.within in
      let at = x.1 in
      let some = x.2 in
      let e = L.exponent_at_most m x.0 (omega arith) in
      let z = degree_one in
      L.degree_first [] m (omega arith)

  -- nothing is less than 1
  pub none_below_one : (m : List ℕ) → IsMonomial O.places m → O.compare m [] ≢ Less
  none_below_one m h less =
      ⊎_elim (λ e. not_below_self [] (subst (λ x. O.compare x [] ≡ Less) e less)) (λ ne. not_below_self m (L.total.trans m [] m less (one_below m h ne))) (equal_or_not m [])

  -- the first member of an increasing list is less than every later one
  pub increasing_below : (m : List ℕ) (ms : List (List ℕ)) → IsIncreasing O (m ∷ ms) → (n : List ℕ) → Contains ms n → O.compare m n ≡ Less
  increasing_below m [] h n k = absurd (contains_none n k)
  increasing_below m (x ∷ ms) h n k =
      ⊎_elim (λ e. subst (λ y. O.compare m y ≡ Less) e h.0) (λ i. L.total.trans m x n h.0 (increasing_below x ms h.1 n i)) (contains_cases x ms n k)

-- a list is increasing if its first member is less than all others and those increase
pub increasing_cons : (O : MonomialOrder) (m : List ℕ) (ms : List (List ℕ)) → ((n : List ℕ) → Contains ms n → O.compare m n ≡ Less) →
    IsIncreasing O ms → IsIncreasing O (m ∷ ms)
increasing_cons O m [] h r = tt
increasing_cons O m (x ∷ ms) h r = (h x (contains_here x ms), r)

-- the rest of an increasing list is increasing
pub increasing_tail : (O : MonomialOrder) (m : List ℕ) (ms : List (List ℕ)) → IsIncreasing O (m ∷ ms) → IsIncreasing O ms
increasing_tail O m [] h = tt
increasing_tail O m (x ∷ ms) h = h.1

-- increasing lists of which the one is below the other
pub increasing_append : (O : MonomialOrder) (ms ns : List (List ℕ)) → IsIncreasing O ms → IsIncreasing O ns →
    ((m n : List ℕ) → Contains ms m → Contains ns n → O.compare m n ≡ Less) → IsIncreasing O (ms ++ ns)
increasing_append O [] ns h k b = k
increasing_append O (m ∷ []) [] h k b = tt
increasing_append O (m ∷ []) (n ∷ ns) h k b = (b m n (contains_here m []) (contains_here n ns), k)
increasing_append O (m ∷ (l ∷ ms)) ns h k b = (h.0, increasing_append O (l ∷ ms) ns h.1 k (λ x y i j. b x y (contains_there m (l ∷ ms) x i) j))

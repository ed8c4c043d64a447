-- From the reduced basis to one degree to that of the next.
use Rattle.std.proofs.Common.{◌≡◌, ℕ, zero, suc, ◌<◌, ◌≤◌, refl, sym, ◌∙◌, ap, subst, List, [], ◌∷◌, ◌++◌, ◌⊎◌, inl, inr, ⊎_elim, length, get_or, append_assoc, arith}
use Rattle.std.specs.Prelude.{map, Contains}
use Rattle.std.proofs.lemmas.List.{map-append}
use Rattle.std.proofs.lemmas.List.Elements.{Contains-get_or}
use Rattle.std.specs.declared.cmp.Ordering.TheVariants.{Less}
use Rattle.monomial_order.specs.Monomial.{product, IsMonomial}
use Rattle.monomial_order.specs.laws.Lists.{contains_cases, contains_here, contains_there, contains_none, contains_map, contains_left, contains_right, contains_either, map_contains}
use Rattle.monomial_order.specs.laws.Monomial.{product-one}
use Rattle.monomial_order.specs.laws.Comparing.{three_ways, equal_or_not, some_exponent, not_below_self, increasing_below, increasing_tail, increasing_append}
use Rattle.polynomials.specs.Polynomial.{Polynomial, lead_monomial}
use Rattle.polynomials.specs.Subalgebra.{Presented, IsPresentation, AllIn, product_of, IsGenerated, IsReducedBasis}
use Rattle.monomial_order.specs.MonomialOrder.{IsIncreasing}
use Rattle.subalgebra_laws.specs.Bases.{HaveLeadsFrom, AreStandardAfter, AreNextTo, IsCheckedElement}
use Rattle.subalgebra_laws.specs.Statements.{ProductsSplit, NextBasisIsReduced, FrontsAreReduced, IncreasingListsAreEqual}
use Rattle.subalgebra_laws.proofs.Generated.{generated_leads}
use Rattle.subalgebra_laws.proofs.ReducedBases.{basis_monic, basis_combinations, element_checked, element_moved, checked_reduced}
use Rattle.subalgebra_laws.proofs.Growing.{next_combinations}

-- a member in the middle of two lists in a row is in the middle of the first or of the second
split_append : {A : Type 0} (S T before : List A) (s : A) (after : List A) → S ++ T ≡ before ++ (s ∷ after) →
    ((rest : List A) × (S ≡ before ++ (s ∷ rest)) × (after ≡ rest ++ T)) ⊎ ((front : List A) × (before ≡ S ++ front) × (T ≡ front ++ (s ∷ after)))
split_append [] T before s after e = inr (before, refl, e)
split_append (x ∷ S) T [] s after e =
    let a : x ≡ s = cc in
    let b : S ++ T ≡ after = cc in
    inl (S, ap (λ y. y ∷ S) a, sym b)
split_append (x ∷ S) T (y ∷ before) s after e =
    let a : x ≡ y = cc in
    let b : S ++ T ≡ before ++ (s ∷ after) = cc in
    ⊎_elim (λ r. inl (r.0, ap (λ z. z ∷ S) a ∙ ap (λ zs. y ∷ zs) r.1, r.2)) (λ r. inr (r.0, ap (λ zs. y ∷ zs) r.1 ∙ ap (λ z. z ∷ (S ++ r.0)) (sym a), r.2)) (split_append S T before s after b)

-- a member other than the one in the middle is a member
without_middle : {A : Type 0} (T front : List A) (t : A) (rest : List A) → T ≡ front ++ (t ∷ rest) → (x : A) → Contains (front ++ rest) x → Contains T x
without_middle T front t rest e x k = subst (λ X. Contains X x) (sym e)
    (⊎_elim (λ a. contains_left front (t ∷ rest) x a) (λ b. contains_right front (t ∷ rest) x (contains_there t rest x b)) (contains_either front rest x k))

the_middle : {A : Type 0} (T front : List A) (t : A) (rest : List A) → T ≡ front ++ (t ∷ rest) → Contains T t
the_middle T front t rest e = subst (λ X. Contains X t) (sym e) (contains_right front (t ∷ rest) t (contains_here t rest))

module _ {E : Type 0} (P : Presented E) (H : IsPresentation P) where
  open P use {field as K, order as O}
  open H use {order as L}

  -- in an increasing list no other member has the lead
  no_other : (front : List (Polynomial E)) (t : Polynomial E) (after : List (Polynomial E)) → IsIncreasing P.order (map lead_monomial (front ++ (t ∷ after))) → Contains (map lead_monomial (front ++ after)) (lead_monomial t) → ⊥
  no_other [] t after r k = not_below_self O L (lead_monomial t) (increasing_below O L (lead_monomial t) (map lead_monomial after) r (lead_monomial t) k)
  no_other (x ∷ front) t after r k =
      ⊎_elim
      (λ e. not_below_self O L (lead_monomial t) (subst (λ y. O.compare y (lead_monomial t) ≡ Less) e
      (increasing_below O L (lead_monomial x) (map lead_monomial (front ++ (t ∷ after))) r (lead_monomial t) (contains_map lead_monomial (front ++ (t ∷ after)) t (contains_right front (t ∷ after) t (contains_here t after))))))
      (λ i. no_other front t after (increasing_tail O (lead_monomial x) (map lead_monomial (front ++ (t ∷ after))) r) i) (contains_cases (lead_monomial x) (map lead_monomial (front ++ after)) (lead_monomial t) k)

  -- members at different indices differ
  leads_differ : (T : List (Polynomial E)) → IsIncreasing P.order (map lead_monomial T) → (i j : ℕ) → i < length T → j < length T → lead_monomial (get_or T i []) ≡ lead_monomial (get_or T j []) → i ≡ j
  leads_differ [] r i j li lj e = absurd (omega arith)
  leads_differ (t ∷ T) r zero zero li lj e = refl
  leads_differ (t ∷ T) r zero (suc j) li lj e = absurd (no_other [] t T r (subst (Contains (map lead_monomial T)) (sym e) (contains_map lead_monomial T (get_or T j []) (Contains-get_or T j [] (omega arith)))))
  leads_differ (t ∷ T) r (suc i) zero li lj e = absurd (no_other [] t T r (subst (Contains (map lead_monomial T)) e (contains_map lead_monomial T (get_or T i []) (Contains-get_or T i [] (omega arith)))))
  leads_differ (t ∷ T) r (suc i) (suc j) li lj e = ap suc (leads_differ T (increasing_tail O (lead_monomial t) (map lead_monomial T) r) i j (omega arith) (omega arith) e)

  pub next_standard : (d : ℕ) (S T : List (Polynomial E)) → AreNextTo P d S T → AreStandardAfter P d S T
  next_standard d S T n = record { after = n.after; standard = n.standard; differ = leads_differ T n.increasing }

  -- increasing lists with the same members are equal
  pub increasing_equal : IncreasingListsAreEqual P
  increasing_equal [] [] im in' h = refl
  increasing_equal [] (n ∷ ns) im in' h = absurd (contains_none n ((h n).1 (contains_here n ns)))
  increasing_equal (m ∷ ms) [] im in' h = absurd (contains_none m ((h m).0 (contains_here m ms)))
  increasing_equal (m ∷ ms) (n ∷ ns) im in' h =
      let same : m ≡ n = ⊎_elim (λ lt. absurd (not_before m n ns in' ((h m).0 (contains_here m ms)) lt))
      (λ r. ⊎_elim (λ e. e) (λ gt. absurd (not_before n m ms im ((h n).1 (contains_here n ns)) gt)) r) (three_ways O L m n) in
      ap (λ x. x ∷ ms) same ∙ ap (λ xs. n ∷ xs) (increasing_equal ms ns (increasing_tail O m ms im) (increasing_tail O n ns in')
      (λ x. ((λ k. later m ms n ns im (sym same) x k ((h x).0 (contains_there m ms x k))), (λ k. later n ns m ms in' same x k ((h x).1 (contains_there n ns x k))))))
    where
      not_before : (m n : List ℕ) (ns : List (List ℕ)) → IsIncreasing O (n ∷ ns) → Contains (n ∷ ns) m → O.compare m n ≡ Less → ⊥
      not_before m n ns i k lt = ⊎_elim (λ e. not_below_self O L n (subst (λ x. O.compare x n ≡ Less) (sym e) lt))
          (λ j. not_below_self O L m (L.total.trans m n m lt (increasing_below O L n ns i m j))) (contains_cases n ns m k)

      later : (m : List ℕ) (ms : List (List ℕ)) (n : List ℕ) (ns : List (List ℕ)) → IsIncreasing O (m ∷ ms) → n ≡ m → (x : List ℕ) → Contains ms x → Contains (n ∷ ns) x → Contains ns x
      later m ms n ns i same x k j =
          ⊎_elim (λ e. absurd (not_below_self O L x (subst (λ y. O.compare y x ≡ Less) (sym same ∙ e) (increasing_below O L m ms i x k)))) (λ r. r) (contains_cases n ns x j)

  -- the lead of an element has what each element's lead has
  of_lead : (Q : List ℕ → Type 0) (S : List (Polynomial E)) → ((s : Polynomial E) → Contains S s → Q (lead_monomial s)) → (m : List ℕ) → Contains (map lead_monomial S) m → Q m
  of_lead Q S h m k = let r = map_contains lead_monomial S m k in subst Q r.2 (h r.0 r.1)

  -- a product of leads of at most the degree of the leads of T has none of them as a factor, or is one
  module _ (S T : List (Polynomial E)) (d : ℕ) (positive : HaveLeadsFrom P 1 (S ++ T)) (high : HaveLeadsFrom P d T) where
    no_factors : (ms : List (List ℕ)) → AllIn (map lead_monomial (S ++ T)) ms → O.degree (product_of ms) ≡ 0 → ms ≡ []
    no_factors [] h e = refl
    no_factors (m ∷ ms) h e = let p = L.degree_product m (product_of ms) in let q = of_lead (λ x. 1 ≤ O.degree x) (S ++ T) positive m h.0 in absurd (omega arith)

    split_factors : (ms : List (List ℕ)) → AllIn (map lead_monomial (S ++ T)) ms → O.degree (product_of ms) ≤ d → AllIn (map lead_monomial S) ms ⊎ Contains (map lead_monomial T) (product_of ms)
    split_factors [] h l = inl tt
    split_factors (m ∷ ms) h l =
        let p = L.degree_product m (product_of ms) in
        let q = of_lead (λ x. 1 ≤ O.degree x) (S ++ T) positive m h.0 in
        let r = map_contains lead_monomial (S ++ T) m h.0 in
        ⊎_elim
        (λ a. ⊎_elim (λ rest. inl (subst (Contains (map lead_monomial S)) r.2 (contains_map lead_monomial S r.0 a), rest))
        (λ c. absurd (let z = of_lead (λ x. d ≤ O.degree x) T high (product_of ms) c in omega arith)) (split_factors ms h.1 (omega arith)))
        (λ b.
        let e : O.degree (lead_monomial r.0) ≡ O.degree m = ap O.degree r.2 in
        let z = high r.0 b in
        let none : ms ≡ [] = no_factors ms h.1 (omega arith) in
        inr (subst (Contains (map lead_monomial T)) (r.2 ∙ (sym (product-one m) ∙ ap (λ x. product m (product_of x)) (sym none))) (contains_map lead_monomial T r.0 b)))
        (contains_either S T r.0 r.1)

    pub products_split : ProductsSplit P S T d
    products_split m l g =
        ⊎_elim (λ a. inl (record { factors = g.factors; members = a; product = g.product })) (λ b. inr (subst (Contains (map lead_monomial T)) g.product b))
        (split_factors g.factors g.members (let e : O.degree (product_of g.factors) ≡ O.degree m = ap O.degree g.product in omega arith))

  -- the elements of degree at most d of the reduced basis to c
  pub fronts_reduced : FrontsAreReduced P
  fronts_reduced S T c d red le low high = record {
    increasing = increasing_front (map lead_monomial S) (map lead_monomial T) (subst (IsIncreasing O) (map-append lead_monomial S T) red.increasing);
    elements = λ s k. element_moved P H c d s (low s k) (red.elements s (contains_left S T s k));
    minimal = λ before after s e g. red.minimal before (after ++ T) s (ap (λ X. X ++ T) e ∙ append_assoc before (s ∷ after) T)
        (record { factors = g.factors; members = more before after g.factors g.members; product = g.product });
    generates = λ m h l. ⊎_elim (λ g. g) (λ k. absurd (let z = of_lead (λ x. suc d ≤ O.degree x) T high m k in omega arith))
        (products_split S T (suc d) (λ s k. (red.elements s k).at_least) high m (omega arith) (red.generates m h (omega arith)));
  }
    where
      increasing_front : (M N : List (List ℕ)) → IsIncreasing O (M ++ N) → IsIncreasing O M
      increasing_front [] N h = tt
      increasing_front (m ∷ []) N h = tt
      increasing_front (m ∷ (n ∷ M)) N h = (h.0, increasing_front (n ∷ M) N h.1)

      more : (before after : List (Polynomial E)) (ms : List (List ℕ)) → AllIn (map lead_monomial (before ++ after)) ms → AllIn (map lead_monomial (before ++ (after ++ T))) ms
      more before after [] h = tt
      more before after (m ∷ ms) h = (
        subst (λ X. Contains X m) (sym (map-append lead_monomial (before ++ after) T) ∙ ap (map lead_monomial) (append_assoc before after T))
            (contains_left (map lead_monomial (before ++ after)) (map lead_monomial T) m h.0),
        more before after ms h.1,
      )

  -- to the degree 0 there is nothing to generate
  pub empty_reduced : IsReducedBasis P 0 []
  empty_reduced = record {
    increasing = tt;
    elements = λ s k. absurd (contains_none s k);
    minimal = λ before after s e. absurd (no_middle before s after e);
    generates = λ m h l. record { factors = []; members = tt; product = sym (one m h.standard.monomial (omega arith)) };
  }
    where
      no_middle : (before : List (Polynomial E)) (s : Polynomial E) (after : List (Polynomial E)) → [] ≡ before ++ (s ∷ after) → ⊥
      no_middle [] s after e = cc
      no_middle (x ∷ before) s after e = cc

      one : (m : List ℕ) → IsMonomial O.places m → O.degree m ≡ 0 → m ≡ []
      one m h e = ⊎_elim (λ same. same)
          (λ ne. let x = some_exponent m h.trimmed ne in let x1 = x.1 in let x2 = x.2 in let w = h.within in let a = L.exponent_at_most m x.0 (omega arith) in absurd (omega arith)) (equal_or_not m [])

  module _ (S T : List (Polynomial E)) (c d : ℕ) (next : suc c ≡ d) (red : IsReducedBasis P c S) (N : AreNextTo P d S T) (elements : (t : Polynomial E) → Contains T t → IsCheckedElement P d (S ++ T) t) where
    -- of two parts of S and T
    positive : (R U : List (Polynomial E)) → ((s : Polynomial E) → Contains R s → Contains S s) → ((t : Polynomial E) → Contains U t → Contains T t) → HaveLeadsFrom P 1 (R ++ U)
    positive R U r u x k = ⊎_elim (λ a. (red.elements x (r x a)).at_least) (λ b. let e = N.after.degree x (u x b) in omega arith) (contains_either R U x k)

    -- below the degree d the new leads have no products
    old_product : (R : List (Polynomial E)) → ((s : Polynomial E) → Contains R s → Contains S s) → (m : List ℕ) → O.degree m ≤ c → IsGenerated (map lead_monomial (R ++ T)) m → IsGenerated (map lead_monomial R) m
    old_product R r m l g =
        ⊎_elim (λ a. a) (λ b. absurd (let z = of_lead (λ x. d ≤ O.degree x) T N.after.degree m b in omega arith))
        (products_split R T d (positive R T r (λ t k. k)) N.after.degree m (omega arith) g)

    old_element : (s : Polynomial E) → Contains S s → IsCheckedElement P d (S ++ T) s
    old_element s k =
        let e = red.elements s k in
        element_checked P H c d (S ++ T) s (let a = e.at_most in omega arith) e (λ m z ne g. e.tail m z ne (generated_leads P H S (basis_monic P H c S red) (λ x i. (red.elements x i).inside) m (e.standard m z)
        (old_product S (λ x i. i) m (let q = e.homogeneous.each m z in let a = e.at_most in omega arith) g)))

    old_minimal : (before rest : List (Polynomial E)) (s : Polynomial E) → S ≡ before ++ (s ∷ rest) → IsGenerated (map lead_monomial (before ++ (rest ++ T))) (lead_monomial s) → ⊥
    old_minimal before rest s e g =
        red.minimal before rest s e (old_product (before ++ rest) (without_middle S before s rest e) (lead_monomial s) (red.elements s (the_middle S before s rest e)).at_most
        (subst (λ X. IsGenerated (map lead_monomial X) (lead_monomial s)) (sym (append_assoc before rest T)) g))

    new_minimal : (front rest : List (Polynomial E)) (t : Polynomial E) → T ≡ front ++ (t ∷ rest) → IsGenerated (map lead_monomial (S ++ (front ++ rest))) (lead_monomial t) → ⊥
    new_minimal front rest t e g =
        let inner = the_middle T front t rest e in
        let part = without_middle T front t rest e in
        ⊎_elim (λ a. N.after.new t inner a) (λ b. no_other front t rest (subst (λ X. IsIncreasing P.order (map lead_monomial X)) e N.increasing) b)
        (products_split S (front ++ rest) d (positive S (front ++ rest) (λ s k. k) part) (λ x k. N.after.degree x (part x k)) (lead_monomial t) (elements t inner).at_most g)

  pub next_reduced : (S T : List (Polynomial E)) (d : ℕ) → AreNextTo P d S T → NextBasisIsReduced P S T d
  next_reduced S T d N c next dec red elements here = checked_reduced P H d (S ++ T) dec (record {
    increasing = subst (IsIncreasing P.order) (sym (map-append lead_monomial S T)) (increasing_append O (map lead_monomial S) (map lead_monomial T) red.increasing N.increasing
        (λ m n km kn.
        let p = of_lead (λ x. O.degree x ≤ c) S (λ s k. (red.elements s k).at_most) m km in
        let q = of_lead (λ x. d ≤ O.degree x) T N.after.degree n kn in
        L.degree_first m n (omega arith)));
    elements = λ s k. ⊎_elim (λ a. old_element S T c d next red N elements s a) (λ b. elements s b) (contains_either S T s k);
    minimal = λ before rest s e.
        ⊎_elim (λ r. λ g. old_minimal S T c d next red N elements before r.0 s r.1 (subst (λ X. IsGenerated (map lead_monomial (before ++ X)) (lead_monomial s)) r.2 g))
        (λ r. λ g. new_minimal S T c d next red N elements r.0 rest s r.2
        (subst (λ X. IsGenerated (map lead_monomial X) (lead_monomial s)) (append_assoc S r.0 rest) (subst (λ X. IsGenerated (map lead_monomial (X ++ rest)) (lead_monomial s)) r.1 g)))
        (split_append S T before s rest e);
    combinations = next_combinations P H d S T (next_standard d S T N) c next (basis_combinations P H c S (λ m hm l. dec m hm (omega arith)) red) here;
  })

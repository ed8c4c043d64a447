-- The new elements of the last degree in a basis.
use Rattle.std.proofs.Common.{◌≡◌, ◌≢◌, ℕ, suc, ◌+◌, ◌-◌, ◌<◌, ◌≤◌, get_or, drop, take, refl, sym, ◌∙◌, ap, subst, List, [], ◌∷◌, ◌++◌, length, append_assoc, length-append, ⊎_elim, arith}
use Rattle.std.specs.Prelude.{Contains, map, All, AllPairs}
use Rattle.std.proofs.lemmas.List.{drop-map, get_or-map, take-append-drop, get_or_default, get_or_append_left, get_or-append-add, length-map, map-append}
use Rattle.std.proofs.lemmas.List.Elements.{All-contains, All-drop}
use Rattle.monomial_order.specs.Monomial.{Exponents, exponent, IsMonomial, IsTrimmed}
use Rattle.monomial_order.specs.MonomialOrder.{MonomialOrder, IsIncreasing, IsMonomialOrder}
use Rattle.monomial_order.specs.laws.Lists.{contains_at, contains_either, contains_left, contains_none, contains_right, map_contains}
use Rattle.monomial_order.specs.laws.Comparing.{le_or_not, numbers_or_not}
use Rattle.monomial_order.specs.laws.Monomial.{exponent_past, last_exponent}
use Rattle.polynomials.specs.Polynomial.{Polynomial, coefficient, degree_of, lead_monomial, IsCanonical}
use Rattle.polynomials.specs.Value.{value}
use Rattle.polynomials.specs.Subalgebra.{Presented, IsPresentation}
use Rattle.polynomials.specs.laws.Coefficients.{found_monomial}
use Rattle.polynomials.specs.laws.Decreasing.{IsDecreasing_IsPoly}
use Rattle.polynomials.specs.laws.Degrees.{decreasing_all}
use Rattle.subalgebra_laws.specs.laws.Fronts.{value_front}
use Rattle.witness.specs.declared.tracked.Tracked.{Tracked}
use Rattle.witness.specs.Tracking.{by_order, values_of, IsCanonicalPair, IsGradedPair, Tracks, UsesLower}
use Rattle.witness.specs.laws.Letters.{by_laws, by_places}
use Rattle.subduction.specs.Basis.{BasisState, AreInParts, AreSettled, IsBasisElement, IsBasisOf, IsLinearSum}
use Rattle.subduction.specs.Settling.{AreMadeFrom}
use Rattle.subduction.specs.laws.Parts.{contains-All}
use Rattle.subduction.proofs.Settled.{all_made, both_ways, AreDone, AreOld, HasSum, IsLastPart, leads_of}

pub last_place : (m : Exponents) (k : ℕ) → IsTrimmed m → k < length m → (i : ℕ) × (k ≤ i) × (i < length m) × (exponent m i ≢ 0)
last_place [] k h l = absurd (omega arith)
last_place (e ∷ w) k h l = (length w, omega arith, omega arith, λ z. let a = last_exponent (e ∷ w) (length w) h refl in omega arith)

module _ {F E : Type 0} (P : Presented E) (H : IsPresentation P) (W : MonomialOrder) (N : IsMonomialOrder W) (L : List (Polynomial E)) where
  open P use {field as K, order as O, generators as fs}
  open H use {field as F', order as M}

  -- the witness has the letters of the generators and of L alone
  abbrev pub HasFront : Tracked F E → Type 0
  HasFront t = (m : Exponents) → coefficient K t.by m ≢ K.zero → length m ≤ length fs + length L

  same_value : (T : List (Polynomial E)) (t : Tracked F E) → IsCanonical K W t.by → HasFront t → value K t.by (fs ++ (L ++ T)) ≡ value K t.by (fs ++ L)
  same_value T t c f =
      ap (value K t.by) (sym (append_assoc fs L T)) ∙
      value_front K t.by (fs ++ L) T (decreasing_all K F' W N (λ m. length m ≤ length (fs ++ L)) t.by c.decreasing (λ m n. let a = length-append fs L in let b = f m n in omega arith))

  pub tracks_front : (T : List (Polynomial E)) (t : Tracked F E) → IsCanonical K W t.by → HasFront t → Tracks P (L ++ T) t → Tracks P L t
  tracks_front T t c f h = subst (λ x. Rattle.polynomials.specs.Ideal.Congruent K O.places P.ideal t.value x) (same_value T t c f) h

  pub tracks_whole : (T : List (Polynomial E)) (t : Tracked F E) → IsCanonical K W t.by → HasFront t → Tracks P L t → Tracks P (L ++ T) t
  tracks_whole T t c f h = subst (λ x. Rattle.polynomials.specs.Ideal.Congruent K O.places P.ideal t.value x) (sym (same_value T t c f)) h

  pub uses_whole : (T : List (Polynomial E)) (t : Tracked F E) → HasFront t →
      ((m : Exponents) → coefficient K t.by m ≢ K.zero → (i : ℕ) → exponent m (length fs + i) ≢ 0 → i < length L → degree_of O (get_or L i []) < degree_of O t.value) → UsesLower P (L ++ T) t
  uses_whole T t f h m n i x =
      ⊎_elim (λ l. let e = get_or_append_left L T [] i (omega arith) in let a = h m n i x (omega arith) in subst (λ p. degree_of O p < degree_of O t.value) (sym e) a)
      (λ o. absurd (x (exponent_past m (length fs + i) (let b = f m n in let g = not_less i (length L) o in omega arith)))) (le_or_not (suc i) (length L))
    where
      not_less : (i n : ℕ) → (suc i ≤ n → ⊥) → n ≤ i
      not_less i n o = ⊎_elim (λ l. l) (λ q. absurd (o (omega arith))) (le_or_not n i)

  pub front_of : (T : List (Polynomial E)) (t : Tracked F E) → W.places ≡ length fs + length (L ++ T) → IsCanonical K W t.by → UsesLower P (L ++ T) t →
      ((j : ℕ) → j < length T → degree_of O t.value ≤ degree_of O (get_or T j [])) → HasFront t
  front_of T t p c u e m n = ⊎_elim (λ a. a) (λ o. absurd (beyond (not_up o))) (le_or_not (length m) (length fs + length L))
    where
      mono : IsMonomial W.places m
      mono = found_monomial K F' W N t.by (IsDecreasing_IsPoly K W t.by c.decreasing) m n

      not_up : (length m ≤ length fs + length L → ⊥) → length fs + length L < length m
      not_up o = ⊎_elim (λ a. a) (λ q. absurd (o (omega arith))) (le_or_not (suc (length fs + length L)) (length m))

      beyond : length fs + length L < length m → ⊥
      beyond q =
          let r = last_place m (length fs + length L) mono.trimmed q in
          let j = r.0 - (length fs + length L) in
          let a = r.1 in
          let b = r.2 in
          let w = mono.within in
          let x = length-append L T in
          let at : r.0 ≡ length fs + (length L + j) = omega arith in
          let inside : j < length T = omega arith in
          let g = get_or-append-add L T j [] in
          let less = u m n (length L + j) (subst (λ i. exponent m i ≢ 0) at r.3) in
          let here = ap (degree_of O) g in
          let high = e j inside in
          omega arith

module _ {F E : Type 0} (P : Presented E) (H : IsPresentation P) (b : BasisState F E) (B : IsBasisOf P b) (lower before : List (Tracked F E)) (p : AreInParts P b.words.degree b.elements lower before) where
  open P use {field as K, order as O, generators as fs}

  abbrev L : List (Polynomial E)
  L = values_of lower

  abbrev T : List (Polynomial E)
  T = values_of before

  abbrev W : MonomialOrder
  W = by_order b.by_order

  abbrev d : ℕ
  d = b.words.degree

  values_are : values_of b.elements ≡ L ++ T
  values_are = ap values_of p.whole ∙ map-append (λ (t : Tracked F E). t.value) lower before

  element : (t : Tracked F E) → Contains b.elements t → IsBasisElement P b t
  element t k = All-contains (IsBasisElement P b) b.elements t B.elements k

  from_lower : (t : Tracked F E) → Contains lower t → Contains b.elements t
  from_lower t k = subst (λ xs. Contains xs t) (sym p.whole) (contains_left lower before t k)

  from_last : (t : Tracked F E) → Contains before t → Contains b.elements t
  from_last t k = subst (λ xs. Contains xs t) (sym p.whole) (contains_right lower before t k)

  pub low : (t : Tracked F E) → Contains lower t → degree_of O t.value < d
  low t k = All-contains (λ (x : Tracked F E). degree_of O x.value < d) lower t p.lower_less k

  pub equal : (t : Tracked F E) → Contains before t → degree_of O t.value ≡ d
  equal t k = All-contains (λ (x : Tracked F E). degree_of O x.value ≡ d) before t p.last_equal k

  at_last : (us : List (Tracked F E)) → ((u : Tracked F E) → Contains us u → degree_of O u.value ≡ d) → (j : ℕ) → j < length (values_of us) → degree_of O (get_or (values_of us) j []) ≡ d
  at_last us h j l =
      let z : Tracked F E = record { value = []; by = [] } in
      let v = length-map us (λ (u : Tracked F E). u.value) in
      ap (degree_of O) (get_or-map (λ (u : Tracked F E). u.value) us j z [] (omega arith)) ∙ h (get_or us j z) (contains_at us j z (omega arith))

  places : W.places ≡ length fs + length (L ++ T)
  places = by_places P (values_of b.elements) b.by_order B.by_order ∙ ap (λ S. length fs + length S) values_are

  old_uses : (t : Tracked F E) → Contains b.elements t → UsesLower P (L ++ T) t
  old_uses t k = subst (λ S. UsesLower P S t) values_are (element t k).tracked.lower

  old_tracks : (t : Tracked F E) → Contains b.elements t → Tracks P (L ++ T) t
  old_tracks t k = subst (λ S. Tracks P S t) values_are (element t k).tracked.tracks

  has_front : (t : Tracked F E) → Contains b.elements t → degree_of O t.value ≤ d → HasFront P H W (by_laws b.by_order) L t
  has_front t k l = front_of P H W (by_laws b.by_order) L T t places (element t k).tracked.canonical.by (old_uses t k) (λ j i. let e = at_last before equal j i in omega arith)

  -- the old elements of the last degree
  pub are_old : AreOld P H W L before d
  are_old = record { parts = part; monic = λ t k. (element t (from_last t k)).monic.monic }
    where
      part : (t : Tracked F E) → Contains before t → IsLastPart P H W L before d t
      part t k =
          let i = from_last t k in
          let e = equal t k in
          let f = has_front t i (omega arith) in
          record {
            canonical = (element t i).tracked.canonical;
            graded = subst (λ n. IsGradedPair K O W n t) e (element t i).tracked.graded;
            tracks = tracks_front P H W (by_laws b.by_order) L T t (element t i).tracked.canonical.by f (old_tracks t i);
            front = f;
            monomials = λ m n. (t, k, n);
            short = λ s. s t k;
          }

  module _ (c : BasisState F E) (after : List (Tracked F E)) (D : AreDone P H W L before d after) (elements : c.elements ≡ lower ++ after) (by : c.by_order ≡ b.by_order)
      (degrees : (u : Tracked F E) → Contains after u → degree_of O u.value ≡ d) where
    new_values : values_of c.elements ≡ L ++ values_of after
    new_values = ap values_of elements ∙ map-append (λ (t : Tracked F E). t.value) lower after

    -- each of the smaller degrees stays one
    stays_low : (t : Tracked F E) → Contains lower t → IsBasisElement P c t
    stays_low t k =
        let i = from_lower t k in
        let l = low t k in
        let f = has_front t i (omega arith) in
        let e = element t i in
        record {
          tracked = record {
            tracks = subst (λ S. Tracks P S t) (sym new_values) (tracks_whole P H W (by_laws b.by_order) L (values_of after) t e.tracked.canonical.by f (tracks_front P H W (by_laws b.by_order) L T t e.tracked.canonical.by f (old_tracks t i)));
            canonical = subst (λ w. IsCanonicalPair K O (by_order w) t) (sym by) e.tracked.canonical;
            graded = subst (λ w. IsGradedPair K O (by_order w) (degree_of O t.value) t) (sym by) e.tracked.graded;
            lower = subst (λ S. UsesLower P S t) (sym new_values)
                (uses_whole P H W (by_laws b.by_order) L (values_of after) t f
                (λ m n j x q. subst (λ y. degree_of O y < degree_of O t.value) (get_or_append_left L T [] j q) (old_uses t i m n j x)));
          };
          monic = e.monic;
          standard = e.standard;
        }

    last_is : (t : Tracked F E) → Contains after t → IsBasisElement P c t
    last_is t k =
        let e = D.parts t k in
        let q = degrees t k in
        record {
          tracked = record {
            tracks = subst (λ S. Tracks P S t) (sym new_values) (tracks_whole P H W (by_laws b.by_order) L (values_of after) t e.canonical.by e.front e.tracks);
            canonical = subst (λ w. IsCanonicalPair K O (by_order w) t) (sym by) e.canonical;
            graded = subst (λ w. IsGradedPair K O (by_order w) (degree_of O t.value) t) (sym by) (subst (λ n. IsGradedPair K O W n t) (sym q) e.graded);
            lower = subst (λ S. UsesLower P S t) (sym new_values)
                (uses_whole P H W (by_laws b.by_order) L (values_of after) t e.front
                (λ m n j x l. let z : Tracked F E = record { value = []; by = [] } in
                let v = length-map lower (λ (u : Tracked F E). u.value) in
                let w : degree_of O (get_or L j []) ≡ degree_of O (let y : Tracked F E = get_or lower j z in y.value) = ap (degree_of O) (get_or-map (λ (u : Tracked F E). u.value) lower j z [] (omega arith)) in
                let y = low (get_or lower j z) (contains_at lower j z (omega arith)) in omega arith));
          };
          monic = record {
            decreasing = e.canonical.value.decreasing;
            monic = D.monic t k;
            positive = positive;
          };
          standard = λ m n. let o = e.monomials m n in (element o.0 (from_last o.0 o.1)).standard m o.2;
        }
      where
        positive : 1 ≤ degree_of O t.value
        positive =
            let e = D.parts t k in
            let one = D.monic t k in
            let o = e.monomials (lead_monomial t.value) (λ z. H.field.one_not_zero (sym one ∙ z)) in
            let a = (element o.0 (from_last o.0 o.1)).monic.positive in
            let g = equal o.0 o.1 in
            let q = degrees t k in omega arith

    pub new_elements : All (IsBasisElement P c) c.elements
    new_elements =
        subst (All (IsBasisElement P c)) (sym elements)
        (contains-All (IsBasisElement P c) (lower ++ after) (λ t k. ⊎_elim (stays_low t) (last_is t) (contains_either lower after t k)))

  -- the old leads in their parts
  pub leads_are : b.words.letters.leads ≡ leads_of lower ++ leads_of before
  leads_are =
      ap (λ (l : Rattle.word_laws.specs.Words.Letters). l.leads) B.letters ∙
      (ap (map lead_monomial) values_are ∙ map-append lead_monomial L T)

  pub comparable : Rattle.toric_ideal.specs.Increasing.AreComparable O b.words.letters.leads
  comparable m k =
      let r = map_contains lead_monomial (values_of b.elements) m (subst (λ ms. Contains ms m) (ap (λ (l : Rattle.word_laws.specs.Words.Letters). l.leads) B.letters) k) in
      let q = map_contains (λ (t : Tracked F E). t.value) b.elements r.0 r.1 in
      let e = element q.0 q.1 in
      let at : lead_monomial (let t : Tracked F E = q.0 in t.value) ≡ m = ap lead_monomial q.2 ∙ r.2 in
      subst (Rattle.toric_ideal.specs.Increasing.IsComparable O) at (record {
        monomial = found_monomial K H.field O H.order (let t : Tracked F E = q.0 in t.value) (IsDecreasing_IsPoly K O (let t : Tracked F E = q.0 in t.value) e.monic.decreasing) (lead_monomial (let t : Tracked F E = q.0 in t.value)) (λ z. H.field.one_not_zero (sym e.monic.monic ∙ z));
        small = degree_small q.0 q.1;
      })
    where
      degree_small : (t : Tracked F E) → Contains b.elements t → degree_of O t.value ≤ 65535
      degree_small t k =
          let s = B.words.small in
          ⊎_elim (λ i. let l = low t i in omega arith) (λ i. let l = equal t i in omega arith) (contains_either lower before t (subst (λ xs. Contains xs t) p.whole k))

  -- two old elements of the last degree with one lead are the same
  same_lead : AllPairs (λ m n. m ≢ n) (leads_of before) → (i j : ℕ) (z : Tracked F E) → i < j → j < length before → (let x : Tracked F E = get_or before i z in lead_monomial x.value) ≡ (let x : Tracked F E = get_or before j z in lead_monomial x.value) → ⊥
  same_lead h i j z l k e =
      let v = length-map before (λ (u : Tracked F E). u.value) in
      let w = length-map (values_of before) lead_monomial in
      h i j (let x : Tracked F E = z in lead_monomial x.value) l (omega arith) (at i (omega arith) ∙ (e ∙ sym (at j k)))
    where
      at : (i : ℕ) → i < length before → get_or (leads_of before) i (let x : Tracked F E = z in lead_monomial x.value) ≡ (let x : Tracked F E = get_or before i z in lead_monomial x.value)
      at i l =
          let v = length-map before (λ (u : Tracked F E). u.value) in
          get_or-map lead_monomial (values_of before) i (let x : Tracked F E = z in x.value) (let x : Tracked F E = z in lead_monomial x.value) (omega arith) ∙
          ap lead_monomial (get_or-map (λ (u : Tracked F E). u.value) before i z (let x : Tracked F E = z in x.value) l)

  as_sum : (us : List (Tracked F E)) (a : Polynomial E) → HasSum P H W L before d us a → IsLinearSum P (values_of us) a
  as_sum us a h = record { constants = h.constants; values = h.values; sum = h.sum }

  -- the new elements are settled, if each old one is found among those that were taken
  pub are_settled : (new : List (Tracked F E)) (ms : List Exponents) (us : List (Tracked F E)) → new ≡ lower ++ us → IsIncreasing O ms → AreMadeFrom P W before [] ms us →
      ((t : Tracked F E) → Contains before t → Contains ms (lead_monomial t.value)) →
      ((t u : Tracked F E) → Contains before t → Contains before u → lead_monomial t.value ≡ lead_monomial u.value → t ≡ u) →
      ((u : Tracked F E) → Contains us u → degree_of O u.value ≡ d) → AreSettled P d b.elements new
  are_settled new ms us whole rise made found one degrees =
      let r = all_made P H W L before d are_old [] ms us (record { parts = λ u k. absurd (contains_none u k); monic = λ u k. absurd (contains_none u k); reduced = tt }) rise (λ v k. absurd (contains_none v k)) made in
      let i : IsIncreasing O (leads_of us) = subst (IsIncreasing O) (sym r.1) rise in
      record {
        lower = lower;
        before = before;
        after = us;
        old_parts = p;
        new_parts = record {
          whole = whole;
          lower_less = p.lower_less;
          last_equal = contains-All (λ (t : Tracked F E). degree_of O t.value ≡ d) us degrees;
        };
        increasing = i;
        reduced = both_ways P H W L before d us r.0 i;
        sums = contains-All (λ (t : Tracked F E). IsLinearSum P (values_of us) t.value) before
            (λ t k. let f = r.2 (lead_monomial t.value) (found t k) in
            subst (λ (x : Tracked F E). IsLinearSum P (values_of us) x.value) (one f.0 t f.1 k f.2) (as_sum us (let x : Tracked F E = f.0 in x.value) f.3));
        monomials = λ t m k n. (r.0.parts t k).monomials m n;
      }

  -- two old elements with one lead are the same
  pub one_lead : AllPairs (λ m n. m ≢ n) (leads_of before) → (t u : Tracked F E) → Contains before t → Contains before u → lead_monomial t.value ≡ lead_monomial u.value → t ≡ u
  one_lead h t u k l e =
      let a = k.1 in
      let b = l.1 in
      let x : get_or before l.0 t ≡ u = get_or_default before l.0 t u l.1 ∙ l.2 in
      let f : (let y : Tracked F E = get_or before k.0 t in lead_monomial y.value) ≡ (let y : Tracked F E = get_or before l.0 t in lead_monomial y.value) =
      ap (λ (y : Tracked F E). lead_monomial y.value) k.2 ∙ (e ∙ sym (ap (λ (y : Tracked F E). lead_monomial y.value) x)) in
      ⊎_elim (λ q. sym k.2 ∙ (ap (λ i. get_or before i t) q ∙ x))
      (λ n. absurd (⊎_elim (λ q. same_lead h k.0 l.0 t q l.1 f) (λ o. same_lead h l.0 k.0 t (omega (arith, n, o)) k.1 (sym f)) (le_or_not (suc k.0) l.0)))
      (numbers_or_not k.0 l.0)

  -- how many elements have smaller degrees
  pub count_is : (n e : ℕ) (leads : List Exponents) → leads ≡ b.words.letters.leads → e ≡ d →
      ((lo la : List Exponents) → leads ≡ lo ++ la → All (λ m. O.degree m < e) lo → All (λ m. e ≤ O.degree m) la → n ≡ length lo) → n ≡ length lower
  count_is n e leads same at h =
      let v = length-map lower (λ (u : Tracked F E). u.value) in
      let w = length-map (values_of lower) lead_monomial in
      let r = h (leads_of lower) (leads_of before) (same ∙ leads_are)
      (contains-All (λ m. O.degree m < e) (leads_of lower) (λ m k. let q = map_contains lead_monomial (values_of lower) m k in
      let t = map_contains (λ (t : Tracked F E). t.value) lower q.0 q.1 in
      let l = low t.0 t.1 in
      let i : degree_of O (let y : Tracked F E = t.0 in y.value) ≡ O.degree m = ap O.degree (ap lead_monomial t.2 ∙ q.2) in omega arith))
      (contains-All (λ m. e ≤ O.degree m) (leads_of before) (λ m k. let q = map_contains lead_monomial (values_of before) m k in
      let t = map_contains (λ (t : Tracked F E). t.value) before q.0 q.1 in
      let l = equal t.0 t.1 in
      let i : degree_of O (let y : Tracked F E = t.0 in y.value) ≡ O.degree m = ap O.degree (ap lead_monomial t.2 ∙ q.2) in omega arith)) in
      omega arith

  pub count_within : (n : ℕ) → n ≡ length lower → n ≤ length b.elements
  count_within n h = let a = ap length p.whole in let c = length-append lower before in omega arith

  -- the leads of the last elements
  pub last_leads : (n : ℕ) → n ≡ length lower → drop n b.words.letters.leads ≡ map lead_monomial (values_of (drop n b.elements))
  last_leads n h =
      ap (drop n) (ap (λ (l : Rattle.word_laws.specs.Words.Letters). l.leads) B.letters) ∙
      (drop-map lead_monomial n (values_of b.elements) ∙ ap (map lead_monomial) (drop-map (λ (t : Tracked F E). t.value) n b.elements))

  pub last_canonical : (n : ℕ) → All (IsCanonicalPair K O W) (drop n b.elements)
  last_canonical n = All-drop (IsCanonicalPair K O W) n b.elements (contains-All (IsCanonicalPair K O W) b.elements (λ t k. (element t k).tracked.canonical))

  pub last_comparable : (n : ℕ) → Rattle.toric_ideal.specs.Increasing.AreComparable O (drop n b.words.letters.leads)
  last_comparable n m k = comparable m (subst (λ ms. Contains ms m) (take-append-drop n b.words.letters.leads) (contains_right (take n b.words.letters.leads) (drop n b.words.letters.leads) m k))

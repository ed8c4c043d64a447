-- Elements whose witnesses use elements of smaller degree alone are members of the subalgebra.
use Rattle.std.proofs.Common.{◌≡◌, ◌≢◌, ℕ, zero, suc, ◌+◌, ◌<◌, refl, sym, ◌∙◌, ap, subst, List, [], ◌∷◌, ◌++◌, length, get_or, length-append, arith}
use Rattle.std.specs.Prelude.{All, replicate}
use Rattle.std.proofs.lemmas.List.{length-map, get_or-map, get_or_append_left, get_or-append-add}
use Rattle.word_field.specs.Field.{FieldOps, IsField}
use Rattle.monomial_order.specs.Monomial.{Exponents, exponent}
use Rattle.monomial_order.specs.MonomialOrder.{MonomialOrder, IsMonomialOrder}
use Rattle.monomial_order.specs.Orders.{word_order}
use Rattle.monomial_order.specs.laws.Lists.{contains_at}
use Rattle.monomial_order.specs.laws.Orders.{ArePositive, word_order_laws}
use Rattle.polynomials.specs.Polynomial.{Polynomial, coefficient, Same, constant, degree_of, AllAt, IsPoly}
use Rattle.polynomials.specs.Value.{power, monomial_value, term_value, value}
use Rattle.polynomials.specs.Subalgebra.{Presented, IsPresentation, InSubalgebra}
use Rattle.polynomials.specs.laws.Canonical.{canonical}
use Rattle.polynomials.specs.laws.Congruence.{congruent_same, congruent_trans}
use Rattle.polynomials.specs.laws.Coefficients.{constant_poly}
use Rattle.polynomials.specs.laws.Decreasing.{IsDecreasing_IsPoly}
use Rattle.polynomials.specs.laws.Degrees.{decreasing_all}
use Rattle.polynomials.specs.laws.Value.{value_same}
use Rattle.polynomials.specs.laws.Membership.{ArePolys, IsPoly-power, sub_congruent, sub_plus, sub_times}
use Rattle.subalgebra_laws.specs.laws.Members.{sub_constant, sub_zero, generator_sub, generator_poly}
use Rattle.witness.specs.declared.tracked.Tracked.{Tracked}
use Rattle.witness.specs.laws.Letters.{by_place}
use Rattle.witness.specs.Tracking.{values_of, Tracks, IsLowerElement, IsTrackedElement}

abbrev ones : ℕ → List ℕ
ones n = replicate n 1

ones_positive : (n : ℕ) → ArePositive (ones n)
ones_positive zero = tt
ones_positive (suc n) = (omega arith, ones_positive n)

length_ones : (n : ℕ) → length (ones n) ≡ n
length_ones zero = refl
length_ones (suc n) = ap suc (length_ones n)

module _ {E : Type 0} (K : FieldOps E) (F : IsField K) where
  -- the same polynomial with each monomial once
  pub plain : (n : ℕ) (p : Polynomial E) (Q : Exponents → Type 0) → IsPoly K n p → ((m : Exponents) → coefficient K p m ≢ K.zero → Q m) →
      (q : Polynomial E) × IsPoly K n q × Same K q p × AllAt Q q
  plain n p Q h k =
      let O : MonomialOrder = word_order [] (ones n) in
      let L : IsMonomialOrder O = word_order_laws [] (ones n) (ones_positive n) in
      let r = canonical K F O L p (subst (λ i. IsPoly K i p) (sym (length_ones n)) h) in (
        r.0,
        subst (λ i. IsPoly K i r.0) (length_ones n) (IsDecreasing_IsPoly K O r.0 r.1.decreasing),
        r.1.same,
        decreasing_all K F O L Q r.0 r.1.decreasing (λ m c. k m (λ z. c (r.1.same m ∙ z))),
      )

module _ {E : Type 0} (P : Presented E) (H : IsPresentation P) where
  open P use {field as K, order as O, ideal as rs, generators as fs}
  open H use {field as F}

  power_member : (f : Polynomial E) (e : ℕ) → IsPoly K O.places f → InSubalgebra P f → InSubalgebra P (power K f e)
  power_member f zero p h = sub_constant P H K.one F.one_value
  power_member f (suc e) p h = sub_times P H f (power K f e) p h (power_member f e p h)

  monomial_member : (m : Exponents) (at : List (Polynomial E)) → ArePolys K F O.places at → ((i : ℕ) → exponent m i ≢ 0 → i < length at → InSubalgebra P (get_or at i [])) → InSubalgebra P (monomial_value K m at)
  monomial_member [] at p h = sub_constant P H K.one F.one_value
  monomial_member (e ∷ m) [] p h = sub_constant P H K.one F.one_value
  monomial_member (zero ∷ m) (f ∷ at) p h =
      sub_times P H (power K f 0) (monomial_value K m at) (IsPoly-power K F O.places f 0 p.0) (sub_constant P H K.one F.one_value)
      (monomial_member m at p.1 (λ i n l. h (suc i) n (omega arith)))
  monomial_member (suc e ∷ m) (f ∷ at) p h =
      sub_times P H (power K f (suc e)) (monomial_value K m at) (IsPoly-power K F O.places f (suc e) p.0) (power_member f (suc e) p.0 (h 0 (omega arith) (omega arith)))
      (monomial_member m at p.1 (λ i n l. h (suc i) n (omega arith)))

  -- the value at polynomials of which those that are used are members
  pub value_member : (n : ℕ) (h : Polynomial E) (at : List (Polynomial E)) → ArePolys K F O.places at → IsPoly K n h →
      AllAt (λ m. (i : ℕ) → exponent m i ≢ 0 → i < length at → InSubalgebra P (get_or at i [])) h → InSubalgebra P (value K h at)
  value_member n [] at p hp a = sub_zero P H
  value_member n (t ∷ h) at p hp a =
      sub_plus P H (term_value K at t) (value K h at)
      (sub_times P H (constant K t.by) (monomial_value K t.at at) (constant_poly K F O.places t.by hp.0.value) (sub_constant P H t.by hp.0.value) (monomial_member t.at at p a.0))
      (value_member n h at p hp.1 a.1)

  polys : (gs : List (Polynomial E)) → ((i : ℕ) → i < length gs → IsPoly K O.places (get_or gs i [])) → ArePolys K F O.places gs
  polys [] h = tt
  polys (g ∷ gs) h = (h 0 (omega arith), polys gs (λ i l. h (suc i) (omega arith)))

  -- the generators and elements are polynomials in the places
  pub places_polys : (S : List (Polynomial E)) → ((j : ℕ) → j < length S → IsPoly K O.places (get_or S j [])) → ArePolys K F O.places (fs ++ S)
  places_polys S h = polys (fs ++ S) (λ i l. by_place (length fs) (length S) (λ i. IsPoly K O.places (get_or (fs ++ S) i []))
      (λ i l. subst (IsPoly K O.places) (sym (get_or_append_left fs S [] i l)) (generator_poly P H (get_or fs i []) (contains_at fs i [] l)))
      (λ j l. subst (IsPoly K O.places) (sym (get_or-append-add fs S j [])) (h j l))
      i (let n = length-append fs S in omega arith))

  module _ {A : Type 0} (s : List (Tracked A E)) (h : All (IsLowerElement P (values_of s)) s) where
    abbrev S : List (Polynomial E)
    S = values_of s

    length_S : length S ≡ length s
    length_S = length-map s (λ t. t.value)

    value_at : (i : ℕ) (t : Tracked A E) → i < length s → get_or S i [] ≡ (let u : Tracked A E = get_or s i t in u.value)
    value_at i t l = get_or-map (λ u. u.value) s i t [] l

    S_poly : (j : ℕ) → j < length S → IsPoly K O.places (get_or S j [])
    S_poly j l =
        let d : Tracked A E = record { value = []; by = [] } in
        subst (IsPoly K O.places) (sym (value_at j d (let n = length_S in omega arith))) (let e = h j d (let n = length_S in omega arith) in e.value)

    all_polys : ArePolys K F O.places (fs ++ S)
    all_polys = places_polys S S_poly

    -- a value is a member if the elements that its witness uses are
    from_used : (t : Tracked A E) → IsPoly K (length fs + length S) t.by → Tracks P S t →
        ((m : Exponents) → coefficient K t.by m ≢ K.zero → (j : ℕ) → exponent m (length fs + j) ≢ 0 → j < length S → InSubalgebra P (get_or S j [])) → InSubalgebra P t.value
    from_used t p c used =
        let q = plain K F (length fs + length S) t.by (λ m. (i : ℕ) → exponent m i ≢ 0 → i < length (fs ++ S) → InSubalgebra P (get_or (fs ++ S) i [])) p
        (λ m k i n l. by_place (length fs) (length S) (λ i. exponent m i ≢ 0 → InSubalgebra P (get_or (fs ++ S) i []))
        (λ i l n. subst (InSubalgebra P) (sym (get_or_append_left fs S [] i l)) (generator_sub P H (get_or fs i []) (contains_at fs i [] l)))
        (λ j l n. subst (InSubalgebra P) (sym (get_or-append-add fs S j [])) (used m k j n l))
        i (let a = length-append fs S in omega arith) n) in
        sub_congruent P H (value K q.0 (fs ++ S)) t.value (value_member (length fs + length S) q.0 (fs ++ S) all_polys q.1 q.3)
        (congruent_trans K F O.places rs t.value (value K t.by (fs ++ S)) (value K q.0 (fs ++ S)) c
        (congruent_same K F O.places rs (value K t.by (fs ++ S)) (value K q.0 (fs ++ S)) (λ m. sym (value_same K F q.0 t.by (fs ++ S) q.2 m))))

    element_below : (d j : ℕ) → j < length S → degree_of O (get_or S j []) < d → InSubalgebra P (get_or S j [])
    element_below zero j l b = absurd (omega arith)
    element_below (suc d) j l b =
        let z : Tracked A E = record { value = []; by = [] } in
        let n = length_S in
        let inside : j < length s = omega arith in
        let u : Tracked A E = get_or s j z in
        let e : get_or S j [] ≡ u.value = value_at j z inside in
        let r : IsLowerElement P S u = h j z inside in
        subst (InSubalgebra P) (sym e)
        (from_used u r.by r.tracks (λ m k i x l. element_below d i l (let a = r.lower m k i x in let c : degree_of O (get_or S j []) ≡ degree_of O u.value = ap (degree_of O) e in omega arith)))

    pub element_member : (j : ℕ) → j < length S → InSubalgebra P (get_or S j [])
    element_member j l = element_below (suc (degree_of O (get_or S j []))) j l (omega arith)

    -- each element is a member of the subalgebra
    pub elements_are_members : All (λ t. InSubalgebra P t.value) s
    elements_are_members j z l =
        subst (InSubalgebra P) (value_at j z l) (element_member j (let n = length_S in omega arith))

    -- and so is each value with a witness over them
    pub tracked_member : (t : Tracked A E) → IsPoly K (length fs + length s) t.by → Tracks P S t → InSubalgebra P t.value
    tracked_member t p c = from_used t (subst (λ n. IsPoly K (length fs + n) t.by) (sym length_S) p) c (λ m k j n l. element_member j l)

module _ {A E : Type 0} (P : Presented E) (W : MonomialOrder) (s : List (Tracked A E)) (h : All (IsTrackedElement P W (values_of s)) s) where
  -- elements are polynomials in the places
  pub element_polys : (j : ℕ) → j < length (values_of s) → IsPoly P.field P.order.places (get_or (values_of s) j [])
  element_polys j l =
      let z : Tracked A E = record { value = []; by = [] } in
      let inside : j < length s = let n = length-map s (λ t. t.value) in omega arith in
      let e = h j z inside in
      subst (IsPoly P.field P.order.places) (sym (get_or-map (λ t. t.value) s j z [] inside)) (IsDecreasing_IsPoly P.field P.order (let t : Tracked A E = get_or s j z in t.value) e.canonical.value.decreasing)

  -- what is asked of elements is enough for the law
  pub tracked_are_lower : W.places ≡ length P.generators + length (values_of s) → All (IsLowerElement P (values_of s)) s
  tracked_are_lower places j z l =
      let e = h j z l in
      let t : Tracked A E = get_or s j z in
      record {
        value = IsDecreasing_IsPoly P.field P.order t.value e.canonical.value.decreasing;
        by = subst (λ n. IsPoly P.field n t.by) places (IsDecreasing_IsPoly P.field W t.by e.canonical.by.decreasing);
        tracks = e.tracks;
        lower = e.lower;
      }

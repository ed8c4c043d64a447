-- The elements of a basis to a degree, and the parts that are made anew for them.
use Rattle.std.proofs.Common.{◌≡◌, ◌≢◌, ℕ, suc, ◌+◌, ◌<◌, ◌≤◌, get_or, take, drop, refl, sym, ◌∙◌, ap, subst, List, [], ◌∷◌, ◌++◌, length, append_assoc, length-append, ⊎_elim, arith, add-one, drop-cons}
use Rattle.std.specs.Prelude.{Contains, map, All}
use Rattle.std.proofs.lemmas.List.{take_at, take_more, take-append-drop, get_or-map, get_or_append_left, length-map, map-append}
use Rattle.std.proofs.lemmas.List.Elements.{All-contains}
use Rattle.monomial_order.specs.Monomial.{Exponents, IsMonomial}
use Rattle.monomial_order.specs.MonomialOrder.{MonomialOrder, IsIncreasing}
use Rattle.monomial_order.specs.declared.word_order.WordOrder.{WordOrder}
use Rattle.monomial_order.specs.laws.Comparing.{degree_falls, increasing_below, increasing_tail, le_or_not}
use Rattle.monomial_order.specs.laws.Lists.{contains_at, contains_cases, contains_here, contains_left, contains_map, contains_right, map_contains}
use Rattle.monomial_order.specs.laws.Monomial.{exponent_past}
use Rattle.poly_core.specs.Presentation.{generator_degree}
use Rattle.polynomials.specs.Polynomial.{Polynomial, coefficient, degree_of, lead_monomial}
use Rattle.polynomials.specs.Subalgebra.{Presented, IsGenerated, IsPresentation}
use Rattle.polynomials.specs.laws.Coefficients.{found_monomial}
use Rattle.polynomials.specs.laws.Decreasing.{IsDecreasing_IsPoly}
use Rattle.polynomials.specs.laws.Degrees.{decreasing_all}
use Rattle.subalgebra_laws.specs.Bases.{HasMinimalLeads}
use Rattle.subalgebra_laws.specs.Statements.{ForMonicElements, ProductsAreImages}
use Rattle.toric_ideal.specs.Increasing.{IsComparable}
use Rattle.toric_ideal.specs.Listing.{IsListing, IsNewLead, Listing}
use Rattle.witness.specs.declared.tracked.Tracked.{Tracked}
use Rattle.witness.specs.Tracking.{by_order, values_of, IsTrackedElement, IsWitnessOrder, Tracks, UsesLower}
use Rattle.witness.specs.laws.Letters.{by_laws, by_places}
use Rattle.witness.specs.laws.Longer.{canonical_front, same_degree}
use Rattle.word_laws.specs.Words.{image_of, IsSWord, Letters}
use Rattle.subduction.specs.Basis.{BasisState, IsBasisElement, IsBasisOf}
use Rattle.subduction.specs.Cutting.{AreNextInTurn, IsCutAt, IsFront, IsNextAfter}
use Rattle.subduction.specs.laws.Parts.{contains-All, generated_more}
use Rattle.subduction.proofs.Elements.{degree_is, monic_elements, places_is, standard_not_zero}
use Rattle.subduction.proofs.Pushing.{pushed_basis}
use Rattle.subduction.proofs.SettledBasis.{front_of, tracks_front, HasFront}

-- a list before and behind one of its members
pub split_here : {A : Type 0} (ts : List A) (i : ℕ) (t : A) → i < length ts → t ≡ get_or ts i t → ts ≡ take i ts ++ (t ∷ drop (i + 1) ts)
split_here ts i t l e =
    let split : drop i ts ≡ get_or ts i t ∷ drop (suc i) ts = drop-cons ts i t l in
    sym (take-append-drop i ts) ∙
    ap (λ x. take i ts ++ x) (split ∙ (ap (λ x. x ∷ drop (suc i) ts) (sym e) ∙ ap (λ k. t ∷ drop k ts) (sym (add-one i))))

pub take_here : {A : Type 0} (ts : List A) (i : ℕ) (t : A) → i < length ts → t ≡ get_or ts i t → take (i + 1) ts ≡ take i ts ++ t ∷ []
take_here ts i t l e = take_more ts i t l ∙ ap (λ x. take i ts ++ x ∷ []) (sym e)

module _ {F E : Type 0} where
  abbrev pub leads_of : List (Tracked F E) → List Exponents
  leads_of ts = map lead_monomial (values_of ts)

  pub leads_append : (ts us : List (Tracked F E)) → leads_of (ts ++ us) ≡ leads_of ts ++ leads_of us
  leads_append ts us = ap (map lead_monomial) (map-append (λ (t : Tracked F E). t.value) ts us) ∙ map-append lead_monomial (values_of ts) (values_of us)

  lead_in : (ts : List (Tracked F E)) (t : Tracked F E) → Contains ts t → Contains (leads_of ts) (lead_monomial t.value)
  lead_in ts t k = contains_map lead_monomial (values_of ts) t.value (contains_map (λ (t : Tracked F E). t.value) ts t k)

module _ {F E : Type 0} (P : Presented E) (H : IsPresentation P) where
  open P use {field as K, order as O, generators as fs}
  open H use {field as F', order as M}

  -- the degrees of elements that increase rise
  rising_tail : (t : Tracked F E) (ts : List (Tracked F E)) → IsIncreasing O (leads_of (t ∷ ts)) → (u : Tracked F E) → Contains ts u → degree_of O t.value ≤ degree_of O u.value
  rising_tail t ts h u k =
      degree_falls O M (lead_monomial t.value) (lead_monomial u.value) (increasing_below O M (lead_monomial t.value) (leads_of ts) h (lead_monomial u.value) (lead_in ts u k))

  rising_in : (before after : List (Tracked F E)) (t u : Tracked F E) → IsIncreasing O (leads_of (before ++ (t ∷ after))) → Contains after u → degree_of O t.value ≤ degree_of O u.value
  rising_in [] after t u h k = rising_tail t after h u k
  rising_in (x ∷ before) after t u h k = rising_in before after t u (increasing_tail O (lead_monomial x.value) (leads_of (before ++ (t ∷ after))) h) k

  cut_behind : (d : ℕ) (t : Tracked F E) (ts new : List (Tracked F E)) → IsCutAt P d ts new → degree_of O t.value ≤ d → IsCutAt P d (t ∷ ts) (t ∷ new)
  cut_behind d t ts new c l = record {
    rest = c.rest;
    whole = ap (λ xs. t ∷ xs) c.whole;
    at_most = contains-All (λ (u : Tracked F E). degree_of O u.value ≤ d) (t ∷ new)
        (λ u k. ⊎_elim (λ e. subst (λ (x : Tracked F E). degree_of O x.value ≤ d) e l)
        (λ i. All-contains (λ (x : Tracked F E). degree_of O x.value ≤ d) new u c.at_most i) (contains_cases t new u k));
    above = c.above;
  }

  cut_before : (d : ℕ) (t : Tracked F E) (ts : List (Tracked F E)) → IsIncreasing O (leads_of (t ∷ ts)) → suc d ≤ degree_of O t.value → IsCutAt P d (t ∷ ts) []
  cut_before d t ts h n = record {
    rest = t ∷ ts;
    whole = refl;
    at_most = λ i u l. absurd (omega arith);
    above = contains-All (λ (u : Tracked F E). d < degree_of O u.value) (t ∷ ts)
        (λ u k. ⊎_elim (λ e. subst (λ (x : Tracked F E). d < degree_of O x.value) e (omega arith))
        (λ i. let r = rising_tail t ts h u i in omega arith) (contains_cases t ts u k));
  }

  -- elements that increase can be cut at each degree
  pub cut_of : (d : ℕ) (ts : List (Tracked F E)) → IsIncreasing O (leads_of ts) → (new : List (Tracked F E)) × IsCutAt P d ts new
  cut_of d [] h = ([], record { rest = []; whole = refl; at_most = λ i t l. absurd (omega arith); above = λ i t l. absurd (omega arith) })
  cut_of d (t ∷ ts) h =
      let r = cut_of d ts (increasing_tail O (lead_monomial t.value) (leads_of ts) h) in
      ⊎_elim (λ l. ([], cut_before d t ts h l)) (λ n. (t ∷ r.0, cut_behind d t ts r.0 r.1 (omega (arith, n)))) (le_or_not (suc d) (degree_of O t.value))

  -- how many these are
  pub cut_count : (d n : ℕ) (leads : List Exponents) (old new : List (Tracked F E)) → leads ≡ leads_of old → IsCutAt P d old new →
      ((lower last : List Exponents) → leads ≡ lower ++ last → All (λ m. O.degree m < d + 1) lower → All (λ m. d + 1 ≤ O.degree m) last → n ≡ length lower) → n ≡ length new
  cut_count d n leads old new e c h =
      h (leads_of new) (leads_of c.rest) (e ∙ (ap leads_of c.whole ∙ leads_append new c.rest))
      (contains-All (λ m. O.degree m < d + 1) (leads_of new) (λ m k. let q = map_contains lead_monomial (values_of new) m k in
      let t = map_contains (λ (t : Tracked F E). t.value) new q.0 q.1 in
      let l = All-contains (λ (x : Tracked F E). degree_of O x.value ≤ d) new t.0 c.at_most t.1 in
      let i : degree_of O (let y : Tracked F E = t.0 in y.value) ≡ O.degree m = ap O.degree (ap lead_monomial t.2 ∙ q.2) in omega arith))
      (contains-All (λ m. d + 1 ≤ O.degree m) (leads_of c.rest) (λ m k. let q = map_contains lead_monomial (values_of c.rest) m k in
      let t = map_contains (λ (t : Tracked F E). t.value) c.rest q.0 q.1 in
      let l = All-contains (λ (x : Tracked F E). d < degree_of O x.value) c.rest t.0 c.above t.1 in
      let i : degree_of O (let y : Tracked F E = t.0 in y.value) ≡ O.degree m = ap O.degree (ap lead_monomial t.2 ∙ q.2) in omega arith)) ∙
      (length-map (values_of new) lead_monomial ∙ length-map new (λ (t : Tracked F E). t.value))

  module _ (b : BasisState F E) (B : IsBasisOf P b) (inc : IsIncreasing O (leads_of b.elements)) (minimal : HasMinimalLeads P (values_of b.elements)) where
    abbrev W : MonomialOrder
    W = by_order b.by_order

    module _ (before after : List (Tracked F E)) (t : Tracked F E) (e : b.elements ≡ before ++ (t ∷ after)) where
      abbrev L : List (Polynomial E)
      L = values_of (before ++ t ∷ [])

      abbrev T : List (Polynomial E)
      T = values_of after

      abbrev gs : List ℕ
      gs = map (generator_degree O) fs

      values_are : values_of b.elements ≡ L ++ T
      values_are = ap values_of (e ∙ sym (append_assoc before (t ∷ []) after)) ∙ map-append (λ (t : Tracked F E). t.value) (before ++ t ∷ []) after

      element : IsBasisElement P b t
      element = All-contains (IsBasisElement P b) b.elements t B.elements (subst (λ xs. Contains xs t) (sym e) (contains_right before (t ∷ after) t (contains_here t after)))

      higher : (j : ℕ) → j < length T → degree_of O t.value ≤ degree_of O (get_or T j [])
      higher j l =
          let n = length-map after (λ (u : Tracked F E). u.value) in
          let at = ap (degree_of O) (get_or-map (λ (u : Tracked F E). u.value) after j t [] (omega arith)) in
          let r = rising_in before after t (get_or after j t) (subst (λ ts. IsIncreasing O (leads_of ts)) e inc) (contains_at after j t (omega arith)) in
          omega arith

      uses : UsesLower P (L ++ T) t
      uses = subst (λ S. UsesLower P S t) values_are element.tracked.lower

      front : HasFront P H W (by_laws b.by_order) L t
      front = front_of P H W (by_laws b.by_order) L T t
          (by_places P (values_of b.elements) b.by_order B.by_order ∙ ap (λ S. length fs + length S) values_are)
          element.tracked.canonical.by uses higher

      lower : UsesLower P L t
      lower m n i x =
          ⊎_elim (λ l. subst (λ s. degree_of O s < degree_of O t.value) (get_or_append_left L T [] i l) (uses m n i x))
          (λ o. absurd (x (exponent_past m (length fs + i) (let f = front m n in omega (arith, o)))))
          (le_or_not (suc i) (length L))

      module _ (w : WordOrder) (I : IsWitnessOrder P L w) where
        more : b.by_order.s_degrees.items ≡ w.s_degrees.items ++ map (degree_of O) T
        more =
            B.by_order.degrees ∙
            (ap (λ S. gs ++ map (degree_of O) S) values_are ∙
            (ap (λ ds. gs ++ ds) (map-append (degree_of O) L T) ∙
            (sym (append_assoc gs (map (degree_of O) L) (map (degree_of O) T)) ∙
            ap (λ x. x ++ map (degree_of O) T) (sym I.degrees))))

        places : (let V : MonomialOrder = by_order w in V.places) ≡ length fs + length L
        places = by_places P L w I

        tracked_front : IsTrackedElement P (by_order w) L t
        tracked_front =
            let k = element.tracked in
            let N = by_laws b.by_order in
            let c = k.canonical.by in
            record {
              tracks = tracks_front P H W N L T t c front (subst (λ S. Tracks P S t) values_are k.tracks);
              canonical = record {
                value = k.canonical.value;
                by = canonical_front w b.by_order (map (degree_of O) T) I.no_x B.by_order.no_x more K F' t.by
                    (decreasing_all K F' W N (λ m. let V : MonomialOrder = by_order w in IsMonomial V.places m) t.by c.decreasing
                    (λ m n. record {
                      trimmed = let l = found_monomial K F' W N t.by (IsDecreasing_IsPoly K W t.by c.decreasing) m n in l.trimmed;
                      within = let f = front m n in let p = places in omega arith;
                    })) c;
              };
              graded = record {
                value = k.graded.value;
                by = λ m n. sym (same_degree w b.by_order (map (degree_of O) T) I.no_x B.by_order.no_x more m (let f = front m n in let p = places in omega arith)) ∙ k.graded.by m n;
              };
              lower = lower;
            }

      pub next_after : IsNextAfter P before t
      next_after = record {
        tracked = tracked_front;
        monic = element.monic;
        standard = element.standard;
        fresh = λ g.
            minimal (values_of before) (values_of after) t.value (ap values_of e ∙ map-append (λ (t : Tracked F E). t.value) before (t ∷ after))
            (subst (λ ms. IsGenerated ms (lead_monomial t.value)) (sym (map-append lead_monomial (values_of before) (values_of after)))
            (generated_more (leads_of before) (leads_of after) (lead_monomial t.value) g));
      }

    -- the elements to a degree can come one after the other
    pub next_in_turn : (d : ℕ) (new : List (Tracked F E)) → IsCutAt P d b.elements new → AreNextInTurn P d new
    next_in_turn d new c = record {
      next = λ before after t e. next_after before (after ++ c.rest) t (whole before after t e);
      rising = λ before after t u e k.
          rising_in before (after ++ c.rest) t u (subst (λ ts. IsIncreasing O (leads_of ts)) (whole before after t e) inc) (contains_left after c.rest u k);
      low = c.at_most;
    }
      where
        whole : (before after : List (Tracked F E)) (t : Tracked F E) → new ≡ before ++ (t ∷ after) → b.elements ≡ before ++ (t ∷ (after ++ c.rest))
        whole before after t e = c.whole ∙ (ap (λ xs. xs ++ c.rest) e ∙ append_assoc before (t ∷ after) c.rest)

  -- the next element is taken up
  module _ (b : BasisState F E) (B : IsBasisOf P b) (t : Tracked F E) (n : IsNextAfter P b.elements t) where
    some : coefficient K t.value (lead_monomial t.value) ≢ K.zero
    some z = F'.one_not_zero (sym n.monic.monic ∙ z)

    pub comparable : degree_of O t.value ≤ b.quotient.degree → IsComparable O (lead_monomial t.value)
    comparable l =
        let s = n.standard (lead_monomial t.value) some in
        record { monomial = s.monomial; small = let q = B.quotient.small in omega arith }

    module _ (d : degree_of O t.value ≡ b.words.degree) where
      pub new_lead : ForMonicElements E ProductsAreImages → IsNewLead b.words (lead_monomial t.value)
      new_lead law =
          let m = lead_monomial t.value in
          let s = n.standard m some in
          record {
            monomial = subst (λ k. IsMonomial k m) (sym (places_is P H b B)) s.monomial;
            degree = degree_is P H b B m s.monomial ∙ d;
            standard = standard_not_zero P H b B m s;
            fresh = λ x w i. n.fresh ((law P (values_of b.elements) H (monic_elements P H b B) m).1 (x, subst (λ L. IsSWord L x) B.letters w, subst (λ L. image_of L x ≡ m) B.letters i));
          }

      pub taken_up : (W : Listing) (w : WordOrder) → IsListing W →
          W.letters ≡ (let L : Letters = record { degrees = b.words.letters.degrees; leads = b.words.letters.leads ++ lead_monomial t.value ∷ [] } in L) →
          W.zeros ≡ b.words.zeros → W.degree ≡ b.words.degree → w.x_degrees.items ≡ b.by_order.x_degrees.items →
          w.s_degrees.items ≡ b.by_order.s_degrees.items ++ degree_of O t.value ∷ [] → IsFront P b.quotient W w (b.elements ++ t ∷ [])
      taken_up V w listed ls z x same last =
          pushed_basis P H b B (record { quotient = b.quotient; words = V; elements = b.elements ++ t ∷ []; by_order = w }) t refl none last
          (record { tracked = n.tracked w orders; monic = n.monic; standard = n.standard }) d refl listed ls z x
        where
          none : w.x_degrees.items ≡ []
          none = same ∙ B.by_order.no_x

          orders : IsWitnessOrder P (values_of (b.elements ++ t ∷ [])) w
          orders = record {
            no_x = none;
            degrees = last ∙ (ap (λ xs. xs ++ degree_of O t.value ∷ []) B.by_order.degrees ∙
                (append_assoc (map (generator_degree O) fs) (map (degree_of O) (values_of b.elements)) (degree_of O t.value ∷ []) ∙
                ap (λ xs. map (generator_degree O) fs ++ xs) (sym (ap (map (degree_of O)) (map-append (λ (u : Tracked F E). u.value) b.elements (t ∷ [])) ∙
                map-append (degree_of O) (values_of b.elements) (t.value ∷ [])))));
          }

  module _ (d : ℕ) (ts : List (Tracked F E)) (A : AreNextInTurn P d ts) (i : ℕ) (t : Tracked F E) (l : i < length ts) (e : t ≡ get_or ts i t) where
    pub next_here : IsNextAfter P (take i ts) t
    next_here = A.next (take i ts) (drop (i + 1) ts) t (split_here ts i t l e)

    pub rising_here : (u : Tracked F E) → Contains (drop (i + 1) ts) u → degree_of O t.value ≤ degree_of O u.value
    rising_here u k = A.rising (take i ts) (drop (i + 1) ts) t u (split_here ts i t l e) k

    pub low_here : degree_of O t.value ≤ d
    low_here = let a = A.low i t l in let q = ap (λ (x : Tracked F E). degree_of O x.value) e in omega arith

    pub is_here : Contains (drop i ts) t
    is_here =
        let split : drop i ts ≡ get_or ts i t ∷ drop (suc i) ts = drop-cons ts i t l in
        subst (λ xs. Contains xs t) (sym split) (subst (λ x. Contains (x ∷ drop (suc i) ts) t) e (contains_here t (drop (suc i) ts)))

  cut_take : (d n : ℕ) (old new : List (Tracked F E)) → IsCutAt P d old new → n ≡ length new → take n old ≡ new
  cut_take d n old new c e = ap (λ k. take k old) e ∙ (ap (take (length new)) c.whole ∙ take_at new c.rest (length new) refl)

  -- the first elements, as many as have no greater degree
  module _ (b : BasisState F E) (inc : IsIncreasing O (leads_of b.elements)) (d n : ℕ) (leads : List Exponents) (e : leads ≡ leads_of b.elements)
      (h : (lower last : List Exponents) → leads ≡ lower ++ last → All (λ m. O.degree m < d + 1) lower → All (λ m. d + 1 ≤ O.degree m) last → n ≡ length lower) where
    pub cut_front : IsCutAt P d b.elements (take n b.elements)
    cut_front =
        let r = cut_of d b.elements inc in
        subst (IsCutAt P d b.elements) (sym (cut_take d n b.elements r.0 r.1 (cut_count d n leads b.elements r.0 e r.1 h))) r.1

    pub cut_within : n ≤ length b.elements
    cut_within =
        let r = cut_of d b.elements inc in
        let c = r.1 in
        let k = cut_count d n leads b.elements r.0 e r.1 h in
        let w = ap length c.whole in
        let l = length-append r.0 c.rest in omega arith

-- The next element of a basis.
use Rattle.std.proofs.Common.{◌≡◌, ◌≢◌, ℕ, suc, ◌+◌, ◌-◌, ◌<◌, ◌≤◌, get_or, refl, sym, ◌∙◌, ap, subst, List, [], ◌∷◌, ◌++◌, length, cond, ⊎_elim, inr, arith}
use Rattle.std.specs.Prelude.{map, Contains}
use Rattle.std.proofs.lemmas.List.{get_or-append-add, get_or-map, get_or_append_left, length-append, length-map}
use Rattle.word_field.specs.Field.{FieldOps, IsField}
use Rattle.word_field.specs.laws.Field.{negate-times, times-zero, one-times, zero-plus-zero}
use Rattle.monomial_order.specs.Monomial.{Exponents, Divides, exponent, variable, IsMonomial}
use Rattle.monomial_order.specs.MonomialOrder.{MonomialOrder, IsMonomialOrder}
use Rattle.monomial_order.specs.laws.Comparing.{divisor_degree, equal_or_not, le_or_not, numbers_or_not, proper_divisor}
use Rattle.monomial_order.specs.laws.Lists.{contains_at, contains_cases, contains_either, contains_none}
use Rattle.monomial_order.specs.laws.Monomial.{exponent_past, variable_divides, variable_length, variable_off, variable_trimmed, variable_at}
use Rattle.polynomials.specs.Polynomial.{Polynomial, coefficient, degree_of, first_coefficient, lead_monomial, IsDecreasing, Same}
use Rattle.polynomials.specs.Subalgebra.{Presented, IsGenerated, IsPresentation}
use Rattle.polynomials.specs.laws.Same.{same_refl}
use Rattle.polynomials.specs.laws.Ring.{coefficient-append, coefficient_value}
use Rattle.polynomials.specs.laws.Coefficients.{decreasing_leads, found_monomial, leads_is, monic_some, no_coefficient, single_term}
use Rattle.polynomials.specs.laws.Decreasing.{coefficient_first, IsDecreasing_IsPoly, IsDecreasing_unique}
use Rattle.witness.specs.declared.tracked.Tracked.{Tracked}
use Rattle.witness.specs.Tracking.{by_order, letter_poly, values_of, IsCanonicalPair, IsGradedPair, IsShort, Tracks, UsesLower}
use Rattle.witness.specs.laws.Letters.{by_laws, by_places, element_letter}
use Rattle.subduction.specs.Basis.{BasisState, AreInParts, AreShortAt, IsBasisElement, IsBasisOf, IsNewElement}
use Rattle.subduction.specs.NewElements.{IsLoweredTo, IsMonicMultiple, IsNextElement, IsWitnessPut}

variables_differ : (i j : ℕ) → i ≢ j → variable i ≢ variable j
variables_differ i j n e = let a = variable_length i in let b = variable_length j in let q = ap length e in n (omega arith)

module _ {E : Type 0} (K : FieldOps E) (F : IsField K) where
  letter_self : (k : ℕ) → coefficient K (letter_poly K k) (variable k) ≡ K.one
  unfolding coefficient
  letter_self k = ap (λ b. K.plus (cond b K.one K.zero) K.zero) (same_refl (variable k)) ∙ (F.plus_zero K.one ∙ F.one_value)

  letter_other : (k : ℕ) (m : Exponents) → variable k ≢ m → coefficient K (letter_poly K k) m ≡ K.zero
  letter_other k m n = no_coefficient K F (letter_poly K k) m (λ z. n (single_term K F (variable k) K.one m z))

  module _ (n c : E) (p l s x y d r : Polynomial E) (e : n ≡ K.negate c) (hx : (m : Exponents) → coefficient K x m ≡ K.times n (coefficient K l m)) (hy : (m : Exponents) → coefficient K y m ≡ K.times c (coefficient K s m)) (hd : Same K d (x ++ y)) (hr : Same K r (p ++ d)) where
    put_at : (m : Exponents) → coefficient K r m ≡ K.plus (coefficient K p m) (K.plus (K.times (K.negate c) (coefficient K l m)) (K.times c (coefficient K s m)))
    put_at m =
        hr m ∙ (coefficient-append K F p d m ∙
        ap (K.plus (coefficient K p m)) (hd m ∙ (coefficient-append K F x y m ∙
        (ap (λ z. K.plus z (coefficient K y m)) (hx m ∙ ap (λ z. K.times z (coefficient K l m)) e) ∙ ap (K.plus (K.times (K.negate c) (coefficient K l m))) (hy m)))))

    -- at equal polynomials nothing changes
    pub put_same : l ≡ s → Same K r p
    put_same q m =
        put_at m ∙
        (ap (λ (z : Polynomial E). K.plus (coefficient K p m) (K.plus (K.times (K.negate c) (coefficient K z m)) (K.times c (coefficient K s m)))) q ∙
        (ap (λ z. K.plus (coefficient K p m) (K.plus z (K.times c (coefficient K s m)))) (negate-times K F c (coefficient K s m)) ∙
        (ap (K.plus (coefficient K p m)) (F.plus_comm (K.negate (K.times c (coefficient K s m))) (K.times c (coefficient K s m)) ∙ F.plus_negate (K.times c (coefficient K s m))) ∙
        (F.plus_zero (coefficient K p m) ∙ coefficient_value K F p m))))

    module _ (k : ℕ) (lk : l ≡ letter_poly K k) where
      pub put_gone : c ≡ coefficient K p (lead_monomial l) → coefficient K s (lead_monomial l) ≡ K.zero → coefficient K r (lead_monomial l) ≡ K.zero
      put_gone h z =
          put_at (lead_monomial l) ∙
          (ap (λ v. K.plus v (K.plus (K.times (K.negate c) (coefficient K l (lead_monomial l))) (K.times c (coefficient K s (lead_monomial l))))) (sym h) ∙
          (ap (λ v. K.plus c (K.plus (K.times (K.negate c) (coefficient K l (lead_monomial l))) v)) (ap (K.times c) z ∙ times-zero K F c) ∙
          (ap (λ v. K.plus c (K.plus v K.zero)) (ap (K.times (K.negate c)) one ∙ (F.times_one (K.negate c) ∙ F.negate_value c)) ∙
          (ap (K.plus c) (F.plus_zero (K.negate c) ∙ F.negate_value c) ∙ F.plus_negate c))))
        where
          one : coefficient K l (lead_monomial l) ≡ K.one
          one = ap (λ (v : Polynomial E). coefficient K v (lead_monomial v)) lk ∙ letter_self k

      pub put_others : (m : Exponents) → lead_monomial l ≢ m → coefficient K p m ≡ K.zero → coefficient K s m ≡ K.zero → coefficient K r m ≡ K.zero
      put_others m o a b =
          put_at m ∙
          (ap (λ v. K.plus v (K.plus (K.times (K.negate c) (coefficient K l m)) (K.times c (coefficient K s m)))) a ∙
          (ap (λ v. K.plus K.zero (K.plus (K.times (K.negate c) (coefficient K l m)) v)) (ap (K.times c) b ∙ times-zero K F c) ∙
          (ap (λ v. K.plus K.zero (K.plus v K.zero)) (ap (K.times (K.negate c)) none ∙ times-zero K F (K.negate c)) ∙
          (ap (K.plus K.zero) (zero-plus-zero K F) ∙ zero-plus-zero K F))))
        where
          none : coefficient K l m ≡ K.zero
          none = ap (λ (v : Polynomial E). coefficient K v m) lk ∙ letter_other k m (λ q. o (ap (λ (v : Polynomial E). lead_monomial v) lk ∙ q))

  -- the first coefficient is that of the lead
  pub first_is : (O : MonomialOrder) → IsMonomialOrder O → (p : Polynomial E) → IsDecreasing K O p → p ≢ [] → coefficient K p (lead_monomial p) ≡ first_coefficient K p
  first_is O M [] h n = absurd (n refl)
  first_is O M (t ∷ p) h n = coefficient_first K F O M t p h.0

  pub multiple_of : (q b : E) (p r : Polynomial E) → K.times q b ≡ K.one → ((m : Exponents) → coefficient K r m ≡ K.times b (coefficient K p m)) → (m : Exponents) → coefficient K p m ≡ K.times q (coefficient K r m)
  multiple_of q b p r e h m =
      sym (ap (K.times q) (h m) ∙ (sym (F.times_assoc q b (coefficient K p m)) ∙ (ap (λ z. K.times z (coefficient K p m)) e ∙ (one-times K F (coefficient K p m) ∙ coefficient_value K F p m))))

  pub monic_of : (O : MonomialOrder) → IsMonomialOrder O → (q b : E) (p r : Polynomial E) → IsDecreasing K O p → p ≢ [] → q ≡ first_coefficient K p → K.times q b ≡ K.one → ((m : Exponents) → coefficient K r m ≡ K.times b (coefficient K p m)) → coefficient K r (lead_monomial p) ≡ K.one
  monic_of O M q b p r d n f e h =
      h (lead_monomial p) ∙ (ap (K.times b) (first_is O M p d n ∙ sym f) ∙ (F.times_comm b q ∙ e))

  pub zero_of : (b : E) (p r : Polynomial E) → ((m : Exponents) → coefficient K r m ≡ K.times b (coefficient K p m)) → (m : Exponents) → coefficient K p m ≡ K.zero → coefficient K r m ≡ K.zero
  zero_of b p r h m z = h m ∙ (ap (K.times b) z ∙ times-zero K F b)

module _ {F E : Type 0} (P : Presented E) (H : IsPresentation P) (b : BasisState F E) (B : IsBasisOf P b) where
  open P use {field as K, order as O, generators as fs}
  open H use {field as F', order as M}

  abbrev S : List (Polynomial E)
  S = values_of b.elements

  abbrev d : ℕ
  d = b.words.degree

  abbrev W : MonomialOrder
  W = by_order b.by_order

  value_is : (i : ℕ) (s : Tracked F E) → i < length b.elements → s ≡ get_or b.elements i s → get_or S i [] ≡ s.value
  value_is i s l e = get_or-map (λ t. t.value) b.elements i s [] l ∙ ap (λ (t : Tracked F E). t.value) (sym e)

  pub element_at : (i : ℕ) (s : Tracked F E) → i < length b.elements → s ≡ get_or b.elements i s → IsBasisElement P b s
  element_at i s l e = subst (IsBasisElement P b) (sym e) (B.elements i s l)

  -- an element of the last degree has no letter of such an element
  free : (s : Tracked F E) → IsBasisElement P b s → degree_of O s.value ≡ d → (j : ℕ) → degree_of O (get_or S j []) ≡ d → coefficient K s.by (variable (length fs + j)) ≡ K.zero
  free s h e j q =
      no_coefficient K F' s.by (variable (length fs + j))
      (λ n. let one = variable_at (length fs + j) in let l = h.tracked.lower (variable (length fs + j)) n j (λ z. let y = z in absurd (omega arith)) in omega arith)

  -- a new element has the degree of the words
  pub new_degree : (t : Tracked F E) → IsNewElement P b t → degree_of O t.value ≡ d
  new_degree t N = N.graded.value (lead_monomial t.value) (decreasing_leads K F' O M t.value N.canonical.value.decreasing N.nonzero).nonzero

  module _ (lower last : List (Tracked F E)) (parts : AreInParts P d b.elements lower last) where
    -- t as it is, if the elements so far have smaller degrees
    pub lowered_from : (t : Tracked F E) → IsNewElement P b t → (count : ℕ) → count ≡ length lower → IsLoweredTo P b t count t
    lowered_from t N count e = record {
      value = λ m. refl;
      canonical = N.canonical;
      tracks = N.tracks;
      graded = N.graded;
      gone = λ j l k q.
          let n = length-map b.elements (λ (u : Tracked F E). u.value) in
          let here : get_or b.elements j t ≡ get_or lower j t = ap (λ xs. get_or xs j t) parts.whole ∙ get_or_append_left lower last t j (omega arith) in
          let f = ap (degree_of O) (get_or-map (λ (u : Tracked F E). u.value) b.elements j t [] (omega arith) ∙ ap (λ (u : Tracked F E). u.value) here) in
          let less = parts.lower_less j t (omega arith) in
          absurd (omega arith);
      short = λ h _. h;
      kept = λ _. refl;
    }

    -- from there on elements have the degree of the words
    pub last_degree : (count : ℕ) → count ≡ length lower → (i : ℕ) (s : Tracked F E) → count ≤ i → i < length b.elements → s ≡ get_or b.elements i s → degree_of O s.value ≡ d
    last_degree count e i s c l at =
        let n = length-append lower last in
        let w = ap length parts.whole in
        let k : ℕ = i - length lower in
        let z : length lower + k ≡ i = omega arith in
        let here : s ≡ get_or last k s = at ∙ (ap (λ xs. get_or xs i s) parts.whole ∙ (ap (λ j. get_or (lower ++ last) j s) (sym z) ∙ get_or-append-add lower last k s)) in
        ap (λ (u : Tracked F E). degree_of O u.value) here ∙ parts.last_equal k s (omega arith)

  module _ (t rest : Tracked F E) (i : ℕ) (R : IsLoweredTo P b t i rest) where
    -- an element whose letter is not there
    pub lowered_past : coefficient K rest.by (variable (length fs + i)) ≡ K.zero → IsLoweredTo P b t (i + 1) rest
    lowered_past z = record {
      value = R.value;
      canonical = R.canonical;
      tracks = R.tracks;
      graded = R.graded;
      gone = λ j l k e. ⊎_elim (λ a. subst (λ x. coefficient K rest.by (variable (length fs + x)) ≡ K.zero) (sym a) z)
          (λ n. R.gone j (omega arith) k e) (numbers_or_not j i);
      short = R.short;
      kept = R.kept;
    }

    module _ (s letter r : Tracked F E) (l : i < length b.elements) (e : s ≡ get_or b.elements i s) (last : degree_of O s.value ≡ d) (by : letter.by ≡ letter_poly K (length fs + i)) (A : IsWitnessPut P W rest s letter r) where
      lead_is : lead_monomial letter.by ≡ variable (length fs + i)
      lead_is = ap (λ (x : Polynomial E). lead_monomial x) by

      here : degree_of O (get_or S i []) ≡ d
      here = ap (degree_of O) (value_is i s l e) ∙ last

      element : IsBasisElement P b s
      element = element_at i s l e

      none_left : (j : ℕ) → j < i + 1 → j < length S → degree_of O (get_or S j []) ≡ d → coefficient K r.by (variable (length fs + j)) ≡ K.zero
      none_left j k a q =
          ⊎_elim
          (λ z. subst (λ x. coefficient K r.by (variable (length fs + x)) ≡ K.zero) (sym z)
          (subst (λ m. coefficient K r.by m ≡ K.zero) lead_is (A.gone (subst (λ m. coefficient K s.by m ≡ K.zero) (sym lead_is) (free s element last i here)))))
          (λ n. A.others (variable (length fs + j)) (λ z. variables_differ (length fs + i) (length fs + j) (λ y. n (omega arith)) (sym lead_is ∙ z)) (R.gone j (omega arith) a q) (free s element last j q))
          (numbers_or_not j i)

      short_left : IsShort K (length fs) rest.by → IsShort K (length fs) s.by → IsShort K (length fs) r.by
      short_left a c m n =
          ⊎_elim
          (λ z. inr (λ k q. ap (λ x. exponent x k) (sym z ∙ lead_is) ∙ variable_off (length fs + i) k (λ y. absurd (omega arith))))
          (λ o. ⊎_elim (λ z. ⊎_elim (λ y. absurd (n (A.others m o z y))) (c m) (F'.equal_or_not (coefficient K s.by m) K.zero)) (a m) (F'.equal_or_not (coefficient K rest.by m) K.zero))
          (equal_or_not (lead_monomial letter.by) m)

      never_kept : degree_of O t.value ≡ d → coefficient K rest.by (variable (length fs + i)) ≢ K.zero → UsesLower P S t → ⊥
      never_kept w n h =
          let one = variable_at (length fs + i) in
          let less = h (variable (length fs + i)) (λ z. n (ap (λ (x : Tracked F E). coefficient K x.by (variable (length fs + i))) (R.kept h) ∙ z)) i (λ z. let y = z in absurd (omega arith)) in
          let q = here in
          omega arith

      pub lowered_more : degree_of O t.value ≡ d → coefficient K rest.by (variable (length fs + i)) ≢ K.zero → Tracks P S letter → IsGradedPair K O W d letter → IsLoweredTo P b t (i + 1) r
      lowered_more w n u v = record {
        value = λ m. A.value m ∙ R.value m;
        canonical = A.canonical;
        tracks = A.tracks S R.tracks element.tracked.tracks u;
        graded = A.graded d R.graded (subst (λ k. IsGradedPair K O W k s) last element.tracked.graded) v;
        gone = none_left;
        short = λ a h. short_left (R.short a h) (h s (subst (Contains b.elements) (sym e) (contains_at b.elements i s l)) last);
        kept = λ h. absurd (never_kept w n h);
      }

  module _ (t : Tracked F E) (N : IsNewElement P b t) (rest : Tracked F E) (R : IsLoweredTo P b t (length b.elements) rest) where
    value_stays : rest.value ≡ t.value
    value_stays = IsDecreasing_unique K F' O M rest.value t.value R.canonical.value.decreasing N.canonical.value.decreasing R.value

    pub rest_nonzero : rest.value ≢ []
    rest_nonzero z = N.nonzero (sym value_stays ∙ z)

    module _ (r : Tracked F E) (Q : IsMonicMultiple P rest r) where
      abbrev m0 : Exponents
      m0 = lead_monomial t.value

      one_at : coefficient K r.value m0 ≡ K.one
      one_at = subst (λ p. coefficient K r.value (lead_monomial p) ≡ K.one) value_stays Q.monic

      old_monomial : (m : Exponents) → coefficient K r.value m ≢ K.zero → coefficient K t.value m ≢ K.zero
      old_monomial m n z = n (Q.value m (R.value m ∙ z))

      canonical : IsCanonicalPair K O W r
      canonical = Q.canonical W R.canonical

      lead_stays : lead_monomial r.value ≡ m0
      lead_stays = leads_is K F' O M r.value canonical.value.decreasing m0 (record {
        nonzero = λ z. F'.one_not_zero (sym one_at ∙ z);
        greatest = λ n k. (decreasing_leads K F' O M t.value N.canonical.value.decreasing N.nonzero).greatest n (old_monomial n k);
      })

      lead_some : coefficient K t.value m0 ≢ K.zero
      lead_some = old_monomial m0 (λ z. F'.one_not_zero (sym one_at ∙ z))

      degree_is : degree_of O r.value ≡ d
      degree_is = ap O.degree lead_stays ∙ N.graded.value m0 lead_some

      graded : IsGradedPair K O W (degree_of O r.value) r
      graded = subst (λ k. IsGradedPair K O W k r) (sym degree_is) (Q.graded W d R.graded)

      fresh : ¬ IsGenerated (map lead_monomial S) (lead_monomial r.value)
      fresh h = (N.reduced m0 lead_some).1 (subst (IsGenerated (map lead_monomial S)) lead_stays h)

      monomial : IsMonomial O.places (lead_monomial r.value)
      monomial = subst (IsMonomial O.places) (sym lead_stays) (let s = (N.reduced m0 lead_some).0 in s.monomial)

      positive : 1 ≤ O.degree (lead_monomial r.value)
      positive =
          let q = proper_divisor O M [] (lead_monomial r.value) monomial tt (λ i. let z = exponent_past [] i (omega arith) in omega arith)
          (λ z. fresh (subst (IsGenerated (map lead_monomial S)) z (record { factors = []; members = tt; product = refl }))) in
          let l = q.1 in omega arith

      lower : UsesLower P S r
      lower m n i x =
          ⊎_elim by_degree (λ o. absurd (x (exponent_past m (length fs + i) (let a = inside.within in let p = places in let q = not_less o in omega arith)))) (le_or_not (suc i) (length S))
        where
          some : coefficient K rest.by m ≢ K.zero
          some z = n (Q.by m z)

          N' : IsMonomialOrder W
          N' = by_laws b.by_order

          places : W.places ≡ length fs + length S
          places = by_places P S b.by_order B.by_order

          inside : IsMonomial W.places m
          inside = found_monomial K F' W N' rest.by (IsDecreasing_IsPoly K W rest.by R.canonical.by.decreasing) m some

          not_less : (suc i ≤ length S → ⊥) → length S ≤ i
          not_less o = ⊎_elim (λ l. l) (λ q. absurd (o (omega arith))) (le_or_not (length S) i)

          divides : Divides (variable (length fs + i)) m
          divides = variable_divides (length fs + i) m (omega arith)

          whole : W.degree m ≡ d
          whole = R.graded.by m some

          by_degree : suc i ≤ length S → degree_of O (get_or S i []) < degree_of O r.value
          by_degree l =
              let at = element_letter P S b.by_order B.by_order i (omega arith) in
              let up = divisor_degree W N' (variable (length fs + i)) m (variable_trimmed (length fs + i)) inside.trimmed divides in
              ⊎_elim
              (λ e. absurd (⊎_elim
              (λ q. some (subst (λ v. coefficient K rest.by v ≡ K.zero) q (R.gone i (let c = length-map b.elements (λ (t : Tracked F E). t.value) in omega arith) (omega arith) e)))
              (λ q. let y = proper_divisor W N' (variable (length fs + i)) m inside (variable_trimmed (length fs + i)) divides q in let z = y.1 in let v = whole in omega arith)
              (equal_or_not (variable (length fs + i)) m)))
              (λ o. let v = whole in let k = degree_is in omega arith)
              (numbers_or_not (degree_of O (get_or S i [])) d)

      pub next_is : IsNextElement P b t r
      next_is = record {
        element = record {
          tracked = record { tracks = Q.tracks S R.tracks; canonical = canonical; graded = graded; lower = lower };
          monic = record {
            decreasing = canonical.value.decreasing;
            monic = subst (λ m. coefficient K r.value m ≡ K.one) (sym lead_stays) one_at;
            positive = positive;
          };
          standard = λ m n. (N.reduced m (old_monomial m n)).0;
        };
        degree = degree_is;
        lead = lead_stays;
        multiple = subst (λ p. (m : Exponents) → coefficient K p m ≡ K.times (first_coefficient K p) (coefficient K r.value m)) value_stays Q.multiple;
        short = λ a h m n. R.short a h m (λ z. n (Q.by m z));
        kept = λ h l. Q.kept (ap (first_coefficient K) value_stays ∙ (sym (first_is K F' O M t.value N.canonical.value.decreasing N.nonzero) ∙ h.monic)) ∙ R.kept l;
      }

  -- the letter of an element
  module _ (i : ℕ) (s : Tracked F E) (l : i < length b.elements) (e : s ≡ get_or b.elements i s) where
    pub has_place : length fs + (i + 1) ≤ W.places
    has_place = let p = by_places P S b.by_order B.by_order in let c = length-map b.elements (λ (t : Tracked F E). t.value) in omega arith

    pub in_list : i + 1 ≤ length S
    in_list = let c = length-map b.elements (λ (t : Tracked F E). t.value) in omega arith

    pub value_at : get_or S (i + 1 - 1) [] ≡ s.value
    value_at = ap (λ k. get_or S k []) (let z : i + 1 - 1 ≡ i = omega arith in z) ∙ value_is i s l e

    pub value_here : get_or S i [] ≡ s.value
    value_here = value_is i s l e

    pub element_nonzero : s.value ≢ []
    element_nonzero z = monic_some K F' O M s.value (let h = element_at i s l e in h.monic.monic) z

  -- the witnesses stay short
  pub short_longer : (t u : Tracked F E) → IsNextElement P b t u → (es : List (Tracked F E)) → es ≡ b.elements ++ u ∷ [] → IsShort K (length fs) t.by → AreShortAt P d b.elements → AreShortAt P d es
  short_longer t u X es e a h v k q =
      ⊎_elim (λ i. h v i q) (λ i. ⊎_elim (λ z. subst (λ (x : Tracked F E). IsShort K (length fs) x.by) z (X.short a h)) (λ j. absurd (contains_none v j)) (contains_cases u [] v i))
      (contains_either b.elements (u ∷ []) v (subst (λ xs. Contains xs v) e k))

-- What holds of elements that are reduced by each other in the order of their leads.
use Rattle.std.proofs.Common.{◌≡◌, ◌≢◌, ℕ, zero, suc, ◌+◌, ◌<◌, ◌≤◌, get_or, refl, sym, ◌∙◌, ap, subst, List, [], ◌∷◌, ◌++◌, length, append_assoc, append-nil, length-append, ⊎_elim, ◌⊎◌, inl, inr, arith}
use Rattle.std.specs.Prelude.{Contains, map, All}
use Rattle.std.specs.declared.cmp.Ordering.TheVariants.{Less}
use Rattle.std.proofs.lemmas.List.{get_or-map, length-map, map-append}
use Rattle.word_field.specs.Field.{IsValue}
use Rattle.word_field.specs.laws.Field.{times-zero}
use Rattle.monomial_order.specs.Monomial.{Exponents}
use Rattle.monomial_order.specs.MonomialOrder.{MonomialOrder, IsIncreasing}
use Rattle.monomial_order.specs.laws.Lists.{contains_at, contains_cases, contains_map, contains_here, contains_there, contains_none, contains_either}
use Rattle.monomial_order.specs.laws.Comparing.{equal_or_not, increasing_below, increasing_tail, le_or_not, less_or_not, not_below_self}
use Rattle.polynomials.specs.Polynomial.{Polynomial, coefficient, constant, lead_monomial, times, Same}
use Rattle.polynomials.specs.Subalgebra.{Presented, IsPresentation}
use Rattle.polynomials.specs.laws.Ring.{coefficient-append, coefficient_value}
use Rattle.polynomials.specs.laws.Same.{append_same}
use Rattle.polynomials.specs.laws.Value.{coefficient-constant_times, one_times}
use Rattle.polynomials.specs.laws.Coefficients.{decreasing_leads, leads_is, sum_nonzero, monic_some}
use Rattle.subalgebra_laws.specs.Words.{linear_sum}
use Rattle.subalgebra_laws.specs.Bases.{AreReducedByEachOther}
use Rattle.witness.specs.declared.tracked.Tracked.{Tracked}
use Rattle.witness.specs.Tracking.{values_of, IsCanonicalPair, IsGradedPair, IsShort, Tracks}
use Rattle.subduction.specs.laws.Parts.{contains-All}
use Rattle.subduction.specs.Settling.{lead_share, AreLess, AreMadeFrom, IsDifference, IsLess, IsMadeFrom}

abbrev pub leads_of : {F E : Type 0} → List (Tracked F E) → List Exponents
leads_of ts = map lead_monomial (values_of ts)

module _ {F E : Type 0} (P : Presented E) (H : IsPresentation P) (W : MonomialOrder) (L : List (Polynomial E)) (old : List (Tracked F E)) (d : ℕ) where
  open P use {field as K, order as O, generators as fs}
  open H use {field as F', order as M}

  abbrev pub HasOld : Exponents → Type 0
  HasOld m = (t : Tracked F E) × Contains old t × (coefficient K t.value m ≢ K.zero)

  -- what differences keep: the witness uses the first letters alone, and each monomial is an old one
  pub record IsLastPart (t : Tracked F E) : Type 0 where
    pub canonical : IsCanonicalPair K O W t
    pub graded : IsGradedPair K O W d t
    pub tracks : Tracks P L t
    pub front : (m : Exponents) → coefficient K t.by m ≢ K.zero → length m ≤ length fs + length L
    pub monomials : (m : Exponents) → coefficient K t.value m ≢ K.zero → HasOld m
    pub short : ((v : Tracked F E) → Contains old v → IsShort K (length fs) v.by) → IsShort K (length fs) t.by

  difference_nonzero : (c : E) (p q r : Polynomial E) → IsDifference K c p q r → (m : Exponents) → coefficient K r m ≢ K.zero → (coefficient K p m ≢ K.zero) ⊎ (coefficient K q m ≢ K.zero)
  difference_nonzero c p q r h m n =
      ⊎_elim inl (λ k. inr (λ z. k (ap (K.times (K.negate c)) z ∙ times-zero K F' (K.negate c))))
      (sum_nonzero K F' (coefficient K p m) (K.times (K.negate c) (coefficient K q m)) (λ z. n (h m ∙ z)))

  part_less : (t u r : Tracked F E) → IsLess P W t u r → IsLastPart t → IsLastPart u → IsLastPart r
  part_less t u r h a b =
      let c = lead_share P t u in
      record {
        canonical = h.canonical;
        graded = h.graded d a.graded b.graded;
        tracks = h.tracks L a.tracks b.tracks;
        front = λ m n. ⊎_elim (a.front m) (b.front m) (difference_nonzero c t.by u.by r.by h.by m n);
        monomials = λ m n. ⊎_elim (a.monomials m) (b.monomials m) (difference_nonzero c t.value u.value r.value h.value m n);
        short = λ s m n. ⊎_elim (a.short s m) (b.short s m) (difference_nonzero c t.by u.by r.by h.by m n);
      }

  part_all : (t : Tracked F E) (us : List (Tracked F E)) (r : Tracked F E) → AreLess P W t us r → IsLastPart t → ((u : Tracked F E) → Contains us u → IsLastPart u) → IsLastPart r
  part_all t [] r e a b = subst IsLastPart (sym e) a
  part_all t (u ∷ us) r e a b = part_all e.0 us r e.2 (part_less t u e.0 e.1 a (b u (contains_here u us))) (λ v k. b v (contains_there u us v k))

  -- a monomial that the others do not have keeps its coefficient
  kept : (t : Tracked F E) (us : List (Tracked F E)) (r : Tracked F E) → AreLess P W t us r → (m : Exponents) → ((u : Tracked F E) → Contains us u → coefficient K u.value m ≡ K.zero) →
      coefficient K r.value m ≡ coefficient K t.value m
  kept t [] r e m z = ap (λ (x : Tracked F E). coefficient K x.value m) e
  kept t (u ∷ us) r e m z =
      let c = K.negate (lead_share P t u) in
      kept e.0 us r e.2 m (λ v k. z v (contains_there u us v k)) ∙
      (e.1.value m ∙
      (ap (λ x. K.plus (coefficient K t.value m) (K.times c x)) (z u (contains_here u us)) ∙
      (ap (K.plus (coefficient K t.value m)) (times-zero K F' c) ∙
      (F'.plus_zero (coefficient K t.value m) ∙ coefficient_value K F' t.value m))))

  -- the lead of a member is no monomial of a later one
  abbrev pub AreReducedInOrder : List (Tracked F E) → Type 0
  AreReducedInOrder [] = Unit {0}
  AreReducedInOrder (u ∷ us) = ((v : Tracked F E) → Contains us v → coefficient K v.value (lead_monomial u.value) ≡ K.zero) × AreReducedInOrder us

  abbrev pub IsMonic : Tracked F E → Type 0
  IsMonic t = coefficient K t.value (lead_monomial t.value) ≡ K.one

  taken : (t u r : Tracked F E) → IsLess P W t u r → IsMonic u → coefficient K r.value (lead_monomial u.value) ≡ K.zero
  taken t u r h o =
      let c = lead_share P t u in
      h.value (lead_monomial u.value) ∙
      (ap (λ x. K.plus c (K.times (K.negate c) x)) o ∙
      (ap (K.plus c) (F'.times_one (K.negate c) ∙ F'.negate_value c) ∙ F'.plus_negate c))

  zero_at : (t : Tracked F E) (us : List (Tracked F E)) (r : Tracked F E) → AreLess P W t us r → AreReducedInOrder us → ((u : Tracked F E) → Contains us u → IsMonic u) →
      (u : Tracked F E) → Contains us u → coefficient K r.value (lead_monomial u.value) ≡ K.zero
  zero_at t [] r e a o u k = absurd (contains_none u k)
  zero_at t (v ∷ us) r e a o u k =
      ⊎_elim (λ q. subst (λ (x : Tracked F E). coefficient K r.value (lead_monomial x.value) ≡ K.zero) q
      (kept e.0 us r e.2 (lead_monomial v.value) a.0 ∙ taken t v e.0 e.1 (o v (contains_here v us))))
      (λ i. zero_at e.0 us r e.2 a.1 (λ x j. o x (contains_there v us x j)) u i) (contains_cases v us u k)

  reduced_more : (us : List (Tracked F E)) (r : Tracked F E) → AreReducedInOrder us → ((u : Tracked F E) → Contains us u → coefficient K r.value (lead_monomial u.value) ≡ K.zero) → AreReducedInOrder (us ++ r ∷ [])
  reduced_more [] r a z = (λ v k. absurd (contains_none v k), tt)
  reduced_more (u ∷ us) r a z = (
    λ v k. ⊎_elim (a.0 v) (λ i. ⊎_elim (λ e. subst (λ (x : Tracked F E). coefficient K x.value (lead_monomial u.value) ≡ K.zero) e (z u (contains_here u us))) (λ j. absurd (contains_none v j)) (contains_cases r [] v i)) (contains_either us (r ∷ []) v k),
    reduced_more us r a.1 (λ v k. z v (contains_there u us v k)),
  )

  -- a sum of the members, each times a constant
  pub record HasSum (us : List (Tracked F E)) (a : Polynomial E) : Type 0 where
    pub constants : List E
    pub few : length constants ≤ length us
    pub values : All (IsValue K) constants
    pub sum : Same K a (linear_sum P constants (values_of us))

  record HasSumAnd (us : List (Tracked F E)) (a r : Polynomial E) : Type 0 where
    constants : List E
    number : length constants ≡ length us
    values : (c : E) → Contains constants c → IsValue K c
    sum : Same K a (linear_sum P constants (values_of us) ++ r)

  sum_of : (t : Tracked F E) (us : List (Tracked F E)) (r : Tracked F E) → AreLess P W t us r → HasSumAnd us t.value r.value
  sum_of t [] r e = record { constants = []; number = refl; values = λ c k. absurd (contains_none c k); sum = λ m. ap (λ (x : Tracked F E). coefficient K x.value m) (sym e) }
  sum_of t (u ∷ us) r e =
      let q = sum_of e.0 us r e.2 in
      let c = lead_share P t u in
      record {
        constants = c ∷ q.constants;
        number = let n = q.number in omega arith;
        values = λ x k. ⊎_elim (λ i. subst (IsValue K) i (coefficient_value K F' t.value (lead_monomial u.value))) (q.values x) (contains_cases c q.constants x k);
        sum = λ m.
            back c (coefficient K t.value m) (coefficient K u.value m) (coefficient K e.0.value m) (coefficient_value K F' t.value m) (e.1.value m) ∙
            (ap (K.plus (K.times c (coefficient K u.value m))) (q.sum m) ∙
            (ap (λ x. K.plus x (coefficient K (linear_sum P q.constants (values_of us) ++ r.value) m)) (sym (coefficient-constant_times K F' c u.value m)) ∙
            (sym (coefficient-append K F' (times K (constant K c) u.value) (linear_sum P q.constants (values_of us) ++ r.value) m) ∙
            ap (λ p. coefficient K p m) (sym (append_assoc (times K (constant K c) u.value) (linear_sum P q.constants (values_of us)) r.value)))));
      }
    where
      back : (c a b s : E) → IsValue K a → s ≡ K.plus a (K.times (K.negate c) b) → a ≡ K.plus (K.times c b) s
      back c a b s v h =
          sym (ap (K.plus (K.times c b)) h ∙
          (ap (λ x. K.plus (K.times c b) (K.plus a x)) (Rattle.word_field.specs.laws.Field.negate-times K F' c b) ∙
          (Rattle.word_field.specs.laws.Field.plus_swap K F' (K.times c b) a (K.negate (K.times c b)) ∙
          (ap (K.plus a) (F'.plus_negate (K.times c b)) ∙ (F'.plus_zero a ∙ v)))))

  -- a sum of the first members is one of them all
  longer_sum : (cs : List E) (S T : List (Polynomial E)) → length cs ≤ length S → linear_sum P cs (S ++ T) ≡ linear_sum P cs S
  longer_sum [] S T l = refl
  longer_sum (c ∷ cs) [] T l = absurd (omega arith)
  longer_sum (c ∷ cs) (s ∷ S) T l = ap (λ p. times K (constant K c) s ++ p) (longer_sum cs S T (omega arith))

  -- and one more member
  one_more : (cs : List E) (S : List (Polynomial E)) (r : Polynomial E) → length cs ≡ length S → Same K (linear_sum P cs S ++ r) (linear_sum P (cs ++ K.one ∷ []) (S ++ r ∷ []))
  one_more [] [] r l m = sym (ap (λ p. coefficient K p m) (append-nil (times K (constant K K.one) r)) ∙ one_times K F' r m)
  one_more [] (s ∷ S) r l m = absurd (omega arith)
  one_more (c ∷ cs) [] r l m = absurd (omega arith)
  one_more (c ∷ cs) (s ∷ S) r l m =
      ap (λ p. coefficient K p m) (append_assoc (times K (constant K c) s) (linear_sum P cs S) r) ∙
      append_same K F' (times K (constant K c) s) (times K (constant K c) s) (linear_sum P cs S ++ r) (linear_sum P (cs ++ K.one ∷ []) (S ++ r ∷ [])) (λ i. refl) (one_more cs S r (omega arith)) m

  has_sum : (t : Tracked F E) (us : List (Tracked F E)) (r : Tracked F E) → AreLess P W t us r → HasSum (us ++ r ∷ []) t.value
  has_sum t us r e =
      let q = sum_of t us r e in
      let n = q.number in
      let v = length-map us (λ (u : Tracked F E). u.value) in
      let a = length-append us (r ∷ []) in
      let b = length-append q.constants (K.one ∷ []) in
      record {
        constants = q.constants ++ K.one ∷ [];
        few = omega arith;
        values = contains-All (IsValue K) (q.constants ++ K.one ∷ []) (λ x k. ⊎_elim (q.values x) (λ i. ⊎_elim (λ e. subst (IsValue K) e F'.one_value) (λ j. absurd (contains_none x j)) (contains_cases K.one [] x i)) (contains_either q.constants (K.one ∷ []) x k));
        sum = λ m. q.sum m ∙ (one_more q.constants (values_of us) r.value (omega arith) m ∙ ap (λ S. coefficient K (linear_sum P (q.constants ++ K.one ∷ []) S) m) (sym (map-append (λ (u : Tracked F E). u.value) us (r ∷ []))));
      }

  sum_longer : (us vs : List (Tracked F E)) (a : Polynomial E) → HasSum us a → HasSum (us ++ vs) a
  sum_longer us vs a h =
      let l = h.few in
      let n = length-append us vs in
      let v = length-map us (λ (u : Tracked F E). u.value) in
      record {
        constants = h.constants;
        few = omega arith;
        values = h.values;
        sum = λ m. h.sum m ∙ ap (λ p. coefficient K p m) (sym (ap (linear_sum P h.constants) (map-append (λ (u : Tracked F E). u.value) us vs) ∙ longer_sum h.constants (values_of us) (values_of vs) (omega arith)));
      }

  -- what is kept of the new elements, as far as they are made
  pub record AreDone (us : List (Tracked F E)) : Type 0 where
    pub parts : (u : Tracked F E) → Contains us u → IsLastPart u
    pub monic : (u : Tracked F E) → Contains us u → IsMonic u
    pub reduced : AreReducedInOrder us

  -- the lead of the old element stays if those of the others are smaller
  stays : (t : Tracked F E) (us : List (Tracked F E)) (r : Tracked F E) → AreLess P W t us r → IsCanonicalPair K O W t → IsCanonicalPair K O W r → IsMonic t → ((u : Tracked F E) → Contains us u → IsCanonicalPair K O W u × IsMonic u) →
      ((u : Tracked F E) → Contains us u → O.compare (lead_monomial u.value) (lead_monomial t.value) ≡ Less) → (lead_monomial r.value ≡ lead_monomial t.value) × (coefficient K r.value (lead_monomial t.value) ≡ K.one)
  stays t us r e ct cr o c l =
      (leads_is K F' O M r.value cr.value.decreasing (lead_monomial t.value) (record { nonzero = λ z. F'.one_not_zero (sym one ∙ z); greatest = greatest }), one)
    where
      absent : (n : Exponents) → (O.compare n (lead_monomial t.value) ≡ Less → ⊥) → (u : Tracked F E) → Contains us u → coefficient K u.value n ≡ K.zero
      absent n h u k =
          ⊎_elim (λ z. z)
          (λ x. absurd (h (⊎_elim (λ e. subst (λ y. O.compare y (lead_monomial t.value) ≡ Less) (sym e) (l u k))
          (λ d. M.total.trans n (lead_monomial u.value) (lead_monomial t.value) ((decreasing_leads K F' O M u.value (c u k).0.value.decreasing (monic_some K F' O M u.value (c u k).1)).greatest n x d) (l u k))
          (equal_or_not n (lead_monomial u.value)))))
          (F'.equal_or_not (coefficient K u.value n) K.zero)

      one : coefficient K r.value (lead_monomial t.value) ≡ K.one
      one = kept t us r e (lead_monomial t.value) (absent (lead_monomial t.value) (not_below_self O M (lead_monomial t.value))) ∙ o

      greatest : (n : Exponents) → coefficient K r.value n ≢ K.zero → n ≢ lead_monomial t.value → O.compare n (lead_monomial t.value) ≡ Less
      greatest n x d =
          ⊎_elim (λ y. y)
          (λ h. (decreasing_leads K F' O M t.value ct.value.decreasing (monic_some K F' O M t.value o)).greatest n (λ z. x (kept t us r e n (absent n h) ∙ z)) d)
          (less_or_not (O.compare n (lead_monomial t.value)))

  in_more : (Q : Tracked F E → Type 0) (xs : List (Tracked F E)) (x : Tracked F E) → ((y : Tracked F E) → Contains xs y → Q y) → Q x → (y : Tracked F E) → Contains (xs ++ x ∷ []) y → Q y
  in_more Q xs x h q y k = ⊎_elim (h y) (λ i. ⊎_elim (λ e. subst Q e q) (λ j. absurd (contains_none y j)) (contains_cases x [] y i)) (contains_either xs (x ∷ []) y k)

  -- the old elements
  pub record AreOld : Type 0 where
    pub parts : (t : Tracked F E) → Contains old t → IsLastPart t
    pub monic : (t : Tracked F E) → Contains old t → IsMonic t

  module _ (A : AreOld) where
    step : (done : List (Tracked F E)) (m : Exponents) (u : Tracked F E) → AreDone done → ((v : Tracked F E) → Contains done v → O.compare (lead_monomial v.value) m ≡ Less) → (h : IsMadeFrom P W old done m u) →
        AreDone (done ++ u ∷ []) × (lead_monomial u.value ≡ m) × HasSum (done ++ u ∷ []) (let t : Tracked F E = h.element in t.value)
    step done m u D l h =
        let t = h.element in
        let pt = A.parts t h.is_old in
        let pu = part_all t done u h.less pt D.parts in
        let s = stays t done u h.less pt.canonical pu.canonical (A.monic t h.is_old) (λ v k. ((D.parts v k).canonical, D.monic v k)) (λ v k. subst (λ x. O.compare (lead_monomial v.value) x ≡ Less) (sym h.lead) (l v k)) in (
          record {
            parts = in_more IsLastPart done u D.parts pu;
            monic = in_more IsMonic done u D.monic (ap (coefficient K u.value) s.0 ∙ s.1);
            reduced = reduced_more done u D.reduced (zero_at t done u h.less D.reduced D.monic);
          },
          s.0 ∙ h.lead,
          has_sum t done u h.less,
        )

    -- all are made
    pub all_made : (done : List (Tracked F E)) (ms : List Exponents) (us : List (Tracked F E)) → AreDone done → IsIncreasing O ms → ((v : Tracked F E) → Contains done v → (n : Exponents) → Contains ms n → O.compare (lead_monomial v.value) n ≡ Less) →
        AreMadeFrom P W old done ms us →
        AreDone (done ++ us) × (leads_of us ≡ ms) × ((m : Exponents) → Contains ms m → (t : Tracked F E) × Contains old t × (lead_monomial t.value ≡ m) × HasSum (done ++ us) t.value)
    all_made done [] [] D i b h = (subst AreDone (sym (append-nil done)) D, refl, λ m k. absurd (contains_none m k))
    all_made done [] (u ∷ us) D i b h = absurd h
    all_made done (m ∷ ms) [] D i b h = absurd h
    all_made done (m ∷ ms) (u ∷ us) D i b h =
        let s = step done m u D (λ v k. b v k m (contains_here m ms)) h.0 in
        let r = all_made (done ++ u ∷ []) ms us s.0 (increasing_tail O m ms i)
        (in_more (λ v. (n : Exponents) → Contains ms n → O.compare (lead_monomial v.value) n ≡ Less) done u (λ v k n j. b v k n (contains_there m ms n j))
        (λ n j. subst (λ x. O.compare x n ≡ Less) (sym s.1) (increasing_below O M m ms i n j))) h.1 in
        let e = append_assoc done (u ∷ []) us in
        let t = h.0.element in (
          subst AreDone e r.0,
          ap (λ x. x ∷ leads_of us) s.1 ∙ ap (λ xs. m ∷ xs) r.1,
          λ n k. ⊎_elim (λ q. (t, h.0.is_old, h.0.lead ∙ q, subst (λ xs. HasSum xs t.value) e (sum_longer (done ++ u ∷ []) us t.value s.2)))
              (λ j. let f = r.2 n j in (f.0, f.1, f.2, subst (λ xs. HasSum xs (let x : Tracked F E = f.0 in x.value)) e f.3)) (contains_cases m ms n k),
        )

  -- reduced in both directions
  later : (us : List (Tracked F E)) → AreReducedInOrder us → (i j : ℕ) (z : Tracked F E) → j < i → i < length us → coefficient K (let x : Tracked F E = get_or us i z in x.value) (lead_monomial (let x : Tracked F E = get_or us j z in x.value)) ≡ K.zero
  later [] a i j z l k = absurd (omega arith)
  later (u ∷ us) a zero j z l k = absurd (omega arith)
  later (u ∷ us) a (suc i) zero z l k = a.0 (get_or us i z) (contains_at us i z (omega arith))
  later (u ∷ us) a (suc i) (suc j) z l k = later us a.1 i j z (omega arith) (omega arith)

  above : (u v : Tracked F E) → IsCanonicalPair K O W u → IsMonic u → O.compare (lead_monomial u.value) (lead_monomial v.value) ≡ Less → coefficient K u.value (lead_monomial v.value) ≡ K.zero
  above u v c o l =
      ⊎_elim (λ z. z)
      (λ n. absurd (⊎_elim (λ e. not_below_self O M (lead_monomial u.value) (subst (λ x. O.compare (lead_monomial u.value) x ≡ Less) e l))
      (λ d. not_below_self O M (lead_monomial u.value) (M.total.trans (lead_monomial u.value) (lead_monomial v.value) (lead_monomial u.value) l ((decreasing_leads K F' O M u.value c.value.decreasing (monic_some K F' O M u.value o)).greatest (lead_monomial v.value) n d)))
      (equal_or_not (lead_monomial v.value) (lead_monomial u.value))))
      (F'.equal_or_not (coefficient K u.value (lead_monomial v.value)) K.zero)

  earlier : (us : List (Tracked F E)) → IsIncreasing O (leads_of us) → ((u : Tracked F E) → Contains us u → IsCanonicalPair K O W u × IsMonic u) → (i j : ℕ) (z : Tracked F E) → i < j → j < length us →
      coefficient K (let x : Tracked F E = get_or us i z in x.value) (lead_monomial (let x : Tracked F E = get_or us j z in x.value)) ≡ K.zero
  earlier [] a c i j z l k = absurd (omega arith)
  earlier (u ∷ us) a c i zero z l k = absurd (omega arith)
  earlier (u ∷ us) a c zero (suc j) z l k =
      above u (get_or us j z) (c u (contains_here u us)).0 (c u (contains_here u us)).1
      (increasing_below O M (lead_monomial u.value) (leads_of us) a (lead_monomial (let x : Tracked F E = get_or us j z in x.value))
      (contains_map lead_monomial (values_of us) (let x : Tracked F E = get_or us j z in x.value) (contains_map (λ (x : Tracked F E). x.value) us (get_or us j z) (contains_at us j z (omega arith)))))
  earlier (u ∷ us) a c (suc i) (suc j) z l k = earlier us (increasing_tail O (lead_monomial u.value) (leads_of us) a) (λ v q. c v (contains_there u us v q)) i j z (omega arith) (omega arith)

  pub both_ways : (us : List (Tracked F E)) → AreDone us → IsIncreasing O (leads_of us) → AreReducedByEachOther P (values_of us)
  both_ways us D a i j li lj n =
      let z : Tracked F E = record { value = []; by = [] } in
      let v = length-map us (λ (u : Tracked F E). u.value) in
      let ei : get_or (values_of us) i [] ≡ (let x : Tracked F E = get_or us i z in x.value) = get_or-map (λ (u : Tracked F E). u.value) us i z [] (omega arith) in
      let ej : get_or (values_of us) j [] ≡ (let x : Tracked F E = get_or us j z in x.value) = get_or-map (λ (u : Tracked F E). u.value) us j z [] (omega arith) in
      ap (λ p. coefficient K p (lead_monomial (get_or (values_of us) j []))) ei ∙
      (ap (λ p. coefficient K (let x : Tracked F E = get_or us i z in x.value) (lead_monomial p)) ej ∙
      ⊎_elim (λ l. later us D.reduced i j z l (omega arith)) (λ h. earlier us a (λ u k. ((D.parts u k).canonical, D.monic u k)) i j z (omega arith) (omega arith)) (less_number i j))
    where
      less_number : (i j : ℕ) → (j < i) ⊎ (j < i → ⊥)
      less_number i j = ⊎_elim (λ l. inl (omega arith)) (λ h. inr (λ l. h (omega arith))) (le_or_not (suc j) i)

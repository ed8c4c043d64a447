-- What a completion has at a closed degree is due in a state.
use Rattle.std.proofs.Common.{◌≡◌, ◌≢◌, ◌⊎◌, inl, inr, ℕ, zero, suc, ◌+◌, ◌-◌, ◌<◌, ◌≤◌, List, [], ◌∷◌, ◌++◌, length, length-append, get_or, refl, sym, ap, subst, ◌∙◌, ⊎_elim, append_assoc, arith}
use Rattle.std.specs.Prelude.{All, Contains, map}
use Rattle.std.proofs.lemmas.List.{length-map, map-append, get_or_append_left, get_or-append-add}
use Rattle.monomial_order.specs.Monomial.{Exponents, exponent, weighted_degree, IsMonomial, IsTrimmed}
use Rattle.monomial_order.specs.MonomialOrder.{MonomialOrder, IsIncreasing}
use Rattle.monomial_order.specs.Orders.{word_order}
use Rattle.monomial_order.specs.laws.Comparing.{degree_falls, degree_one, equal_or_not, increasing_below, le_or_not, none_below_one, numbers_or_not, some_exponent}
use Rattle.monomial_order.specs.laws.Lists.{contains_at, contains_map, contains_here, contains_right}
use Rattle.monomial_order.specs.laws.Monomial.{exponent_past, last_place, weighted_nil}
use Rattle.word_laws.specs.Words.{word_order_of, IsSmaller}
use Rattle.word_laws.specs.laws.Longer.{longer_compare, longer_degree}
use Rattle.polynomials.specs.Polynomial.{Polynomial, coefficient, degree_of, lead_monomial, IsPoly}
use Rattle.polynomials.specs.Subalgebra.{Presented, IsPresentation, IsReducedBasis, LeadsIdeal}
use Rattle.polynomials.specs.laws.Coefficients.{decreasing_leads, found_monomial, nothing_at}
use Rattle.polynomials.specs.laws.Congruence.{member_congruent}
use Rattle.polynomials.specs.Ideal.{Congruent}
use Rattle.polynomials.specs.Value.{value}
use Rattle.polynomials.specs.laws.Decreasing.{IsDecreasing_IsPoly}
use Rattle.polynomials.specs.laws.Degrees.{decreasing_all}
use Rattle.poly_core.specs.Presentation.{generator_degree}
use Rattle.subalgebra_laws.specs.Words.{letters, IsMinimalWord, IsReducibleWord}
use Rattle.subalgebra_laws.specs.laws.Fronts.{canonical_over}
use Rattle.witness.specs.declared.tracked.Tracked.{Tracked}
use Rattle.witness.specs.Tracking.{by_order, values_of}
use Rattle.witness.specs.laws.Letters.{by_laws, by_places}
use Rattle.subduction.specs.laws.Parts.{increasing_end}
use Rattle.subduction.specs.laws.Decisions.{words_have_zeros}
use Rattle.subduction.specs.Basis.{BasisState, IsBasisElement, IsBasisOf}
use Rattle.subduction.specs.laws.Degrees.{letters_laws}
use Rattle.completion.specs.declared.relations.Relation.{Relation}
use Rattle.completion.specs.Relations.{AreRelations}
use Rattle.state_text.specs.declared.version.Version.TheVariants.{Two}
use Rattle.state_text.specs.Parts.{AreDueElements, IsDueElement, IsDueRelation, IsDueWitness}

-- a monomial without letters from the place n on is one in n places
within : (n : ℕ) (m : Exponents) → IsTrimmed m → ((i : ℕ) → n ≤ i → exponent m i ≡ 0) → length m ≤ n
within n [] t h = omega arith
within n (e ∷ m) t h =
    let r = last_place (e ∷ m) t (λ x. cc) in
    let a = r.1 in
    let b = r.2 in
    ⊎_elim (λ l. let z = h r.0 l in absurd (omega arith)) (λ no. omega (arith, no)) (le_or_not n r.0)

module _ {F E : Type 0} (P : Presented E) (H : IsPresentation P) (b : BasisState F E) (B : IsBasisOf P b) (c : ℕ) (R : IsReducedBasis P c (values_of b.elements)) where
  open P use {field as K, order as O, generators as fs}
  open H use {field as KF, order as OL}

  abbrev S : List (Polynomial E)
  S = values_of b.elements

  abbrev V : MonomialOrder
  V = by_order b.by_order

  -- the element t at its place
  module _ (before : List (Tracked F E)) (t : Tracked F E) (rest : List (Tracked F E)) (split : b.elements ≡ before ++ t ∷ rest) where
    member : Contains b.elements t
    member = subst (λ ts. Contains ts t) (sym split) (contains_right before (t ∷ rest) t (contains_here t rest))

    values : S ≡ values_of before ++ (t.value ∷ values_of rest)
    values = ap values_of split ∙ map-append (λ (u : Tracked F E). u.value) before (t ∷ rest)

    element : IsBasisElement P b t
    element =
        let at : get_or b.elements (length before + 0) t ≡ t = ap (λ ts. get_or ts (length before + 0) t) split ∙ get_or-append-add before (t ∷ rest) 0 t in
        let l : length before + 0 < length b.elements = let n = ap length split in let k = length-append before (t ∷ rest) in omega arith in
        subst (IsBasisElement P b) at (B.elements (length before + 0) t l)

    abbrev d : ℕ
    d = degree_of O t.value

    abbrev later : List (Polynomial E)
    later = t.value ∷ values_of rest

    -- what is not before t has a degree that is not smaller
    not_smaller : (j : ℕ) → j < length later → d ≤ degree_of O (get_or later j [])
    not_smaller zero l = omega arith
    not_smaller (suc j) l =
        let increasing : IsIncreasing O (map lead_monomial (values_of before) ++ map lead_monomial later) =
        subst (IsIncreasing O) (ap (map lead_monomial) values ∙ map-append lead_monomial (values_of before) later) R.increasing in
        degree_falls O OL (lead_monomial t.value) (lead_monomial (get_or (values_of rest) j []))
        (increasing_below O OL (lead_monomial t.value) (map lead_monomial (values_of rest))
        (increasing_end O (map lead_monomial (values_of before)) (map lead_monomial later) increasing)
        (lead_monomial (get_or (values_of rest) j []))
        (contains_map lead_monomial (values_of rest) (get_or (values_of rest) j []) (contains_at (values_of rest) j [] (omega arith))))

    abbrev k : ℕ
    k = length fs + length (values_of before)

    places : V.places ≡ k + length later
    places =
        let a = by_places P S b.by_order B.by_order in
        let n = ap length values in
        let m = length-append (values_of before) later in
        omega arith

    poly : IsPoly K V.places t.by
    poly = IsDecreasing_IsPoly K V t.by element.tracked.canonical.by.decreasing

    monomial : (m : Exponents) → coefficient K t.by m ≢ K.zero → IsMonomial V.places m
    monomial m n = found_monomial K KF V (by_laws b.by_order) t.by poly m n

    -- the letters of its witness are before it
    letters_before : (m : Exponents) → coefficient K t.by m ≢ K.zero → (i : ℕ) → k ≤ i → exponent m i ≡ 0
    letters_before m n i l = ⊎_elim (λ e. e) (λ e. absurd (none e)) (numbers_or_not (exponent m i) 0)
      where
        none : exponent m i ≢ 0 → ⊥
        none e =
            let j = i - k in
            let p = places in
            let w = (monomial m n).within in
            let inside : i < V.places = ⊎_elim (λ r. absurd (e (exponent_past m i (omega (arith, r, w))))) (λ no. omega (arith, no)) (le_or_not V.places i) in
            let is : i ≡ length fs + (length (values_of before) + j) = omega arith in
            let lower = element.tracked.lower m n (length (values_of before) + j) (subst (λ x. exponent m x ≢ 0) is e) in
            let at : get_or S (length (values_of before) + j) [] ≡ get_or later j [] =
            ap (λ T. get_or T (length (values_of before) + j) []) values ∙ get_or-append-add (values_of before) later j [] in
            let same = ap (degree_of O) at in
            let no = not_smaller j (omega (arith, inside, p)) in
            omega (arith, lower, same, no)

    abbrev ds : List ℕ
    ds = map (generator_degree O) fs ++ map (degree_of O) (values_of before)

    abbrev es : List ℕ
    es = map (degree_of O) later

    length_ds : length ds ≡ k
    length_ds =
        let a = length-append (map (generator_degree O) fs) (map (degree_of O) (values_of before)) in
        let g = length-map fs (generator_degree O) in
        let s = length-map (values_of before) (degree_of O) in
        omega arith

    is_longer : V ≡ word_order [] (ds ++ es)
    is_longer =
        ap (λ xs. word_order xs b.by_order.s_degrees.items) B.by_order.no_x ∙
        ap (word_order []) (B.by_order.degrees ∙ (ap (λ T. map (generator_degree O) fs ++ map (degree_of O) T) values ∙
        (ap (λ T. map (generator_degree O) fs ++ T) (map-append (degree_of O) (values_of before) later) ∙
        sym (append_assoc (map (generator_degree O) fs) (map (degree_of O) (values_of before)) es))))

    front : (m : Exponents) → coefficient K t.by m ≢ K.zero → IsMonomial (length ds) m
    front m n = record {
      trimmed = (monomial m n).trimmed;
      within = let l = length_ds in let w = within k m (monomial m n).trimmed (letters_before m n) in omega arith;
    }

    same_degree : (m : Exponents) → IsMonomial (length ds) m → (word_order [] ds).degree m ≡ V.degree m
    same_degree m h = sym (ap (λ N. (let M : MonomialOrder = N in M.degree m)) is_longer ∙ longer_degree [] ds es m h.within)

    nonzero : t.by ≢ []
    nonzero e =
        let s = element.tracked.canonical.value.decreasing in
        let some : t.value ≢ [] = λ z. KF.one_not_zero (sym element.monic.monic ∙ (ap (λ p. coefficient K p (lead_monomial p)) z ∙ sym (nothing_at K []))) in
        let lead = decreasing_leads K KF O OL t.value s some in
        (element.standard (lead_monomial t.value) lead.nonzero).no_lead (record {
          member = t.value;
          poly = IsDecreasing_IsPoly K O t.value s;
          inside = member_congruent K KF O.places P.ideal t.value (subst (λ h. Congruent K O.places P.ideal t.value (value K h (fs ++ S))) e element.tracked.tracks);
          leads = lead;
        })

    due_witness : IsDueWitness P (values_of before) d t.by
    due_witness = record {
      canonical = canonical_over K V (word_order [] ds) (IsMonomial (length ds)) (λ m h. h)
          (λ m n a b. sym (ap (λ N. (let M : MonomialOrder = N in M.compare m n)) is_longer ∙ longer_compare [] ds es m n a.within b.within))
          same_degree t.by (decreasing_all K KF V (by_laws b.by_order) (IsMonomial (length ds)) t.by element.tracked.canonical.by.decreasing front)
          element.tracked.canonical.by;
      nonzero = nonzero;
      graded = λ m n. same_degree m (front m n) ∙ element.tracked.graded.by m n;
      lower = λ m n i e. lower m n i e (le_or_not (length (values_of before)) i);
    }
      where
        lower : (m : Exponents) → coefficient K t.by m ≢ K.zero → (i : ℕ) → exponent m (length fs + i) ≢ 0 → (length (values_of before) ≤ i) ⊎ (length (values_of before) ≤ i → ⊥) →
            degree_of O (get_or (values_of before) i []) < d
        lower m n i e (inl l) = absurd (e (letters_before m n (length fs + i) (omega (arith, l))))
        lower m n i e (inr never) =
            let at : get_or S i [] ≡ get_or (values_of before) i [] =
            ap (λ T. get_or T i []) values ∙ get_or_append_left (values_of before) later [] i (omega (arith, never)) in
            let same = ap (degree_of O) at in
            let low = element.tracked.lower m n i e in
            omega (arith, same, low)

    due : IsDueElement P Two c (values_of before) t
    due =
        let e = R.elements t.value (contains_map (λ (u : Tracked F E). u.value) b.elements t member) in
        record {
          canonical = element.tracked.canonical.value;
          homogeneous = e.homogeneous;
          at_least = e.at_least;
          at_most = e.at_most;
          witness = due_witness;
        }

  due_behind : (before rest : List (Tracked F E)) → b.elements ≡ before ++ rest → AreDueElements P Two c (values_of before) rest
  due_behind before [] split = tt
  due_behind before (t ∷ rest) split = (
    due before t rest split,
    subst (λ T. AreDueElements P Two c T rest) (map-append (λ (u : Tracked F E). u.value) before (t ∷ []))
        (due_behind (before ++ t ∷ []) rest (split ∙ sym (append_assoc before (t ∷ []) rest))),
  )

  pub due_elements : AreDueElements P Two c [] b.elements
  due_elements = due_behind [] b.elements refl

  -- 1 leads no member of the ideal, and is no reducible word
  not_one : (u : Exponents) → IsMinimalWord P S u → u ≢ []
  not_one u h e = ⊎_elim no_lead no_smaller (subst (IsReducibleWord P S) e h.0.reducible)
    where
      no_lead : LeadsIdeal P [] → ⊥
      no_lead l =
          let z = (words_have_zeros P H b B).divide [] l (let o = degree_one O OL in omega arith) in
          let zero = B.words.zeros.each z.0 z.1 in
          let is_one : z.0 ≡ [] = ⊎_elim (λ r. r) (λ ne. let s = some_exponent z.0 zero.monomial.trimmed ne in let x = z.2 s.0 in let y = s.2 in absurd (omega arith)) (equal_or_not z.0 []) in
          let p = zero.positive in
          let w = ap (weighted_degree b.words.letters.degrees) is_one ∙ weighted_nil b.words.letters.degrees in
          omega (arith, p, w)

      no_smaller : (v : Exponents) × IsSmaller (letters P S) [] v → ⊥
      no_smaller s = none_below_one (word_order_of (letters P S)) (letters_laws P H b B) s.0 s.1.word s.1.less

  pub due_relations : (relations : List (Relation F E)) → AreRelations P S c relations → All (IsDueRelation P S c) relations
  due_relations relations h i z l =
      let r = get_or relations i z in
      let right = h.rights i z l in
      let word = (h.exactly r.word).0 (contains_map (λ (x : Relation F E). x.word) relations r (contains_at relations i z l)) in
      record {
        word = word.0.1;
        not_one = not_one r.word word.0;
        degree = word.1;
        canonical = right.canonical;
        words = right.sum.words;
        graded = right.graded;
      }

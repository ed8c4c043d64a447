-- The elements of the last degree of a basis, if none of their monomials is a product of smaller leads.
use Rattle.std.proofs.Common.{◌≡◌, ◌≢◌, ℕ, suc, ◌+◌, ◌<◌, ◌≤◌, sym, ◌∙◌, ap, subst, List, [], ◌++◌, length, length-append, get_or, ⊎_elim, arith}
use Rattle.std.specs.Prelude.{AllPairs, Contains, map}
use Rattle.std.proofs.lemmas.List.{get_or_default, get_or-append-add, get_or-map, length-map, map-append}
use Rattle.std.proofs.lemmas.List.Elements.{All-contains}
use Rattle.monomial_order.specs.Monomial.{Exponents}
use Rattle.monomial_order.specs.MonomialOrder.{IsIncreasing, MonomialOrder}
use Rattle.monomial_order.specs.laws.Comparing.{le_or_not, numbers_or_not}
use Rattle.monomial_order.specs.laws.Lists.{contains_right}
use Rattle.word_laws.specs.Words.{Letters}
use Rattle.polynomials.specs.Polynomial.{Polynomial, coefficient, degree_of, lead_monomial}
use Rattle.polynomials.specs.Subalgebra.{Presented, IsPresentation, InSubalgebra, IsGenerated}
use Rattle.monomial_order.specs.laws.Lists.{map_contains}
use Rattle.subalgebra_laws.specs.Bases.{AreAfter, AreMonicElements, AreNextTo, AreReducedByEachOther, AreStandardAfter, HaveLeadsFrom, IsCheckedElement}
use Rattle.subalgebra_laws.specs.Statements.{ProductsSplit}
use Rattle.witness.specs.declared.tracked.Tracked.{Tracked}
use Rattle.witness.specs.Tracking.{by_order, values_of}
use Rattle.witness.specs.laws.Letters.{by_places}
use Rattle.witness.specs.laws.Members.{elements_are_members, tracked_are_lower}
use Rattle.word_values.specs.Values.{AreHomogeneousElements}
use Rattle.subduction.specs.Basis.{BasisState, AreInParts, IsBasisOf}
use Rattle.subduction.specs.laws.Elements.{homogeneous_elements, monic_elements}

module _ {F E : Type 0} (P : Presented E) (H : IsPresentation P) (b : BasisState F E) (B : IsBasisOf P b) where
  open P use {field as K, order as O}

  -- the elements are members of the subalgebra
  member : (s : Polynomial E) → Contains (values_of b.elements) s → InSubalgebra P s
  member s k =
      let W : MonomialOrder = by_order b.by_order in
      let r = map_contains (λ (t : Tracked F E). t.value) b.elements s k in
      subst (InSubalgebra P) r.2
      (All-contains (λ (t : Tracked F E). InSubalgebra P t.value) b.elements r.0
      (elements_are_members P H b.elements (tracked_are_lower P W b.elements (λ i z l. (B.elements i z l).tracked) (by_places P (values_of b.elements) b.by_order B.by_order))) r.1)

  module _ (d : ℕ) (lower last : List (Tracked F E)) (p : AreInParts P d b.elements lower last) where
    abbrev S : List (Polynomial E)
    S = values_of lower

    abbrev T : List (Polynomial E)
    T = values_of last

    pub values_are : values_of b.elements ≡ S ++ T
    values_are = ap values_of p.whole ∙ map-append (λ (t : Tracked F E). t.value) lower last

    pub monic : AreMonicElements P (S ++ T)
    monic = subst (AreMonicElements P) values_are (monic_elements P H b B)

    pub homogeneous : AreHomogeneousElements P (S ++ T)
    homogeneous = subst (AreHomogeneousElements P) values_are (homogeneous_elements P H b B)

    pub last_degree : (t : Polynomial E) → Contains T t → O.degree (lead_monomial t) ≡ d
    last_degree t k =
        let r = map_contains (λ (u : Tracked F E). u.value) last t k in
        subst (λ x. degree_of O x ≡ d) r.2 (All-contains (λ (u : Tracked F E). degree_of O u.value ≡ d) last r.0 p.last_equal r.1)

    pub from_degree : HaveLeadsFrom P d T
    from_degree t k = let e = last_degree t k in omega arith

    lead_nonzero : (t : Polynomial E) → Contains T t → coefficient K t (lead_monomial t) ≢ K.zero
    lead_nonzero t k z = H.field.one_not_zero (sym (monic t (contains_right S T t k)).monic ∙ z)

    -- no two leads of the last elements are the same
    distinct : AllPairs (λ m n. m ≢ n) (map lead_monomial S ++ map lead_monomial T)
    distinct = subst (AllPairs (λ m n. m ≢ n)) (ap (λ (l : Letters). l.leads) B.letters ∙ (ap (map lead_monomial) values_are ∙ map-append lead_monomial S T)) B.words.distinct

    differ_less : (i j : ℕ) → i < j → j < length T → lead_monomial (get_or T i []) ≡ lead_monomial (get_or T j []) → ⊥
    differ_less i j l k e =
        let n = length-append (map lead_monomial S) (map lead_monomial T) in
        let v = length-map T lead_monomial in
        distinct (length (map lead_monomial S) + i) (length (map lead_monomial S) + j) [] (omega arith) (omega arith) (at i (omega arith) ∙ (e ∙ sym (at j k)))
      where
        at : (i : ℕ) → i < length T → get_or (map lead_monomial S ++ map lead_monomial T) (length (map lead_monomial S) + i) [] ≡ lead_monomial (get_or T i [])
        at i l = get_or-append-add (map lead_monomial S) (map lead_monomial T) i [] ∙ get_or-map lead_monomial T i [] [] l

    differ : (i j : ℕ) → i < length T → j < length T → lead_monomial (get_or T i []) ≡ lead_monomial (get_or T j []) → i ≡ j
    differ i j k l e = ⊎_elim (λ q. q) (λ n. absurd (⊎_elim (λ q. differ_less i j q l e) (λ q. differ_less j i (omega (arith, n, q)) k (sym e)) (le_or_not (suc i) j))) (numbers_or_not i j)

    module _ (fresh : (t : Tracked F E) → Contains last t → (m : Exponents) → coefficient K t.value m ≢ K.zero → ¬ IsGenerated (map lead_monomial S) m) where
      last_fresh : (t : Polynomial E) → Contains T t → (m : Exponents) → coefficient K t m ≢ K.zero → ¬ IsGenerated (map lead_monomial S) m
      last_fresh t k m n =
          let r = map_contains (λ (u : Tracked F E). u.value) last t k in
          fresh r.0 r.1 m (subst (λ x. coefficient K x m ≢ K.zero) (sym r.2) n)

      after : AreAfter P d S T
      after = record { monic = monic; degree = from_degree; new = λ t k. last_fresh t k (lead_monomial t) (lead_nonzero t k) }

      -- they come after the elements of smaller degrees
      pub standard_after : AreStandardAfter P d S T
      standard_after = record {
        after = after;
        standard = λ t k. (homogeneous t (contains_right S T t k)).standard (lead_monomial t) (lead_nonzero t k);
        differ = differ;
      }

      pub next_to : IsIncreasing O (map lead_monomial T) → AreNextTo P d S T
      next_to r = record { after = after; standard = standard_after.standard; increasing = r }

      -- and are checked elements, if they are reduced by each other
      module _ (split : (P : Presented E) (S T : List (Polynomial E)) (d : ℕ) → IsPresentation P → AreMonicElements P (S ++ T) → HaveLeadsFrom P d T → ProductsSplit P S T d) (reduced : AreReducedByEachOther P T) where
        not_other : (i j : ℕ) (m : Exponents) → i < length T → j < length T → coefficient K (get_or T i []) m ≢ K.zero → m ≢ lead_monomial (get_or T i []) → lead_monomial (get_or T j []) ≡ m → ⊥
        not_other i j m k l n ne e =
            ⊎_elim (λ q. ne (sym e ∙ ap (λ x. lead_monomial (get_or T x [])) (sym q))) (λ q. n (ap (coefficient K (get_or T i [])) (sym e) ∙ reduced i j k l q)) (numbers_or_not i j)

        tail : (t : Polynomial E) → Contains T t → (m : Exponents) → coefficient K t m ≢ K.zero → m ≢ lead_monomial t → ¬ IsGenerated (map lead_monomial (S ++ T)) m
        tail t k m n ne g =
            let e = (homogeneous t (contains_right S T t k)).homogeneous in
            let low : O.degree m ≤ d = let a = e.each m n in let z = last_degree t k in omega arith in
            ⊎_elim (last_fresh t k m n) among (split P S T d H monic from_degree m low g)
          where
            here : (u : Polynomial E) (q : Contains T u) → get_or T q.0 [] ≡ u
            here u q = let l = q.1 in get_or_default T q.0 [] u l ∙ q.2

            among : Contains (map lead_monomial T) m → ⊥
            among q =
                let r = map_contains lead_monomial T m q in
                let x = r.1 in
                not_other k.0 x.0 m k.1 x.1 (subst (λ y. coefficient K y m ≢ K.zero) (sym (here t k)) n) (λ z. ne (z ∙ ap lead_monomial (here t k))) (ap lead_monomial (here r.0 x) ∙ r.2)

        pub checked : (t : Polynomial E) → Contains T t → IsCheckedElement P d (S ++ T) t
        checked t k =
            let i = contains_right S T t k in
            let e = homogeneous t i in
            let f = monic t i in
            record {
              element = record {
                decreasing = f.decreasing;
                inside = member t (subst (λ xs. Contains xs t) (sym values_are) i);
                monic = f.monic;
                homogeneous = e.homogeneous;
                at_least = f.positive;
                at_most = let z = last_degree t k in omega arith;
                standard = e.standard;
              };
              tail = tail t k;
            }

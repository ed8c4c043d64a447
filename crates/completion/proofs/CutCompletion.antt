-- A completion that goes back to a smaller degree.
use Rattle.std.proofs.Common.{◌≡◌, ℕ, suc, take, drop, Bool, false, ◌<◌, ◌≤◌, List, [], ◌∷◌, ◌++◌, sym, ap, subst, ◌∙◌, append_assoc, ⊎_elim, arith}
use Rattle.std.specs.Prelude.{All, Contains, map, min}
use Rattle.std.proofs.lemmas.List.{map-append, take-append-drop}
use Rattle.std.proofs.lemmas.List.Elements.{All-contains}
use Rattle.monomial_order.specs.MonomialOrder.{IsIncreasing, IsMonomialOrder, MonomialOrder}
use Rattle.monomial_order.specs.laws.Comparing.{le_or_not}
use Rattle.monomial_order.specs.laws.Lists.{contains_left, contains_right, map_contains}
use Rattle.word_laws.specs.Words.{word_order_of}
use Rattle.polynomials.specs.Polynomial.{Polynomial, degree_of, lead_monomial}
use Rattle.polynomials.specs.Subalgebra.{Presented, IsGenerated, IsPresentation, IsReducedBasis}
use Rattle.std.proofs.Math.Nat.{le-min}
use Rattle.polynomials.specs.laws.ReducedBasis.{contains_split}
use Rattle.subalgebra_laws.specs.Bases.{AreMonicElements, AreNextTo, AreStandardAfter, HaveLeadsFrom}
use Rattle.subalgebra_laws.specs.Statements.{ForNextElements, ForPresentations, ForStandardElements, FrontsAreReduced, MinimalWordsStay, SumsWithoutNewLettersStay, ValuesStay}
use Rattle.subalgebra_laws.specs.Words.{letters}
use Rattle.witness.specs.declared.tracked.Tracked.{Tracked}
use Rattle.witness.specs.Tracking.{values_of}
use Rattle.word_values.specs.Values.{word_degree, AreHomogeneousElements}
use Rattle.subduction.specs.Basis.{BasisState, IsBasisOf}
use Rattle.subduction.specs.Cutting.{IsCutAt}
use Rattle.subduction.specs.laws.Degrees.{letters_laws}
use Rattle.subduction.specs.laws.Elements.{homogeneous_elements, monic_elements}
use Rattle.completion.specs.declared.relations.Relation.{Relation}
use Rattle.completion.specs.Completion.{elements_of, AreShortAbove, CompletionState, IsAtDegree, IsCompletion}
use Rattle.completion.specs.declared.candidates.Candidate.{Candidate}
use Rattle.completion.specs.declared.candidates.Found.{Found}
use Rattle.completion.proofs.Restored.{standing_at}
use Rattle.word_field.specs.Field.{FieldOps}
use Rattle.monomial_order.specs.Orders.{word_order}
use Rattle.monomial_order.specs.declared.word_order.WordOrder.{WordOrder}
use Rattle.word_laws.specs.Words.{lead_degrees}
use Rattle.poly_core.specs.Presentation.{presented}
use Rattle.toric_ideal.specs.Increasing.{AreComparable}
use Rattle.toric_ideal.specs.Listing.{Listing}
use Rattle.witness.specs.Tracking.{by_order}
use Rattle.word_values.specs.Values.{Table}
use Rattle.completion.specs.Relations.{AreRelations}
use Rattle.completion.proofs.FrontRelations.{front_relations}
use Rattle.subduction.specs.laws.Parts.{generated_more, increasing_end}

module _ {F E : Type 0} (P : Presented E) (H : IsPresentation P) (b : BasisState F E) (B : IsBasisOf P b) (c d : ℕ) (R : IsReducedBasis P c (values_of b.elements)) (less : d ≤ c)
    (new : List (Tracked F E)) (cut : IsCutAt P d b.elements new) where
  abbrev S : List (Polynomial E)
  S = values_of new

  abbrev T : List (Polynomial E)
  T = values_of cut.rest

  whole : values_of b.elements ≡ S ++ T
  whole = ap values_of cut.whole ∙ map-append (λ (t : Tracked F E). t.value) new cut.rest

  at_most : (s : Polynomial E) → Contains S s → P.order.degree (lead_monomial s) ≤ d
  at_most s k =
      let r = map_contains (λ (t : Tracked F E). t.value) new s k in
      subst (λ x. P.order.degree (lead_monomial x) ≤ d) r.2 (All-contains (λ (t : Tracked F E). degree_of P.order t.value ≤ d) new r.0 cut.at_most r.1)

  high : HaveLeadsFrom P (suc d) T
  high s k =
      let r = map_contains (λ (t : Tracked F E). t.value) cut.rest s k in
      let a = All-contains (λ (t : Tracked F E). d < degree_of P.order t.value) cut.rest r.0 cut.above r.1 in
      subst (λ x. suc d ≤ P.order.degree (lead_monomial x)) r.2 a

  -- the elements that stay are the reduced basis to d
  pub cut_reduced : ForPresentations E FrontsAreReduced → IsReducedBasis P d S
  cut_reduced fronts = fronts P H S T c d (subst (IsReducedBasis P c) whole R) less at_most high

  -- the others come after them
  next_to : AreNextTo P (suc d) S T
  next_to = record {
    after = record {
      monic = subst (AreMonicElements P) whole (monic_elements P H b B);
      degree = high;
      new = λ t k g.
          let r = contains_split T t k in
          let at : values_of b.elements ≡ (S ++ r.0) ++ (t ∷ r.1) = whole ∙ (ap (λ ts. S ++ ts) r.2 ∙ sym (append_assoc S r.0 (t ∷ r.1))) in
          let leads : map lead_monomial S ++ map lead_monomial (r.0 ++ r.1) ≡ map lead_monomial ((S ++ r.0) ++ r.1) =
          sym (map-append lead_monomial S (r.0 ++ r.1)) ∙ ap (map lead_monomial) (sym (append_assoc S r.0 r.1)) in
          R.minimal (S ++ r.0) r.1 t at (subst (λ ms. IsGenerated ms (lead_monomial t)) leads (generated_more (map lead_monomial S) (map lead_monomial (r.0 ++ r.1)) (lead_monomial t) g));
    };
    standard = λ t k.
        let e = R.elements t (subst (λ ts. Contains ts t) (sym whole) (contains_right S T t k)) in
        e.standard (lead_monomial t) (λ z. H.field.one_not_zero (sym e.monic ∙ z));
    increasing = increasing_end P.order (map lead_monomial S) (map lead_monomial T)
        (subst (IsIncreasing P.order) (ap (map lead_monomial) whole ∙ map-append lead_monomial S T) R.increasing);
  }

  -- and the relations that stay are all to d
  pub cut_relations : ForNextElements E (λ P S T d. AreStandardAfter P d S T) → ((S T : List (Polynomial E)) → ValuesStay P S T) →
      ((S T : List (Polynomial E)) → AreMonicElements P (S ++ T) → SumsWithoutNewLettersStay P S T) → ForStandardElements E MinimalWordsStay →
      (old kept rest : List (Relation F E)) → old ≡ kept ++ rest → AreRelations P (values_of b.elements) c old →
      All (λ r. word_degree P (values_of b.elements) r.word ≤ d) kept → All (λ r. d < word_degree P (values_of b.elements) r.word) rest → AreRelations P S d kept
  cut_relations differ values sums minimal old kept rest split A low above =
      front_relations P H S T (subst (AreHomogeneousElements P) whole (homogeneous_elements P H b B))
      (subst (λ X. IsMonomialOrder (word_order_of (letters P X))) whole (letters_laws P H b B)) d high (values S T)
      (sums S T (subst (AreMonicElements P) whole (monic_elements P H b B))) (differ P S T (suc d) H next_to) minimal c less old kept rest split
      (subst (λ X. AreRelations P X c old) whole A) (subst (λ X. All (λ r. word_degree P X r.word ≤ d) kept) whole low)
      (subst (λ X. All (λ r. d < word_degree P X r.word) rest) whole above)

  -- the witnesses above what came from outside are short
  pub cut_short : (r : ℕ) → AreShortAbove P r b.elements → AreShortAbove P (min r d) new
  cut_short r short t k above =
      let low = All-contains (λ (u : Tracked F E). degree_of P.order u.value ≤ d) new t cut.at_most k in
      short t (subst (λ ts. Contains ts t) (sym cut.whole) (contains_left new cut.rest t k))
      (⊎_elim (λ l. let m : degree_of P.order t.value ≤ min r d = le-min l low in absurd (omega arith)) (λ no. omega (arith, no)) (le_or_not (degree_of P.order t.value) r))

-- the completion s and its relations
module _ {F A E : Type 0} (ops : F → FieldOps E) (order : A → MonomialOrder) (s : CompletionState F A E) (C : IsCompletion ops order s) (closed : s.begun ≡ false) where
  abbrev here : Presented E
  here = presented ops order s.presentation

  abbrev words : MonomialOrder
  words = word_order_of (letters here (elements_of s))

  at_degree : IsAtDegree here s
  at_degree = C.standing.at_degree closed

  -- the order of the words of a basis
  pub words_are : (w : WordOrder) (W : Listing) → W ≡ s.basis.words → w.x_degrees.items ≡ W.letters.degrees → w.s_degrees.items ≡ lead_degrees W.letters → by_order w ≡ words
  words_are w W e x z =
      ap (λ xs. word_order xs w.s_degrees.items) x ∙ (ap (word_order W.letters.degrees) z ∙
      ap (λ L. word_order_of L) (ap (λ (V : Listing). V.letters) e ∙ C.standing.basis.letters))

  pub words_comparable : (w : WordOrder) → by_order w ≡ words → AreComparable (by_order w) (map (λ r. r.word) s.relations)
  words_comparable w e = subst (λ O. AreComparable O (map (λ r. r.word) s.relations)) (sym e)
      (λ m k.
      let h = (at_degree.relations.exactly m).0 k in
      let small = C.standing.small in
      let low = at_degree.words.0 in
      let up = C.standing.basis.degree in
      let l = h.1 in record { monomial = h.0.0.word; small = omega arith })

  pub words_increasing : (w : WordOrder) → by_order w ≡ words → IsIncreasing (by_order w) (map (λ r. r.word) s.relations)
  words_increasing w e = subst (λ O. IsIncreasing O (map (λ r. r.word) s.relations)) (sym e) at_degree.relations.increasing

  module _ (d : ℕ) (less : d ≤ s.degree) (n : BasisState F E) (N : IsBasisOf here n) (quotient : n.quotient.degree ≡ d) (degree : n.words.degree ≡ d) (cut : IsCutAt here d s.basis.elements n.elements)
      (fronts : ForPresentations E FrontsAreReduced) (differ : ForNextElements E (λ P S T d. AreStandardAfter P d S T)) (stay : (P : Presented E) (S T : List (Polynomial E)) → ValuesStay P S T)
      (sums : (P : Presented E) (S T : List (Polynomial E)) → IsPresentation P → AreMonicElements P (S ++ T) → SumsWithoutNewLettersStay P S T) (minimal : ForStandardElements E MinimalWordsStay)
      (w : WordOrder) (same : by_order w ≡ words) (count : ℕ) (low : All (λ (r : Relation F E). (by_order w).degree r.word ≤ d) (take count s.relations))
      (above : All (λ (r : Relation F E). d < (by_order w).degree r.word) (drop count s.relations)) where
    -- with the lower elements and relations it is one
    pub cut_completion : (r : ℕ) → r ≡ min s.read d → (kept : List (Relation F E)) → kept ≡ take count s.relations → (values : Table E) (queue : List (List Candidate)) (found : List (Found F E)) → values ≡ [] → queue ≡ [] →
        (begun : Bool) → begun ≡ false →
        IsCompletion ops order (let t : CompletionState F A E = record { presentation = s.presentation; basis = n; values = values; kept = 0; relations = kept; degree = d; read = r; begun = begun; queue = queue; found = found } in t)
    cut_completion r read kept front values queue found v u begun none =
        let H = C.presentation.presentation in
        let B = C.standing.basis in
        let reduced = cut_reduced here H s.basis B s.degree d at_degree.reduced less n.elements cut fronts in
        let exact = cut_relations here H s.basis B s.degree d at_degree.reduced less n.elements cut differ (stay here) (λ S T. sums here S T H) minimal s.relations (take count s.relations) (drop count s.relations)
        (sym (take-append-drop count s.relations)) at_degree.relations
        (subst (λ O. All (λ (x : Relation F E). (let M : MonomialOrder = O in M.degree x.word) ≤ d) (take count s.relations)) same low)
        (subst (λ O. All (λ (x : Relation F E). d < (let M : MonomialOrder = O in M.degree x.word)) (drop count s.relations)) same above) in
        let small = C.standing.small in
        let to = at_degree.words.0 in
        let up = B.degree in
        subst (λ x. IsCompletion ops order (let t : CompletionState F A E = record { presentation = s.presentation; basis = n; values = values; kept = 0; relations = kept; degree = d; read = r; begun = x; queue = queue; found = found } in t)) (sym none)
        (record {
          presentation = C.presentation;
          standing = standing_at here n N d (omega arith) quotient degree r
              (subst (λ x. AreShortAbove here x n.elements) (sym read) (cut_short here H s.basis B s.degree d at_degree.reduced less n.elements cut s.read C.standing.short))
              reduced kept (subst (AreRelations here (values_of n.elements) d) (sym front) exact) s.presentation values queue found v u;
        })

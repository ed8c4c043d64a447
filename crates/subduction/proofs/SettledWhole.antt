-- A basis after its last elements are settled.
use Rattle.std.proofs.Common.{◌≡◌, ◌≢◌, ℕ, ◌+◌, ◌<◌, ◌≤◌, drop, take, refl, sym, ◌∙◌, ap, subst, List, [], ◌∷◌, ◌++◌, length, length-append, ⊎_elim, arith}
use Rattle.std.specs.Prelude.{Contains, map, replicate, AllPairs, ◌↔◌}
use Rattle.std.proofs.lemmas.List.{get_or-append-add, length-map, map-append}
use Rattle.monomial_order.specs.Monomial.{Exponents, weighted_degree}
use Rattle.monomial_order.specs.laws.Lists.{contains_either, contains_here, contains_left, contains_map, contains_none, contains_right, contains_there, map_contains}
use Rattle.word_laws.specs.Words.{Letters, variables}
use Rattle.word_laws.specs.laws.Images.{degree_weighted}
use Rattle.polynomials.specs.Polynomial.{degree_of, lead_monomial}
use Rattle.polynomials.specs.Subalgebra.{Presented, IsPresentation}
use Rattle.poly_core.specs.Presentation.{generator_degree}
use Rattle.quotient_gb.specs.Quotient.{QuotientState, IsQuotientOf}
use Rattle.subalgebra_laws.specs.Statements.{IncreasingListsAreEqual}
use Rattle.toric_ideal.specs.Increasing.{IsSorted}
use Rattle.toric_ideal.specs.Listing.{IsListing, IsSettled, OrdersByDegrees}
use Rattle.witness.specs.declared.tracked.Tracked.{Tracked}
use Rattle.witness.specs.Tracking.{by_order, values_of, IsWitnessOrder}
use Rattle.subduction.specs.Basis.{BasisState, AreInParts, AreSettled, AreShortAt, IsBasisOf}
use Rattle.subduction.specs.Settling.{AreMadeInOrder}
use Rattle.subduction.proofs.Elements.{places_is}
use Rattle.subduction.specs.laws.Parts.{contains-All, unique_parts}
use Rattle.subduction.proofs.Settled.{all_made, AreDone, leads_of}
use Rattle.subduction.proofs.SettledBasis.{are_old, are_settled, comparable, last_leads, leads_are, new_elements, one_lead, low, equal}

-- parts of lists
take_front : {A : Type 0} (xs ys : List A) → take (length xs) (xs ++ ys) ≡ xs
take_front [] ys = refl
take_front (x ∷ xs) ys = ap (λ zs. x ∷ zs) (take_front xs ys)

drop_front : {A : Type 0} (xs ys : List A) → drop (length xs) (xs ++ ys) ≡ ys
drop_front [] ys = refl
drop_front (x ∷ xs) ys = drop_front xs ys

distinct_right : (xs ys : List Exponents) → AllPairs (λ m n. m ≢ n) (xs ++ ys) → AllPairs (λ m n. m ≢ n) ys
distinct_right xs ys h i j d l k e =
    h (length xs + i) (length xs + j) d (omega arith) (let a = length-append xs ys in omega arith)
    (get_or-append-add xs ys i d ∙ (e ∙ sym (get_or-append-add xs ys j d)))

letters_are : (l : Letters) (ds : List ℕ) (ms : List Exponents) → l.degrees ≡ ds → l.leads ≡ ms → l ≡ record { degrees = ds; leads = ms }
letters_are l ds ms e f =
    ap (λ (xs : List ℕ). let k : Letters = record { degrees = xs; leads = l.leads } in k) e ∙
    ap (λ (xs : List Exponents). let k : Letters = record { degrees = ds; leads = xs } in k) f

module _ {F E : Type 0} (P : Presented E) (H : IsPresentation P) (b : BasisState F E) (B : IsBasisOf P b) where
  open P use {field as K, order as O, generators as fs}

  pub orders : OrdersByDegrees O b.words.letters.degrees
  orders = record {
    places = sym (places_is P H b B);
    gives = ap (λ n. map O.degree (variables 0 n)) (places_is P H b B) ∙ sym (ap (λ (l : Letters). l.degrees) B.letters);
  }

  module _ (lower before : List (Tracked F E)) (p : AreInParts P b.words.degree b.elements lower before) (n : ℕ) (at : n ≡ length lower)
      (us : List (Tracked F E)) (made : AreMadeInOrder P (by_order b.by_order) (drop n b.elements) (drop n b.words.letters.leads) us) where
    abbrev d : ℕ
    d = b.words.degree

    first : take n b.elements ≡ lower
    first = ap (λ k. take k b.elements) at ∙ (ap (take (length lower)) p.whole ∙ take_front lower before)

    last : drop n b.elements ≡ before
    last = ap (λ k. drop k b.elements) at ∙ (ap (drop (length lower)) p.whole ∙ drop_front lower before)

    leads_last : drop n b.words.letters.leads ≡ leads_of before
    leads_last = last_leads P H b B lower before p n at ∙ ap leads_of last

    in_order : AreMadeInOrder P (by_order b.by_order) before (leads_of before) us
    in_order = subst (λ ms. AreMadeInOrder P (by_order b.by_order) before ms us) leads_last (subst (λ ts. AreMadeInOrder P (by_order b.by_order) ts (drop n b.words.letters.leads) us) last made)

    abbrev S : List Exponents
    S = in_order.sorted

    sorted : IsSorted O (leads_of before) S
    sorted = in_order.in_order

    done : AreDone P H (by_order b.by_order) (values_of lower) before d us × (leads_of us ≡ S)
    done =
        let r = all_made P H (by_order b.by_order) (values_of lower) before d (are_old P H b B lower before p) [] S us
        (record { parts = λ u k. absurd (contains_none u k); monic = λ u k. absurd (contains_none u k); reduced = tt }) sorted.increasing (λ v k. absurd (contains_none v k)) in_order.made in
        (r.0, r.1)

    distinct : AllPairs (λ m k. m ≢ k) (leads_of before)
    distinct = distinct_right (leads_of lower) (leads_of before) (subst (AllPairs (λ m k. m ≢ k)) (leads_are P H b B lower before p) B.words.distinct)

    number : length us ≡ length before
    number =
        let a = ap length done.1 in
        let s = sorted.number distinct in
        let x = length-map us (λ (t : Tracked F E). t.value) in
        let y = length-map (values_of us) lead_monomial in
        let z = length-map before (λ (t : Tracked F E). t.value) in
        let w = length-map (values_of before) lead_monomial in omega arith

    pub number_last : n + length us ≡ length b.elements
    number_last = let a = number in let e = ap length p.whole in let l = length-append lower before in omega arith

    low_lead : (m : Exponents) → Contains (leads_of lower) m → O.degree m < d
    low_lead m k =
        let q = map_contains lead_monomial (values_of lower) m k in
        let t = map_contains (λ (t : Tracked F E). t.value) lower q.0 q.1 in
        let l = low P H b B lower before p t.0 t.1 in
        let i : degree_of O (let y : Tracked F E = t.0 in y.value) ≡ O.degree m = ap O.degree (ap lead_monomial t.2 ∙ q.2) in omega arith

    last_lead : (m : Exponents) → Contains (leads_of before) m → O.degree m ≡ d
    last_lead m k =
        let q = map_contains lead_monomial (values_of before) m k in
        let t = map_contains (λ (t : Tracked F E). t.value) before q.0 q.1 in
        let l = equal P H b B lower before p t.0 t.1 in
        let i : degree_of O (let y : Tracked F E = t.0 in y.value) ≡ O.degree m = ap O.degree (ap lead_monomial t.2 ∙ q.2) in omega arith

    lead_in : (ts : List (Tracked F E)) (t : Tracked F E) → Contains ts t → Contains (leads_of ts) (lead_monomial t.value)
    lead_in ts t k = contains_map lead_monomial (values_of ts) t.value (contains_map (λ (x : Tracked F E). x.value) ts t k)

    degrees : (u : Tracked F E) → Contains us u → degree_of O u.value ≡ d
    degrees u k = last_lead (lead_monomial u.value) ((sorted.members (lead_monomial u.value)).1 (subst (λ ms. Contains ms (lead_monomial u.value)) done.1 (lead_in us u k)))

    whole : (new : List (Tracked F E)) → new ≡ take n b.elements ++ us → new ≡ lower ++ us
    whole new e = e ∙ ap (λ ts. ts ++ us) first

    pub settled : (new : List (Tracked F E)) → new ≡ take n b.elements ++ us → AreSettled P d b.elements new
    settled new e =
        are_settled P H b B lower before p new S us (whole new e) sorted.increasing in_order.made
        (λ t k. (sorted.members (lead_monomial t.value)).0 (lead_in before t k))
        (one_lead P H b B lower before p distinct) degrees

    pub short : (new : List (Tracked F E)) → new ≡ take n b.elements ++ us → AreShortAt P d b.elements → AreShortAt P d new
    short new e h t k q =
        ⊎_elim (λ i. let l = low P H b B lower before p t i in absurd (omega arith))
        (λ i. (done.0.parts t i).short (λ v j. h v (subst (λ ts. Contains ts v) (sym p.whole) (contains_right lower before v j)) (equal P H b B lower before p v j)))
        (contains_either lower us t (subst (λ ts. Contains ts t) (whole new e) k))

    -- the leads in their new order
    weighted : (m : Exponents) → Contains (leads_of lower ++ leads_of before) m → weighted_degree b.words.letters.degrees m ≡ O.degree m
    weighted m k =
        ap (λ (l : Letters). weighted_degree l.degrees m) B.letters ∙
        degree_weighted O H.order m (comparable P H b B lower before p m (subst (λ ms. Contains ms m) (sym (leads_are P H b B lower before p)) k)).monomial

    new_leads : IncreasingListsAreEqual P → (ms : List Exponents) → IsSettled O b.words.letters.degrees d b.words.letters.leads ms → ms ≡ leads_of lower ++ leads_of us
    new_leads same ms s =
        let u = unique_parts (weighted_degree b.words.letters.degrees) d s.lower s.before (leads_of lower) (leads_of before)
        (sym s.old_parts.whole ∙ leads_are P H b B lower before p) s.old_parts.lower_less s.old_parts.last_equal
        (λ m k. let w = weighted m (contains_left (leads_of lower) (leads_of before) m k) in let l = low_lead m k in omega arith)
        (λ m k. weighted m (contains_right (leads_of lower) (leads_of before) m k) ∙ last_lead m k) in
        let e : s.after ≡ S = same s.after S s.increasing sorted.increasing
        (λ m. (
          λ k. (sorted.members m).0 (subst (λ ns. Contains ns m) u.1 ((s.members m).1 k)),
          λ k. (s.members m).0 (subst (λ ns. Contains ns m) (sym u.1) ((sorted.members m).1 k)),
        )) in
        s.new_parts.whole ∙ (ap (λ ns. ns ++ s.after) u.0 ∙ ap (λ ns. leads_of lower ++ ns) (e ∙ sym done.1))

    -- the degrees are as before
    all_degrees : (ts : List (Tracked F E)) → ((t : Tracked F E) → Contains ts t → degree_of O t.value ≡ d) → map (degree_of O) (values_of ts) ≡ replicate (length ts) d
    all_degrees [] h = refl
    all_degrees (t ∷ ts) h =
        ap (λ k. k ∷ map (degree_of O) (values_of ts)) (h t (contains_here t ts)) ∙
        ap (λ ks. d ∷ ks) (all_degrees ts (λ u k. h u (contains_there t ts u k)))

    degrees_in_parts : (ts : List (Tracked F E)) → map (degree_of O) (values_of (lower ++ ts)) ≡ map (degree_of O) (values_of lower) ++ map (degree_of O) (values_of ts)
    degrees_in_parts ts =
        ap (map (degree_of O)) (map-append (λ (t : Tracked F E). t.value) lower ts) ∙ map-append (degree_of O) (values_of lower) (values_of ts)

    same_degrees : (new : List (Tracked F E)) → new ≡ lower ++ us → map (degree_of O) (values_of b.elements) ≡ map (degree_of O) (values_of new)
    same_degrees new e =
        ap (λ ts. map (degree_of O) (values_of ts)) p.whole ∙ (degrees_in_parts before ∙
        (ap (λ ks. map (degree_of O) (values_of lower) ++ ks) (all_degrees before (equal P H b B lower before p) ∙ (ap (λ k. replicate k d) (sym number) ∙ sym (all_degrees us degrees))) ∙
        (sym (degrees_in_parts us) ∙ ap (λ ts. map (degree_of O) (values_of ts)) (sym e))))

    pub basis : IncreasingListsAreEqual P → (c : BasisState F E) → c.elements ≡ take n b.elements ++ us → c.quotient ≡ b.quotient → c.by_order ≡ b.by_order →
        IsListing c.words → c.words.letters.degrees ≡ b.words.letters.degrees → c.words.zeros ≡ b.words.zeros → c.words.degree ≡ b.words.degree →
        IsSettled O b.words.letters.degrees d b.words.letters.leads c.words.letters.leads → IsBasisOf P c
    basis same c elements quotient by listing x zeros degree s =
        let e = whole c.elements elements in
        record {
          quotient = subst (IsQuotientOf P) (sym quotient) B.quotient;
          words = listing;
          letters = letters_are c.words.letters (map O.degree (variables 0 O.places)) (leads_of c.elements)
              (x ∙ ap (λ (l : Letters). l.degrees) B.letters)
              (new_leads same c.words.letters.leads s ∙ (sym (map-append lead_monomial (values_of lower) (values_of us)) ∙
              (ap (map lead_monomial) (sym (map-append (λ (t : Tracked F E). t.value) lower us)) ∙ ap leads_of (sym e))));
          zeros = λ z. subst (λ (q : QuotientState E). Contains c.words.zeros z ↔ (Contains q.leads z × (O.degree z ≤ c.words.degree))) (sym quotient)
              (subst (λ zs. Contains zs z ↔ (Contains b.quotient.leads z × (O.degree z ≤ c.words.degree))) (sym zeros)
              (subst (λ k. Contains b.words.zeros z ↔ (Contains b.quotient.leads z × (O.degree z ≤ k))) (sym degree) (B.zeros z)));
          degree = let q = ap (λ (q : QuotientState E). q.degree) quotient in let l = B.degree in omega arith;
          elements = new_elements P H b B lower before p c us done.0 e by degrees;
          parts = (
            lower,
            us,
            subst (λ k. AreInParts P k c.elements lower us) (sym degree) (record {
              whole = e;
              lower_less = p.lower_less;
              last_equal = contains-All (λ (t : Tracked F E). degree_of O t.value ≡ d) us degrees;
            }),
          );
          by_order = subst (IsWitnessOrder P (values_of c.elements)) (sym by) (record {
            no_x = B.by_order.no_x;
            degrees = B.by_order.degrees ∙ ap (λ ks. map (generator_degree O) fs ++ ks) (same_degrees c.elements e);
          });
        }

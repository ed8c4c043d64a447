-- Right sides without letters of the last degree.
use Rattle.std.proofs.Common.{◌≡◌, ◌≢◌, ℕ, zero, suc, take, ◌+◌, ◌<◌, ◌≤◌, sym, ◌∙◌, ap, subst, List, [], ◌∷◌, ◌++◌, length, arith}
use Rattle.std.specs.Prelude.{map, All, Contains, Option, Some, None, IfSome}
use Rattle.std.proofs.lemmas.List.{length-map, map-append}
use Rattle.std.proofs.lemmas.List.Elements.{All-cons, All-head, All-tail, All-map}
use Rattle.monomial_order.specs.Limits.{exponent_max}
use Rattle.monomial_order.specs.Monomial.{Exponents}
use Rattle.monomial_order.specs.declared.terms.Term.{Term}
use Rattle.word_laws.specs.Words.{word_order_of, IsWord, Letters}
use Rattle.polynomials.specs.Polynomial.{Polynomial, coefficient, degree_of, lead_monomial, AllAt, IsPoly, IsSmall}
use Rattle.polynomials.specs.Ideal.{Congruent}
use Rattle.polynomials.specs.Subalgebra.{Presented, IsPresentation}
use Rattle.polynomials.specs.laws.Decreasing.{IsDecreasing_IsPoly}
use Rattle.polynomials.specs.laws.Degrees.{all_found}
use Rattle.monomial_order.specs.laws.Comparing.{degree_one}
use Rattle.monomial_order.specs.laws.Lists.{map_contains}
use Rattle.subalgebra_laws.specs.Bases.{AreMonicElements}
use Rattle.subalgebra_laws.specs.Statements.{SumsWithoutNewLettersStay, ValuesStay}
use Rattle.subalgebra_laws.specs.Words.{combination_value, letters, word_value, IsIrreducibleSum}
use Rattle.subalgebra_laws.specs.laws.Letters.{degree_stays, places_letters, places_x}
use Rattle.toric_ideal.specs.Increasing.{AreComparable, IsComparable}
use Rattle.witness.specs.declared.tracked.Tracked.{Tracked}
use Rattle.witness.specs.Tracking.{values_of}
use Rattle.subduction.specs.Basis.{BasisState, AreInParts, IsBasisOf}
use Rattle.subduction.specs.laws.Elements.{homogeneous_elements, leads_monomials, monic_elements}
use Rattle.tete_lift.specs.Lifting.{IsRightSide}
use Rattle.completion.proofs.Inserting.{values_grown}

-- what holds of as many members as there are holds of all
pub all_taken : {A : Type 0} (Q : A → Type 0) (xs : List A) (n : ℕ) → length xs ≤ n → All Q (take n xs) → All Q xs
all_taken Q [] n l h = λ i d k. absurd (omega arith)
all_taken Q (x ∷ xs) zero l h = absurd (omega arith)
all_taken Q (x ∷ xs) (suc n) l h = All-cons Q x xs (All-head Q x (take n xs) h) (all_taken Q xs n (omega arith) (All-tail Q x (take n xs) h))

module _ {F E : Type 0} (P : Presented E) (H : IsPresentation P) (b : BasisState F E) (B : IsBasisOf P b) where
  open P use {field as K, order as O}
  open H use {field as F', order as L}

  abbrev leads_of : List (Tracked F E) → List Exponents
  leads_of ts = map lead_monomial (values_of ts)

  leads_are : b.words.letters.leads ≡ leads_of b.elements
  leads_are = ap (λ (l : Letters). l.leads) B.letters

  small_lead : (p : Polynomial E) → IsSmall O p → degree_of O p ≤ exponent_max
  small_lead [] h = let z = degree_one O L in omega arith
  small_lead (t ∷ p) h = h.0

  -- the degrees of the leads can be computed
  pub comparable : AreComparable O b.words.letters.leads
  comparable m k =
      let r = map_contains lead_monomial (values_of b.elements) m (subst (λ ms. Contains ms m) leads_are k) in
      let e = homogeneous_elements P H b B r.0 r.1 in
      subst (IsComparable O) r.2 (record {
        monomial = leads_monomials P H b B r.0 r.1;
        small = small_lead r.0 e.canonical.small;
      })

  module _ (lower last : List (Tracked F E)) (p : AreInParts P b.words.degree b.elements lower last) where
    abbrev S : List (Polynomial E)
    S = values_of lower

    abbrev T : List (Polynomial E)
    T = values_of last

    parts_are : values_of b.elements ≡ S ++ T
    parts_are = values_grown lower b.elements last p.whole

    -- how many elements have a smaller degree
    pub count_is : (n e : ℕ) (leads : List Exponents) → leads ≡ b.words.letters.leads → e ≡ b.words.degree →
        ((lo la : List Exponents) → leads ≡ lo ++ la → All (λ m. O.degree m < e) lo → All (λ m. e ≤ O.degree m) la → n ≡ length lo) → n ≡ length lower
    count_is n e leads same d h =
        let v = length-map lower (λ (u : Tracked F E). u.value) in
        let w = length-map (values_of lower) lead_monomial in
        let r = h (leads_of lower) (leads_of last) (same ∙ (leads_are ∙ (ap (map lead_monomial) parts_are ∙ map-append lead_monomial S T)))
        (subst (λ x. All (λ m. O.degree m < x) (leads_of lower)) (sym d)
        (All-map (λ m. O.degree m < b.words.degree) lead_monomial (values_of lower)
        (All-map (λ (x : Polynomial E). degree_of O x < b.words.degree) (λ (u : Tracked F E). u.value) lower p.lower_less)))
        (subst (λ x. All (λ m. x ≤ O.degree m) (leads_of last)) (sym d)
        (All-map (λ m. b.words.degree ≤ O.degree m) lead_monomial (values_of last)
        (All-map (λ (x : Polynomial E). b.words.degree ≤ degree_of O x) (λ (u : Tracked F E). u.value) last (λ i t l. let a = p.last_equal i t l in omega arith)))) in
        omega arith

    module _ (values : ValuesStay P S T) (sums : SumsWithoutNewLettersStay P S T) (u : Exponents) (word : IsWord (letters P S) u) (e : Polynomial E)
        (right : IsRightSide P (values_of b.elements) u e) (short : All (λ (t : Term E). length t.at ≤ O.places + length lower) e) where
      whole : IsRightSide P (S ++ T) u e
      whole = subst (λ V. IsRightSide P V u e) parts_are right

      places : (word_order_of (letters P S)).places ≡ O.places + length lower
      places = let a = places_letters P S in let c = places_x P S in let d = length-map lower (λ (t : Tracked F E). t.value) in omega arith

      words : (p : Polynomial E) → IsPoly K (word_order_of (letters P (S ++ T))).places p → All (λ (t : Term E). length t.at ≤ O.places + length lower) p → AllAt (IsWord (letters P S)) p
      words [] h k = tt
      words (t ∷ p) h k = (
        record { trimmed = h.0.monomial.trimmed; within = let a = All-head (λ (x : Term E). length x.at ≤ O.places + length lower) t p k in let c = places in omega arith },
        words p h.1 (All-tail (λ (x : Term E). length x.at ≤ O.places + length lower) t p k),
      )

      all_words : AllAt (IsWord (letters P S)) e
      all_words = words e (IsDecreasing_IsPoly K (word_order_of (letters P (S ++ T))) e whole.sum.decreasing) short

      over : (w : Exponents) → coefficient K e w ≢ K.zero → IsWord (letters P S) w
      over w n = all_found K F' O L (IsWord (letters P S)) e all_words w n

      small : (p : Polynomial E) → AllAt (IsWord (letters P S)) p → IsSmall (word_order_of (letters P (S ++ T))) p → IsSmall (word_order_of (letters P S)) p
      small [] a h = tt
      small (t ∷ p) a h = (let x = degree_stays P S T t.at (let w = a.0 in w.within) in let y = h.0 in omega arith, small p a.1 h.1)

      stays : IsIrreducibleSum P S e × (combination_value P (S ++ T) e ≡ combination_value P S e)
      stays = sums e whole.sum over

      -- it is one over the elements of smaller degree
      lower_right : IsRightSide P S u e
      lower_right = record {
        sum = stays.0;
        canonical = record { decreasing = (stays.0).decreasing; small = small e all_words whole.canonical.small };
        graded = λ w n. sym (degree_stays P S T w (over w n).within) ∙ (whole.graded w n ∙ degree_stays P S T u word.within);
        equal = subst (λ x. Congruent K O.places P.ideal x (combination_value P S e)) (values u word)
            (subst (λ x. Congruent K O.places P.ideal (word_value P (S ++ T) u) x) stays.1 whole.equal);
      }

module _ {F E : Type 0} (P : Presented E) (H : IsPresentation P) (b : BasisState F E) (B : IsBasisOf P b) (lower last : List (Tracked F E)) (p : AreInParts P b.words.degree b.elements lower last)
    (values : ValuesStay P (values_of lower) (values_of last)) (sums : IsPresentation P → AreMonicElements P (values_of lower ++ values_of last) → SumsWithoutNewLettersStay P (values_of lower) (values_of last))
    (u : Exponents) (word : IsWord (letters P (values_of lower)) u) (b' : BasisState F E) where
  monic : AreMonicElements P (values_of lower ++ values_of last)
  monic = subst (AreMonicElements P) (values_grown lower b.elements last p.whole) (monic_elements P H b B)

  -- the right side that is kept
  pub kept_right : (r right : Option (Polynomial E)) → IfSome r (λ e. right ≡ Some e) →
      IfSome r (λ e. (lo la : List (Tracked F E)) → AreInParts P b'.words.degree b'.elements lo la → All (λ (t : Term E). length t.at ≤ P.order.places + length lo) e) →
      IfSome right (λ e. (b' ≡ b) × IsRightSide P (values_of b.elements) u e) → IfSome r (IsRightSide P (values_of lower) u)
  kept_right None right same short h = tt
  kept_right (Some e) right same short h =
      let k : (b' ≡ b) × IsRightSide P (values_of b.elements) u e = subst (λ x. IfSome x (λ e. (b' ≡ b) × IsRightSide P (values_of b.elements) u e)) same h in
      lower_right P H b B lower last p values (sums H monic) u word e k.1
      (short lower last (subst (λ (x : BasisState F E). AreInParts P x.words.degree x.elements lower last) (sym k.0) p))

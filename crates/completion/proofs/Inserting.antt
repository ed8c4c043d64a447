-- An element is added at the end of a basis: what differs from a multiple of it by a combination is one.
use Rattle.std.proofs.Common.{◌≡◌, ◌≢◌, ℕ, ◌≤◌, refl, sym, ◌∙◌, ap, subst, List, [], ◌∷◌, ◌++◌, append-nil, ⊎_elim, arith}
use Rattle.std.specs.Prelude.{map, Contains}
use Rattle.std.proofs.lemmas.List.{map-append}
use Rattle.std.proofs.lemmas.List.Elements.{All-cons, All-nil}
use Rattle.word_field.specs.Field.{FieldOps, IsValue}
use Rattle.word_field.specs.laws.Field.{times_is_zero}
use Rattle.monomial_order.specs.Monomial.{Exponents}
use Rattle.monomial_order.specs.MonomialOrder.{MonomialOrder}
use Rattle.monomial_order.specs.laws.Lists.{contains_cases, contains_here, contains_none, contains_right}
use Rattle.polynomials.specs.Polynomial.{Polynomial, coefficient, constant, degree_of, first_coefficient, lead_monomial, minus, times, IsDecreasing, IsPoly, Same}
use Rattle.polynomials.specs.Subalgebra.{Presented, IsPresentation, HasDegreesTo, IsGenerated, IsStandard}
use Rattle.polynomials.specs.laws.Coefficients.{minus_back, minus_nonzero, minus_poly}
use Rattle.polynomials.specs.laws.Congruence.{congruent_same}
use Rattle.polynomials.specs.laws.Decreasing.{IsDecreasing_IsPoly}
use Rattle.polynomials.specs.laws.Ring.{coefficient_value}
use Rattle.polynomials.specs.laws.Same.{append_same}
use Rattle.polynomials.specs.laws.Value.{coefficient-constant_times}
use Rattle.subalgebra_laws.specs.Bases.{AreMonicElements, AreStandardAfter, IsMonicElement}
use Rattle.subalgebra_laws.specs.Statements.{CombinationsStay, CongruentAreCombinations, ElementsAreCombinations, ForMonicElements, ForNewElements, ForStandardElements, MultiplesAreCombinations, SumsAreCombinations}
use Rattle.subalgebra_laws.specs.Words.{word_value, IsCombination}
use Rattle.witness.specs.declared.tracked.Tracked.{Tracked}
use Rattle.witness.specs.Tracking.{values_of}
use Rattle.word_values.specs.Values.{word_degree, AreValues, AreWordsTo, Table}
use Rattle.subduction.specs.Basis.{AreShortAt, BasisState, HasNext, IsBasisOf, IsNewElement}
use Rattle.subduction.specs.laws.Elements.{homogeneous_elements, monic_elements}
use Rattle.tete_lift.specs.Lifting.{IsFresh}
use Rattle.completion.specs.Completion.{IsGrown}
use Rattle.completion.specs.Insertion.{IsInserted}
use Rattle.completion.proofs.WordDegrees.{word_value_graded, word_value_poly}

-- to the degree of b, what differs from r by a combination of its elements is one of those of c
abbrev pub Combinations : {F E : Type 0} → Presented E → BasisState F E → Polynomial E → BasisState F E → Type 0
Combinations {F} {E} P b r c = (a : Polynomial E) → IsPoly P.field P.order.places a → HasDegreesTo P b.words.degree a →
    IsCombination P (values_of b.elements) (minus P.field a r) → IsCombination P (values_of c.elements) a

-- what is kept over some elements is kept over more
abbrev pub GrowingValues : Type 0 → Type 0
GrowingValues E = (P : Presented E) (S T : List (Polynomial E)) (table : Table E) → AreValues P S table → AreValues P (S ++ T) table

abbrev pub GrowingWords : Type 0 → Type 0
GrowingWords E = (P : Presented E) (S T : List (Polynomial E)) (table : Table E) (d : ℕ) → AreValues P S table → AreWordsTo P S d table → AreWordsTo P (S ++ T) d table

pub values_grown : {F E : Type 0} (old new more : List (Tracked F E)) → new ≡ old ++ more → values_of new ≡ values_of old ++ values_of more
values_grown {F} {E} old new more e = ap values_of e ∙ map-append (λ (t : Tracked F E). t.value) old more

module _ {E : Type 0} (K : FieldOps E) (O : MonomialOrder) where
  first_nonzero : (p : Polynomial E) → IsDecreasing K O p → p ≢ [] → first_coefficient K p ≢ K.zero
  first_nonzero [] h n = absurd (n refl)
  first_nonzero (t ∷ p) h n = h.0.nonzero

  first_value : (p : Polynomial E) → IsDecreasing K O p → p ≢ [] → IsValue K (first_coefficient K p)
  first_value [] h n = absurd (n refl)
  first_value (t ∷ p) h n = h.0.term.value

module _ {F E : Type 0} (P : Presented E) where
  none_grown : (d : ℕ) (elements : List (Tracked F E)) → IsGrown P d elements elements
  none_grown d elements = record {
    more = [];
    whole = sym (append-nil elements);
    degrees = All-nil (λ (t : Tracked F E). degree_of P.order t.value ≡ d);
    fresh = λ t k. absurd (contains_none t k);
    stay = λ a p l c. subst (λ S. IsCombination P S a) (sym (append-nil (values_of elements))) c;
  }

  -- no element is put in, and other values of words may be kept
  pub none_inserted : (b : BasisState F E) → IsBasisOf P b → (before after : Table E) → AreValues P (values_of b.elements) after → (n : ℕ) → n ≡ b.words.degree →
      ((d : ℕ) → n ≤ d → AreWordsTo P (values_of b.elements) d before → AreWordsTo P (values_of b.elements) d after) → IsInserted P b before b after
  none_inserted b B before after values n e words = record {
    basis = B;
    values = values;
    kept = λ d l h. words d (omega arith) h;
    grown = none_grown b.words.degree b.elements;
    short = λ h. h;
    degree = refl;
    quotient = refl;
  }

  -- the basis is as before
  pub same_inserted : (b c : BasisState F E) → c ≡ b → IsBasisOf P b → (table : Table E) → AreValues P (values_of b.elements) table → IsInserted P b table c table
  same_inserted b c e B table values = subst (λ c. IsInserted P b table c table) (sym e) (none_inserted b B table table values b.words.degree refl (λ d l h. h))

  -- other values of words are kept before an element is put in
  pub then_inserted : (b c : BasisState F E) (before between after : Table E) (n : ℕ) → n ≡ b.words.degree →
      ((d : ℕ) → n ≤ d → AreWordsTo P (values_of b.elements) d before → AreWordsTo P (values_of b.elements) d between) → IsInserted P b between c after → IsInserted P b before c after
  then_inserted b c before between after n e words i = record {
    basis = i.basis;
    values = i.values;
    kept = λ d l h. i.kept d l (words d (omega arith) h);
    grown = i.grown;
    short = i.short;
    degree = i.degree;
    quotient = i.quotient;
  }

module _ {F E : Type 0} (P : Presented E) (H : IsPresentation P) where
  open P use {field as K, order as O}
  open H use {field as F', order as L}

  module _ (b : BasisState F E) (t : Tracked F E) (N : IsNewElement P b t) (b' : BasisState F E) (B' : IsBasisOf P b') (X : HasNext P t b.elements b'.elements) where
    open X use {next, elements as whole, multiple}

    abbrev S : List (Polynomial E)
    S = values_of b.elements

    abbrev s : Polynomial E
    s = next.value

    abbrev T : List (Polynomial E)
    T = s ∷ []

    abbrev d : ℕ
    d = b.words.degree

    abbrev c : E
    c = first_coefficient K t.value

    grown : values_of b'.elements ≡ S ++ T
    grown = values_grown b.elements b'.elements (next ∷ []) whole

    monic : AreMonicElements P (S ++ T)
    monic = subst (AreMonicElements P) grown (monic_elements P H b' B')

    next_monic : IsMonicElement P s
    next_monic = monic s (contains_right S T s (contains_here s []))

    -- t has the monomials of the element
    found : (m : Exponents) → coefficient K s m ≢ K.zero → coefficient K t.value m ≢ K.zero
    found m n z =
        let decreasing = N.canonical.value.decreasing in
        ⊎_elim (λ a. first_nonzero K O t.value decreasing N.nonzero (sym (first_value K O t.value decreasing N.nonzero) ∙ a)) (λ a. n (sym (coefficient_value K F' s m) ∙ a))
        (times_is_zero K F' c (coefficient K s m) (sym (multiple m) ∙ z))

    lead_found : coefficient K s (lead_monomial s) ≢ K.zero
    lead_found z = F'.one_not_zero (sym next_monic.monic ∙ z)

    degree_is : degree_of O s ≡ d
    degree_is = N.graded.value (lead_monomial s) (found (lead_monomial s) lead_found)

    only : (u : Polynomial E) → Contains T u → s ≡ u
    only u k = ⊎_elim (λ e. e) (λ r. absurd (contains_none u r)) (contains_cases s [] u k)

    after : AreStandardAfter P d S T
    after = record {
      after = record {
        monic = monic;
        degree = λ u k. subst (λ x. d ≤ O.degree (lead_monomial x)) (only u k) (let e = degree_is in omega arith);
        new = λ u k. subst (λ x. ¬ IsGenerated (map lead_monomial S) (lead_monomial x)) (only u k) (N.reduced (lead_monomial s) (found (lead_monomial s) lead_found)).1;
      };
      standard = λ u k. subst (λ x. IsStandard P (lead_monomial x)) (only u k) (N.reduced (lead_monomial s) (found (lead_monomial s) lead_found)).0;
      differ = λ i j li lj e. omega arith;
    }

    module _ (stays : ForNewElements E CombinationsStay) where
      is_grown : IsGrown P d b.elements b'.elements
      is_grown = record {
        more = next ∷ [];
        whole = whole;
        degrees = All-cons (λ (u : Tracked F E). degree_of O u.value ≡ d) next [] degree_is (All-nil (λ (u : Tracked F E). degree_of O u.value ≡ d));
        fresh = λ u k. ⊎_elim (λ e. subst (λ (x : Tracked F E). (m : Exponents) → coefficient K x.value m ≢ K.zero → ¬ IsGenerated (map lead_monomial S) m) e (λ m n. (N.reduced m (found m n)).1))
            (λ r. absurd (contains_none u r)) (contains_cases next [] u k);
        stay = stays P S T d H after.after;
      }

      -- values of words are values over more elements
      pub one_inserted : GrowingValues E → GrowingWords E → (AreShortAt P d b.elements → AreShortAt P d b'.elements) → b'.words.degree ≡ d → b'.quotient ≡ b.quotient →
          (table : Table E) → AreValues P S table → IsInserted P b table b' table
      one_inserted values words short degree quotient table h = record {
        basis = B';
        values = subst (λ V. AreValues P V table) (sym grown) (values P S T table h);
        kept = λ e l k. subst (λ V. AreWordsTo P V e table) (sym grown) (words P S T table e h k);
        grown = is_grown;
        short = short;
        degree = degree;
        quotient = quotient;
      }

      rest_poly : IsPoly K O.places t.value
      rest_poly = IsDecreasing_IsPoly K O t.value N.canonical.value.decreasing

      rest_multiple : Same K t.value (times K (constant K c) s)
      rest_multiple m = multiple m ∙ sym (coefficient-constant_times K F' c s m)

      pub combination : ForStandardElements E ElementsAreCombinations → ForMonicElements E SumsAreCombinations → ForMonicElements E MultiplesAreCombinations → ForMonicElements E CongruentAreCombinations →
          (a : Polynomial E) → IsPoly K O.places a → HasDegreesTo P d a → IsCombination P S (minus K a t.value) → IsCombination P (values_of b'.elements) a
      combination elements sums multiples congruent a poly low h =
          let difference = minus K a t.value in
          let part = times K (constant K c) s in
          let kept : IsCombination P (S ++ T) difference =
          stays P S T d H after.after difference (minus_poly K F' O.places a t.value poly rest_poly)
          (λ m n. ⊎_elim (low m) (λ k. let e = N.graded.value m k in omega arith) (minus_nonzero K F' a t.value m n)) h in
          let one : IsCombination P (S ++ T) s = elements P S T d H after s (contains_here s []) (let e = degree_is in omega arith) in
          let two : IsCombination P (S ++ T) part = multiples P (S ++ T) H monic c s (first_value K O t.value N.canonical.value.decreasing N.nonzero) one in
          subst (λ V. IsCombination P V a) (sym grown)
          (congruent P (S ++ T) H monic (difference ++ part) a
          (congruent_same K F' O.places P.ideal a (difference ++ part)
          (λ m. sym (append_same K F' difference difference part t.value (λ i. refl) (λ i. sym (rest_multiple i)) m ∙ minus_back K F' a t.value m)))
          (sums P (S ++ T) H monic difference part kept two))

-- the value of a word of the degree is a combination once what is left of it is an element
pub word_combined : {F E : Type 0} (P : Presented E) → IsPresentation P → (b : BasisState F E) → IsBasisOf P b → (u : Exponents) → word_degree P (values_of b.elements) u ≡ b.words.degree →
    (t : Tracked F E) → IsFresh P b u t → (c : BasisState F E) → Combinations P b t.value c → IsCombination P (values_of c.elements) (word_value P (values_of b.elements) u)
word_combined P H b B u e t fresh c h =
    let S = values_of b.elements in
    let elements = homogeneous_elements P H b B in
    h (word_value P S u) (word_value_poly P H S elements u) (λ m n. let a = word_value_graded P H S elements u m n in omega arith) fresh.difference

-- Linear sums of combinations are combinations. So elements at the end of a list may be exchanged for linear sums of
-- them.
use Rattle.std.proofs.Common.{◌≡◌, ℕ, ◌≤◌, sym, List, [], ◌∷◌, ◌++◌}
use Rattle.std.specs.Prelude.{Contains}
use Rattle.std.proofs.lemmas.List.Elements.{All-contains}
use Rattle.word_field.specs.Field.{IsValue}
use Rattle.monomial_order.specs.laws.Lists.{contains_here, contains_there}
use Rattle.polynomials.specs.Polynomial.{Polynomial, constant, times, IsPoly}
use Rattle.polynomials.specs.Subalgebra.{Presented, IsPresentation, HasDegreesTo}
use Rattle.polynomials.specs.laws.Congruence.{congruent_refl, congruent_same}
use Rattle.subalgebra_laws.specs.Bases.{AreMonicElements, AreStandardAfter}
use Rattle.subalgebra_laws.specs.Statements.{CongruentAreCombinations, ElementsAreCombinations, EndsCanBeExchanged, ForMonicElements, ForNewElements, ForStandardElements, MultiplesAreCombinations, SumsAreCombinations}
use Rattle.subalgebra_laws.specs.Words.{linear_sum, IsCombination}
use Rattle.subduction.specs.Basis.{IsLinearSum}

module _ {E : Type 0} (P : Presented E) (H : IsPresentation P) (S : List (Polynomial E)) (M : AreMonicElements P S) where
  open P use {field as K, order as O}
  open H use {field as F}

  zero_combination : IsCombination P S []
  zero_combination = record {
    sum = [];
    irreducible = record { decreasing = tt; words = λ w n. absurd (n (nothing w)); irreducible = λ w n. absurd (n (nothing w)) };
    equal = congruent_refl K F O.places P.ideal [];
  }
    where
      nothing : (w : List ℕ) → Rattle.polynomials.specs.Polynomial.coefficient K [] w ≡ K.zero
      nothing w = sym (Rattle.polynomials.specs.laws.Coefficients.nothing_at K w)

  module _ (sums : ForMonicElements E SumsAreCombinations) (multiples : ForMonicElements E MultiplesAreCombinations) (congruent : ForMonicElements E CongruentAreCombinations) where
    linear_combination : (cs : List E) (T : List (Polynomial E)) → ((c : E) → Contains cs c → IsValue K c) → ((t : Polynomial E) → Contains T t → IsCombination P S t) → IsCombination P S (linear_sum P cs T)
    linear_combination [] T v h = zero_combination
    linear_combination (c ∷ cs) [] v h = zero_combination
    linear_combination (c ∷ cs) (t ∷ T) v h =
        sums P S H M (times K (constant K c) t) (linear_sum P cs T)
        (multiples P S H M c t (v c (contains_here c cs)) (h t (contains_here t T)))
        (linear_combination cs T (λ x k. v x (contains_there c cs x k)) (λ x k. h x (contains_there t T x k)))

    pub sum_combination : (T : List (Polynomial E)) (u : Polynomial E) → ((t : Polynomial E) → Contains T t → IsCombination P S t) → IsLinearSum P T u → IsCombination P S u
    sum_combination T u h l =
        congruent P S H M (linear_sum P l.constants T) u (congruent_same K F O.places P.ideal u (linear_sum P l.constants T) l.sum)
        (linear_combination l.constants T (λ c k. All-contains (IsValue K) l.constants c l.values k) h)

-- U are linear sums of T, and both come after S in the degree d
module _ {E : Type 0} (P : Presented E) (H : IsPresentation P) (S U T : List (Polynomial E)) (d : ℕ) where
  module _ (before : AreStandardAfter P d S U) (after : AreStandardAfter P d S T) (low : (t : Polynomial E) → Contains T t → P.order.degree (Rattle.polynomials.specs.Polynomial.lead_monomial t) ≤ d)
      (linear : (u : Polynomial E) → Contains U u → IsLinearSum P T u) where
    pub exchanged : ForMonicElements E SumsAreCombinations → ForMonicElements E MultiplesAreCombinations → ForMonicElements E CongruentAreCombinations →
        ForStandardElements E ElementsAreCombinations → ForNewElements E EndsCanBeExchanged →
        (a : Polynomial E) → IsPoly P.field P.order.places a → HasDegreesTo P d a → IsCombination P (S ++ U) a → IsCombination P (S ++ T) a
    exchanged sums multiples congruent elements ends a p h c =
        let x = before.after in
        let y = after.after in
        ends P S T d H y U x.monic x.degree
        (λ u k. sum_combination P H (S ++ T) y.monic sums multiples congruent T u (λ t l. elements P S T d H after t l (low t l)) (linear u k)) a p h c

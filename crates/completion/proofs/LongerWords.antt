-- Words over a list of elements are words over a longer list, in the same order, and right sides stay right sides.
use Rattle.std.proofs.Common.{◌≡◌, ℕ, ◌≤◌, sym, ◌∙◌, ap, subst, List, [], ◌∷◌, ◌++◌, arith}
use Rattle.std.specs.Prelude.{map}
use Rattle.std.proofs.lemmas.List.{map-append}
use Rattle.word_field.specs.Field.{FieldOps}
use Rattle.monomial_order.specs.Monomial.{Exponents, IsMonomial, weighted_degree}
use Rattle.monomial_order.specs.MonomialOrder.{MonomialOrder}
use Rattle.monomial_order.specs.Orders.{word_order}
use Rattle.word_laws.specs.Words.{word_order_of, lead_degrees, IsWord}
use Rattle.word_laws.specs.laws.Longer.{longer_compare}
use Rattle.polynomials.specs.Polynomial.{Polynomial, lead_monomial, AllAt, IsCanonical, IsPoly, IsSmall}
use Rattle.polynomials.specs.Ideal.{Congruent}
use Rattle.polynomials.specs.Subalgebra.{Presented, IsPresentation}
use Rattle.polynomials.specs.laws.Decreasing.{IsDecreasing_IsPoly}
use Rattle.subalgebra_laws.specs.Bases.{AreAfter}
use Rattle.subalgebra_laws.specs.Statements.{ForNewElements, SumsStay, ValuesStay}
use Rattle.subalgebra_laws.specs.Words.{combination_value, letters, word_value}
use Rattle.subalgebra_laws.specs.laws.Fronts.{decreasing_over}
use Rattle.subalgebra_laws.specs.laws.Letters.{degree_stays, letter_degrees, word_grows}
use Rattle.word_values.specs.Values.{word_degree}
use Rattle.tete_lift.specs.Lifting.{IsRightSide}

monomials_of : {E : Type 0} (K : FieldOps E) (n : ℕ) (p : Polynomial E) → IsPoly K n p → AllAt (IsMonomial n) p
monomials_of K n [] h = tt
monomials_of K n (t ∷ p) h = (let a = h.0 in a.monomial, monomials_of K n p h.1)

module _ {E : Type 0} (P : Presented E) (S T : List (Polynomial E)) where
  abbrev V : MonomialOrder
  V = word_order_of (letters P S)

  abbrev W : MonomialOrder
  W = word_order_of (letters P (S ++ T))

  lead_degrees_split : lead_degrees (letters P (S ++ T)) ≡ lead_degrees (letters P S) ++ map (weighted_degree (letter_degrees P S)) (map lead_monomial T)
  lead_degrees_split =
      ap (map (weighted_degree (letter_degrees P S))) (map-append lead_monomial S T) ∙
      map-append (weighted_degree (letter_degrees P S)) (map lead_monomial S) (map lead_monomial T)

  pub same_degree : (m : Exponents) → IsWord (letters P S) m → word_degree P (S ++ T) m ≡ word_degree P S m
  same_degree m h = degree_stays P S T m h.within

  pub same_compare : (m n : Exponents) → IsWord (letters P S) m → IsWord (letters P S) n → W.compare m n ≡ V.compare m n
  same_compare m n h k =
      ap (λ ss. (word_order (letter_degrees P S) ss).compare m n) lead_degrees_split ∙
      longer_compare (letter_degrees P S) (lead_degrees (letters P S)) (map (weighted_degree (letter_degrees P S)) (map lead_monomial T)) m n h.within k.within

  module _ (K : FieldOps E) where
    pub canonical_over : (e : Polynomial E) → IsCanonical K V e → IsCanonical K W e
    canonical_over e c = record {
      decreasing = decreasing_over K V W (IsWord (letters P S)) (word_grows P S T) same_compare e (monomials_of K V.places e (IsDecreasing_IsPoly K V e c.decreasing)) c.decreasing;
      small = small e (monomials_of K V.places e (IsDecreasing_IsPoly K V e c.decreasing)) c.small;
    }
      where
        small : (e : Polynomial E) → AllAt (IsWord (letters P S)) e → IsSmall V e → IsSmall W e
        small [] a s = tt
        small (t ∷ e) a s = (let d = same_degree t.at a.0 in let x = s.0 in omega arith, small e a.1 s.1)

  module _ (H : IsPresentation P) (d : ℕ) (A : AreAfter P d S T) (values : ValuesStay P S T) (sums : ForNewElements E SumsStay) where
    -- a right side over the first elements is one over all
    pub right_stays : (u : Exponents) (e : Polynomial E) → IsWord (letters P S) u → word_degree P S u ≤ d → IsRightSide P S u e → IsRightSide P (S ++ T) u e
    right_stays u e w l h =
        let q = sums P S T d H A e h.sum (λ v n. let g = h.graded v n in omega arith) in
        record {
          sum = q.0;
          canonical = canonical_over P.field e h.canonical;
          graded = λ v n. same_degree v ((h.sum).words v n).0 ∙ (h.graded v n ∙ sym (same_degree u w));
          equal = subst (λ x. Congruent P.field P.order.places P.ideal x (combination_value P (S ++ T) e)) (sym (values u w))
              (subst (Congruent P.field P.order.places P.ideal (word_value P S u)) (sym q.1) h.equal);
        }

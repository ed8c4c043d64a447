-- Which words and polynomials have names for all their letters.
use Rattle.std.proofs.Common.{◌≡◌, ◌≢◌, ℕ, zero, suc, ◌<◌, ◌≤◌, Bool, true, false, List, [], ◌∷◌, length, refl, sym, subst, ◌∙◌, ◌+◌, ◌-◌, ltb, le-ltb, IsSome, Some, None, rules, arith}
use Rattle.std.proofs.lemmas.Bool.{ltb-false, ltb-true}
use Rattle.std.proofs.lemmas.List.{length-map}
use Rattle.std.proofs.lemmas.List.Sums.{sum_by-cons}
use Rattle.std.specs.Prelude.{All, map, take, sum, if◌then◌else◌, get_or}
use Rattle.std.specs.Fmt.{decimal}
use Rattle.word_field.specs.Field.{FieldOps, IsField}
use Rattle.monomial_order.specs.Monomial.{Exponents, exponent}
use Rattle.monomial_order.specs.MonomialOrder.{MonomialOrder, IsMonomialOrder}
use Rattle.monomial_order.specs.laws.Lists.{contains_at, contains_map}
use Rattle.word_laws.specs.Words.{variables, word_order_of, IsSWord}
use Rattle.word_laws.specs.laws.Images.{length-variables}
use Rattle.poly_core.specs.declared.place_names.Names.{Names}
use Rattle.poly_core.specs.declared.place_names.Names.TheVariants.{Numbered}
use Rattle.poly_core.specs.Names.{IsNamed}
use Rattle.poly_core.specs.Text.{AreNamed}
use Rattle.poly_core.specs.laws.Text.{decreasing_values}
use Rattle.polynomials.specs.Polynomial.{Polynomial, coefficient, AllAt, IsDecreasing}
use Rattle.polynomials.specs.Subalgebra.{Presented, IsPresentation}
use Rattle.polynomials.specs.laws.Degrees.{decreasing_all}
use Rattle.subalgebra_laws.specs.Words.{letters}
use Rattle.subalgebra_laws.specs.laws.Letters.{none_before}
use Rattle.completion.specs.Relations.{AreRelations}
use Rattle.completion.specs.declared.relations.Relation.{Relation}
use Rattle.completion.specs.LetterNames.{element_names}
use Rattle.completion.specs.RelationLines.{IsPrintable}

-- a word with no letter of the first ones
pub none_first : (n : ℕ) (w : Exponents) → ((i : ℕ) → i < n → exponent w i ≡ 0) → sum (take n w) ≡ 0
none_first zero w h = refl
none_first (suc n) [] h = refl
none_first (suc n) (e ∷ w) h = sum_by-cons (λ (y : ℕ). y) e (take n w) ∙ (let a : e ≡ 0 = h 0 (omega arith) in let b = none_first n w (λ i l. h (suc i) (omega arith)) in omega arith)

-- numbered names name each place that they do not skip
pub named_behind : (prefix places : ℕ) (m : Exponents) → ((i : ℕ) → exponent m i ≢ 0 → places ≤ i) → IsNamed (Numbered prefix places) m
named_behind prefix places m h i e =
    subst (λ (b : Bool). IsSome (if b then None else Some (prefix ∷ decimal (i + 1 - places))))
    (sym (le-ltb i places (h i e))) (search rules)

-- without skipping, each place has a name
pub named_all : {E : Type 0} (prefix : ℕ) (p : Polynomial E) → AreNamed (Numbered prefix 0) p
named_all prefix [] = tt
named_all prefix (t ∷ p) = (named_behind prefix 0 t.at (λ i e. omega arith), named_all prefix p)

module _ {E : Type 0} (K : FieldOps E) (F : IsField K) (O : MonomialOrder) (L : IsMonomialOrder O) where
  all_named : (names : Names) (p : Polynomial E) → AllAt (IsNamed names) p → AreNamed names p
  all_named names [] h = tt
  all_named names (t ∷ p) h = (h.0, all_named names p h.1)

  -- the monomials of a decreasing list have names if those with a coefficient have
  named_words : (names : Names) (p : Polynomial E) → IsDecreasing K O p → ((w : Exponents) → coefficient K p w ≢ K.zero → IsNamed names w) → AreNamed names p
  named_words names p h k = all_named names p (decreasing_all K F O L (IsNamed names) p h k)

module _ {E : Type 0} (P : Presented E) (S : List (Polynomial E)) where
  -- an s-word has letters of elements alone
  s_word_named : (w : Exponents) → IsSWord (letters P S) w → IsNamed (element_names P.order.places) w
  s_word_named w h = named_behind 115 P.order.places w (λ i e. behind i e)
    where
      count : length (map P.order.degree (variables 0 P.order.places)) ≡ P.order.places
      count = length-map (variables 0 P.order.places) P.order.degree ∙ length-variables 0 P.order.places

      behind : (i : ℕ) → exponent w i ≢ 0 → P.order.places ≤ i
      behind i e = ltb-false i P.order.places (elim (ltb i P.order.places) as (λ b. ltb i P.order.places ≡ b → ltb i P.order.places ≡ false) [
        | true ↦ λ t. absurd (e (none_before P.order.places w (subst (λ n. sum (take n w) ≡ 0) count h.1) i (ltb-true i P.order.places t)))
        | false ↦ λ f. f
      ] refl)

  module _ {F : Type 0} (H : IsPresentation P) (L : IsMonomialOrder (word_order_of (letters P S))) where
    -- so a relation between s-words can be printed
    pub relation_printable : (r : Relation F E) → IsSWord (letters P S) r.word → IsDecreasing P.field (word_order_of (letters P S)) r.right →
        ((w : Exponents) → coefficient P.field r.right w ≢ P.field.zero → IsSWord (letters P S) w) →
        IsPrintable P.field (element_names P.order.places) r
    relation_printable r word decreasing words = record {
      word = s_word_named r.word word;
      values = decreasing_values P.field (word_order_of (letters P S)) r.right decreasing;
      named = named_words P.field H.field (word_order_of (letters P S)) L (element_names P.order.places) r.right decreasing
          (λ w n. s_word_named w (words w n));
    }

    -- and so can the relations of a list of elements
    pub relations_printable : (c : ℕ) (relations : List (Relation F E)) → AreRelations P S c relations →
        All (IsPrintable P.field (element_names P.order.places)) relations
    relations_printable c relations h i z l =
        let r = get_or relations i z in
        let right = h.rights i z l in
        let minimal = (h.exactly r.word).0 (contains_map (λ (x : Relation F E). x.word) relations r (contains_at relations i z l)) in
        relation_printable r minimal.0.1 right.canonical.decreasing right.sum.words

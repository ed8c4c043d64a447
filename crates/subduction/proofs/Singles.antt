-- Terms alone, and words at other places.
use Rattle.std.proofs.Common.{◌≡◌, ◌≢◌, ◌⊎◌, ℕ, zero, suc, ◌<◌, ◌≤◌, refl, sym, ◌∙◌, ap, subst, List, [], ◌∷◌, ◌++◌, length, drop, ⊎_elim, arith}
use Rattle.std.specs.Prelude.{replicate}
use Rattle.word_field.specs.Field.{FieldOps, IsField}
use Rattle.monomial_order.specs.declared.terms.Term.{Term}
use Rattle.monomial_order.specs.Monomial.{Exponents, exponent, IsTrimmed}
use Rattle.monomial_order.specs.MonomialOrder.{MonomialOrder}
use Rattle.monomial_order.specs.laws.Cofactors.{same_exponents}
use Rattle.polynomials.specs.Polynomial.{Polynomial, term_of, IsCanonical, IsTerm, Same}
use Rattle.polynomials.specs.laws.Same.{cons_zero}
use Rattle.subduction.specs.Subduced.{places_from, witness_word}
use Rattle.subduction.specs.laws.WitnessWords.{trimmed_behind, trimmed_drop}

module _ {E : Type 0} (K : FieldOps E) (F : IsField K) (t : Term E) (r : Polynomial E) (m : Exponents) (e : m ≡ t.at) (zero : t.by ≡ K.zero → r ≡ []) (term : t.by ≢ K.zero → r ≡ term_of m t.by ∷ []) where
  pub single_same : Same K r (t ∷ [])
  single_same =
      ⊎_elim (λ z. subst (λ x. Same K x (t ∷ [])) (sym (zero z)) (cons_zero K F t [] z))
      (λ n. subst (λ x. Same K x (t ∷ [])) (sym (term n ∙ ap (λ x. term_of x t.by ∷ []) e)) (λ i. refl))
      (F.equal_or_not t.by K.zero)

  pub single_canonical : (O : MonomialOrder) → IsTerm K O.places t → O.degree t.at ≤ 65535 → IsCanonical K O r
  single_canonical O h s =
      ⊎_elim (λ z. subst (IsCanonical K O) (sym (zero z)) (record { decreasing = tt; small = tt }))
      (λ n. subst (IsCanonical K O) (sym (term n ∙ ap (λ x. term_of x t.by ∷ []) e)) (record { decreasing = (record { term = h; nonzero = n; above = tt }, tt); small = (s, tt) }))
      (F.equal_or_not t.by K.zero)

pub one_item : {A : Type 0} (xs : List A) (x : A) → 1 ≤ length xs → length xs < 2 → x ≡ Rattle.std.proofs.Common.get_or xs 0 x → x ∷ [] ≡ xs
one_item [] x l k e = absurd (omega arith)
one_item (y ∷ []) x l k e = ap (λ z. z ∷ []) e
one_item (y ∷ (z ∷ xs)) x l k e = absurd (omega arith)

pub moved_is : (n k : ℕ) (w m : List ℕ) → IsTrimmed w → n < length w → IsTrimmed m → ((i : ℕ) → exponent m i ≡ exponent (replicate k 0 ++ drop n w) i) → m ≡ witness_word n k w
moved_is n k w m hw l hm e = by_rest (drop n w) (trimmed_drop n w hw) (more n w l) e
  where
    more : (n : ℕ) (w : List ℕ) → n < length w → drop n w ≢ []
    more zero [] l z = absurd (omega arith)
    more zero (x ∷ w) l z = cc
    more (suc n) [] l z = absurd (omega arith)
    more (suc n) (x ∷ w) l z = more n w (omega arith) z

    by_rest : (v : List ℕ) → IsTrimmed v → v ≢ [] → ((i : ℕ) → exponent m i ≡ exponent (replicate k 0 ++ v) i) → m ≡ places_from k v
    by_rest [] t n e = absurd (n refl)
    by_rest (x ∷ v) t n e = same_exponents m (replicate k 0 ++ (x ∷ v)) hm (trimmed_behind k x v t) e

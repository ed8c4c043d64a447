-- The steps of a subduction.
use Rattle.std.specs.Prelude.{◌≡◌, ◌≢◌, ◌⊎◌, ℕ, Bool, true, List, [], ◌∷◌, ◌++◌, map}
use Rattle.monomial_order.specs.Monomial.{Exponents}
use Rattle.monomial_order.specs.declared.terms.Term.{Term}
use Rattle.word_laws.specs.Words.{word_order_of, IsSWord}
use Rattle.polynomials.specs.Polynomial.{Polynomial, coefficient, first_coefficient, lead_monomial, scaled, term_of, AllAt, IsBelow, IsCanonical, IsPoly, Same}
use Rattle.polynomials.specs.Ideal.{Congruent}
use Rattle.polynomials.specs.Subalgebra.{Presented, IsGenerated, IsStandard}
use Rattle.subalgebra_laws.specs.Words.{combination_value, letters, IsReducibleWord}
use Rattle.word_values.specs.Values.{IsWordValue}

module _ {E : Type 0} (P : Presented E) where
  -- r is what is left of p when the multiple of v with its lead is taken away
  pub record IsLeadTaken (t : Term E) (w v r : Polynomial E) : Type 0 where
    pub canonical : IsCanonical P.field P.order r
    pub below : IsBelow P.field P.order t.at r
    pub sum : Same P.field r ((t ∷ w) ++ scaled P.field (term_of [] (P.field.negate t.by)) v)

  -- v is canonical and monic with the lead m
  pub record IsMonicAt (m : Exponents) (v : Polynomial E) : Type 0 where
    pub canonical : IsCanonical P.field P.order v
    pub lead : lead_monomial v ≡ m
    pub monic : first_coefficient P.field v ≡ P.field.one

  module _ (S : List (Polynomial E)) where
    -- an irreducible s-word
    pub record IsIrreducibleWord (w : Exponents) : Type 0 where
      pub word : IsSWord (letters P S) w
      pub irreducible : ¬ IsReducibleWord P S w

    -- a multiple of the value of the irreducible word u was taken away, with the lead term t
    pub record HasValueTaken (t : Term E) (w : Polynomial E) (u : Exponents) (r : Polynomial E) : Type 0 where
      pub irreducible : IsIrreducibleWord u
      pub value : Polynomial E
      pub word_value : IsWordValue P S u value
      pub monic : IsMonicAt t.at value
      pub taken : IsLeadTaken t w value r

    -- the value of a word was taken away, and the word put to the words, or the term was put to what is done
    abbrev pub IsTermTaken : Term E → Polynomial E → Polynomial E → Polynomial E → Polynomial E → Polynomial E → Polynomial E → Type 0
    IsTermTaken t w r old_words words old_done done =
        ((u : Exponents) × HasValueTaken t w u r × (words ≡ old_words ++ term_of u t.by ∷ []) × (done ≡ old_done)) ⊎
        ((¬ IsGenerated (map lead_monomial S) t.at) × (done ≡ old_done ++ t ∷ []) × (words ≡ old_words) × (r ≡ w))

    -- Modulo the ideal, a is the value of the words and what is done and to be done. Monomials to be done are standard,
    -- those that are done are no products of leads either. Q holds of all degrees if it holds of those of a.
    pub record IsSubducing (a words done work : Polynomial E) : Type 0 where
      pub canonical : IsCanonical P.field P.order (done ++ work)
      pub standard : AllAt (IsStandard P) (done ++ work)
      pub fresh : AllAt (λ m. ¬ IsGenerated (map lead_monomial S) m) done
      pub terms : IsPoly P.field (word_order_of (letters P S)).places words
      pub irreducible : AllAt IsIrreducibleWord words
      pub degrees : (Q : ℕ → Bool) →
          ((m : Exponents) → coefficient P.field a m ≢ P.field.zero → Q (P.order.degree m) ≡ true) →
          AllAt (λ m. Q (P.order.degree m) ≡ true) (done ++ work) ×
          AllAt (λ w. Q ((word_order_of (letters P S)).degree w) ≡ true) words
      pub equal : Congruent P.field P.order.places P.ideal a (combination_value P S words ++ (done ++ work))

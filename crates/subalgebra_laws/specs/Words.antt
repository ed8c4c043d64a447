-- Words over a list of polynomials, their values, and combinations of irreducible ones.
use Rattle.std.specs.Prelude.{◌≡◌, ◌≢◌, List, [], ◌∷◌, ◌++◌, map}
use Rattle.std.specs.declared.cmp.Ordering.TheVariants.{Less}
use Rattle.monomial_order.specs.Monomial.{Exponents}
use Rattle.word_laws.specs.Words.{Letters, word_order_of, image_of, variables, IsSWord, IsReducible, IsMinimalReducible}
use Rattle.polynomials.specs.Polynomial.{Polynomial, coefficient, constant, times, term_of, lead_monomial, minus, IsPoly, IsDecreasing}
use Rattle.polynomials.specs.Ideal.{Congruent}
use Rattle.polynomials.specs.Value.{value, monomial_value}
use Rattle.polynomials.specs.Subalgebra.{Presented, LeadsIdeal, IsStandard, IsGenerated, InSubalgebra, LeadsSubalgebra}

module _ {E : Type 0} (P : Presented E) (S : List (Polynomial E)) where
  -- x_1, .., x_n with their degrees, and one letter for the lead of each member of S
  abbrev pub letters : Letters
  letters = record { degrees = map P.order.degree (variables 0 P.order.places); leads = map lead_monomial S }

  -- what the letters stand for: the variables, and the members of S
  abbrev pub letter_values : List (Polynomial E)
  letter_values = map (λ m. term_of m P.field.one ∷ []) (variables 0 P.order.places) ++ S

  -- the value of a word, and of a combination of words
  abbrev pub word_value : Exponents → Polynomial E
  word_value w = monomial_value P.field w letter_values

  abbrev pub combination_value : Polynomial E → Polynomial E
  combination_value e = value P.field e letter_values

  -- the image leads a member of the ideal, or a smaller word has the same image
  abbrev pub IsReducibleWord : Exponents → Type 0
  IsReducibleWord w = IsReducible (LeadsIdeal P) letters w

  -- a minimal reducible s-word
  abbrev pub IsMinimalWord : Exponents → Type 0
  IsMinimalWord u = IsMinimalReducible (LeadsIdeal P) letters u × IsSWord letters u

  -- a sum of irreducible s-words with coefficients, as a decreasing list
  pub record IsIrreducibleSum (e : Polynomial E) : Type 0 where
    pub decreasing : IsDecreasing P.field (word_order_of letters) e
    pub words : (w : Exponents) → coefficient P.field e w ≢ P.field.zero → IsSWord letters w
    pub irreducible : (w : Exponents) → coefficient P.field e w ≢ P.field.zero → ¬ IsReducibleWord w

  -- w is the word of e with the greatest image
  pub record IsTopWord (e : Polynomial E) (w : Exponents) : Type 0 where
    pub nonzero : coefficient P.field e w ≢ P.field.zero
    pub greatest : (v : Exponents) → coefficient P.field e v ≢ P.field.zero → v ≢ w →
        P.order.compare (image_of letters v) (image_of letters w) ≡ Less

  -- a equals, modulo the ideal, the value of a sum of irreducible s-words
  pub record IsCombination (a : Polynomial E) : Type 0 where
    pub sum : Polynomial E
    pub irreducible : IsIrreducibleSum sum
    pub equal : Congruent P.field P.order.places P.ideal a (combination_value sum)

  -- a equals, modulo the ideal, the value of the sum e and a rest r of standard monomials that are no products of leads
  pub record HasSumAndRest (a e r : Polynomial E) : Type 0 where
    pub sum : IsIrreducibleSum e
    pub poly : IsPoly P.field P.order.places r
    pub reduced : (m : Exponents) →
        coefficient P.field r m ≢ P.field.zero → IsStandard P m × (¬ IsGenerated (map lead_monomial S) m)
    pub equal : Congruent P.field P.order.places P.ideal a (combination_value e ++ r)

module _ {E : Type 0} (P : Presented E) where
  -- the sum of the elements, each times its constant
  abbrev pub linear_sum : List E → List (Polynomial E) → Polynomial E
  linear_sum [] S = []
  linear_sum (c ∷ cs) [] = []
  linear_sum (c ∷ cs) (s ∷ S) = times P.field (constant P.field c) s ++ linear_sum cs S

-- r differs from a by a member of the subalgebra, and each monomial of r is standard and leads no member of it
pub record IsSubductionRemainder {E : Type 0} (P : Presented E) (a r : Polynomial E) : Type 0 where
  pub poly : IsPoly P.field P.order.places r
  pub inside : InSubalgebra P (minus P.field a r)
  pub reduced : (m : Exponents) →
      coefficient P.field r m ≢ P.field.zero → IsStandard P m × (LeadsSubalgebra P m → ⊥)

-- Degrees of decreasing lists, and of sums of words over the elements as witnesses.
use Rattle.std.proofs.Common.{◌≡◌, ◌≢◌, ℕ, ◌≤◌, sym, subst, ap, List, [], ◌∷◌, length, ⊎_elim, arith}
use Rattle.monomial_order.specs.Monomial.{Exponents}
use Rattle.monomial_order.specs.MonomialOrder.{MonomialOrder, IsMonomialOrder}
use Rattle.monomial_order.specs.laws.Comparing.{degree_falls, equal_or_not}
use Rattle.word_laws.specs.Words.{AreLetters, IsSWord, word_order_of}
use Rattle.word_laws.specs.laws.Words.{word_laws}
use Rattle.polynomials.specs.Polynomial.{Polynomial, coefficient, degree_of, AllAt, IsCanonical}
use Rattle.polynomials.specs.Subalgebra.{Presented, IsPresentation}
use Rattle.polynomials.specs.laws.Coefficients.{decreasing_leads, nothing_at}
use Rattle.subalgebra_laws.specs.Words.{letters}
use Rattle.witness.specs.Tracking.{by_order, values_of}
use Rattle.subduction.specs.Basis.{BasisState, IsBasisOf}
use Rattle.subduction.specs.Subduced.{witness_sum, witness_word}
use Rattle.subduction.specs.laws.Elements.{leads_monomials}
use Rattle.subduction.specs.laws.WitnessWords.{s_word_degree}

module _ {E : Type 0} (P : Presented E) (H : IsPresentation P) where
  open P use {field as K, order as O}
  open H use {field as F', order as L}

  -- no monomial has a greater degree than the lead
  pub degrees_to : (a : Polynomial E) → IsCanonical K O a → (m : Exponents) → coefficient K a m ≢ K.zero →
      O.degree m ≤ degree_of O a
  degrees_to [] k m n = absurd (n (sym (nothing_at K m)))
  degrees_to (t ∷ a) k m n =
      ⊎_elim (λ e. let d = ap O.degree e in omega arith)
      (λ ne. degree_falls O L m t.at ((decreasing_leads K F' O L (t ∷ a) k.decreasing (λ e. cc)).greatest m n ne))
      (equal_or_not m t.at)

module _ {F E : Type 0} (P : Presented E) (H : IsPresentation P) (b : BasisState F E) (B : IsBasisOf P b) where
  open P use {field as K, order as O, generators as fs}

  abbrev S : List (Polynomial E)
  S = values_of b.elements

  abbrev W : MonomialOrder
  W = by_order b.by_order

  abbrev M : MonomialOrder
  M = word_order_of (letters P S)

  -- the words over the elements are in a monomial order
  pub letters_laws : IsMonomialOrder M
  letters_laws = word_laws (letters P S) (subst AreLetters B.letters B.words.letters)

  -- a word has the same degree as a word of witnesses
  pub moved_degree : (w : Exponents) → IsSWord (letters P S) w →
      W.degree (witness_word O.places (length fs) w) ≡ M.degree w
  moved_degree = s_word_degree P H S b.by_order B.by_order (leads_monomials P H b B)

  -- what holds of the degrees of a sum of words holds of its degrees as a witness
  pub moved_degrees : (Q : ℕ → Type 0) (e : Polynomial E) → AllAt (λ w. Q (M.degree w)) e →
      AllAt (IsSWord (letters P S)) e → AllAt (λ m. Q (W.degree m)) (witness_sum P e)
  moved_degrees Q [] h s = tt
  moved_degrees Q (t ∷ e) h s = (subst Q (sym (moved_degree t.at s.0)) h.0, moved_degrees Q e h.1 s.1)

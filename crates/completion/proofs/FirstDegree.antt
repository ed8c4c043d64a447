-- The degree 0: no monomial leads the ideal there, and no word is reducible.
use Rattle.std.proofs.Common.{◌≡◌, ◌≤◌, sym, ap, subst, List, [], false, arith, ⊎_elim}
use Rattle.monomial_order.specs.Monomial.{Exponents}
use Rattle.monomial_order.specs.MonomialOrder.{IsMonomialOrder}
use Rattle.monomial_order.specs.laws.Comparing.{degree_one, equal_or_not, none_below_one, some_exponent}
use Rattle.monomial_order.specs.laws.Lists.{contains_none}
use Rattle.word_laws.specs.Words.{AreLetters, word_order_of, IsReducible}
use Rattle.word_laws.specs.laws.Words.{word_laws}
use Rattle.polynomials.specs.Polynomial.{Polynomial}
use Rattle.polynomials.specs.Subalgebra.{Presented, IsPresentation, IsReducedBasis, LeadsIdeal}
use Rattle.subalgebra_laws.specs.Words.{letters, IsMinimalWord}
use Rattle.witness.specs.Tracking.{values_of}
use Rattle.word_values.specs.Values.{word_degree, Table}
use Rattle.poly_core.specs.declared.presentations.Presentation.{Presentation}
use Rattle.subduction.specs.Basis.{BasisState, IsBasisOf}
use Rattle.subduction.specs.laws.Decisions.{words_have_zeros}
use Rattle.completion.specs.declared.candidates.Candidate.{Candidate}
use Rattle.completion.specs.declared.candidates.Found.{Found}
use Rattle.completion.specs.declared.relations.Relation.{Relation}
use Rattle.completion.specs.Relations.{AreRelations}
use Rattle.completion.specs.Completion.{CompletionState, IsStanding}
use Rattle.completion.proofs.Restored.{restored_standing}

module _ {F E : Type 0} (P : Presented E) (H : IsPresentation P) (b : BasisState F E) (B : IsBasisOf P b) (none : b.words.degree ≡ 0) where
  open P use {order as O}
  open H use {order as L}

  abbrev S : List (Polynomial E)
  S = values_of b.elements

  no_low_lead : (m : Exponents) → LeadsIdeal P m → O.degree m ≤ 0 → ⊥
  no_low_lead m h l =
      let w = (words_have_zeros P H b B).divide m h (omega arith) in
      let z = B.words.zeros.each w.0 w.1 in
      let p = z.positive in let d = z.degree in omega arith

  laws : IsMonomialOrder (word_order_of (letters P S))
  laws = word_laws (letters P S) (subst AreLetters B.letters B.words.letters)

  -- no word of degree 0 is minimal reducible
  pub no_low_word : (u : Exponents) → IsMinimalWord P S u → word_degree P S u ≤ 0 → ⊥
  no_low_word u h l =
      ⊎_elim (λ e. not_one (subst (IsReducible (LeadsIdeal P) (letters P S)) e h.0.reducible)) (λ n.
      let x = some_exponent u h.0.word.trimmed n in
      let at = x.1 in let some = x.2 in let within = h.0.word.within in
      let e = laws.exponent_at_most u x.0 (omega arith) in omega arith) (equal_or_not u [])
    where
      not_one : IsReducible (LeadsIdeal P) (letters P S) [] → ⊥
      not_one r =
          ⊎_elim (λ k. no_low_lead [] k (let d = degree_one O L in omega arith)) (λ s. none_below_one (word_order_of (letters P S)) laws s.0 s.1.word s.1.less) r

  -- the first completion
  pub first_standing : {A : Type 0} → IsReducedBasis P 0 [] → b.elements ≡ [] → b.quotient.degree ≡ 0 → (p : Presentation F A E) (values : Table E) (relations : List (Relation F E))
      (queue : List (List Candidate)) (found : List (Found F E)) → values ≡ [] → relations ≡ [] → queue ≡ [] →
      IsStanding P (let s : CompletionState F A E = record { presentation = p; basis = b; values = values; kept = 0; relations = relations; degree = 0; read = 0; begun = false; queue = queue; found = found } in s)
  first_standing law e q p values relations queue found v r w =
      restored_standing P b B 0 (omega arith) q none (subst (IsReducedBasis P 0) (ap values_of (sym e)) law)
      relations (subst (AreRelations P (values_of b.elements) 0) (sym r) (record {
        increasing = tt;
        exactly = λ u. (λ k. absurd (contains_none u k), λ h. absurd (no_low_word u h.0 h.1));
        rights = λ i t l. absurd (omega arith);
      })) p values queue found v w

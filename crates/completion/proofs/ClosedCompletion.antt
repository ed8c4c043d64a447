-- A completion at the end of a degree.
use Rattle.std.proofs.Common.{◌≡◌, ℕ, suc, ◌+◌, ◌≤◌, refl, sym, ◌∙◌, ap, subst, List, [], ◌++◌, append-nil, arith}
use Rattle.std.specs.Prelude.{All, Bool, true, false}
use Rattle.word_field.specs.Field.{FieldOps}
use Rattle.monomial_order.specs.MonomialOrder.{MonomialOrder}
use Rattle.polynomials.specs.Polynomial.{Polynomial}
use Rattle.polynomials.specs.Subalgebra.{Presented, IsPresentation, IsDecidedTo}
use Rattle.poly_core.specs.Presentation.{presented}
use Rattle.quotient_gb.specs.Quotient.{closing_max, IsQuotientOf, QuotientState}
use Rattle.witness.specs.declared.tracked.Tracked.{Tracked}
use Rattle.witness.specs.Tracking.{values_of}
use Rattle.word_values.specs.Values.{Table, AreValues, AreWordsTo}
use Rattle.subduction.specs.Basis.{BasisState, AreInParts, AreSettled, AreShortAt, IsBasisOf}
use Rattle.completion.specs.declared.candidates.Found.{Found}
use Rattle.completion.specs.declared.relations.Relation.{Relation}
use Rattle.completion.specs.Closing.{relations_of, AreSides, CanRelate, ClosingLaws, IsSettledBasis}
use Rattle.completion.specs.Completion.{elements_of, pending_of, AreKept, AreShortAbove, CompletionState, IsCompletion, IsInDegree, IsStanding}
use Rattle.completion.proofs.ClosedDegree.{can_relate, closed_at_degree, kept_elements, settled_in_degree, short_above, with_values}

not_false : (b : Bool) → b ≡ true → b ≡ false → ⊥
not_false b p q = absurd cc

false_true : false ≡ true → ⊥
false_true q = absurd cc

module _ {F O E : Type 0} (P : Presented E) (H : IsPresentation P) (s : CompletionState F O E) (Z : IsStanding P s) (begun : s.begun ≡ true) where
  D : IsInDegree P s
  D = Z.in_degree begun

  -- memory ran out before the elements were settled
  unsettled_standing : (b : BasisState F E) (values : Table E) (kept : ℕ) → AreValues P (values_of b.elements) values → AreWordsTo P (values_of b.elements) kept values →
      b ≡ s.basis → IsStanding P (record s { basis = b; values = values; kept = kept })
  unsettled_standing b values kept V W e = record {
    basis = subst (IsBasisOf P) (sym e) Z.basis;
    small = subst (λ (x : BasisState F E). (let q : QuotientState E = x.quotient in q.degree ≤ closing_max)) (sym e) Z.small;
    values = V;
    kept = W;
    short = subst (λ (x : BasisState F E). AreShortAbove P s.read x.elements) (sym e) Z.short;
    none_later = Z.none_later;
    at_degree = λ q. absurd (not_false s.begun begun q);
    in_degree = λ q. with_values P H s D b values kept e;
  }

  module _ (b : BasisState F E) (X : IsSettledBasis P s.basis b) where
    settled : AreSettled P (suc s.degree) s.basis.elements b.elements
    settled = subst (λ n. AreSettled P n s.basis.elements b.elements) D.degree X.settled

    still_small : (let q : QuotientState E = b.quotient in q.degree ≤ closing_max)
    still_small = subst (λ (q : QuotientState E). q.degree ≤ closing_max) (sym X.quotient) Z.small

    still_short : AreShortAbove P s.read b.elements
    still_short = short_above P H s D Z.basis b X.basis settled Z.short
        (subst (λ n. AreShortAt P n s.basis.elements → AreShortAt P n b.elements) D.degree X.short)

    -- the elements of smaller degrees are kept
    settled_elements : (lower last : List (Tracked F E)) → AreInParts P (suc s.degree) s.basis.elements lower last → (more : List (Tracked F E)) × (b.elements ≡ lower ++ more)
    settled_elements = kept_elements P H s D Z.basis b X.basis settled

    module _ (laws : ClosingLaws E) where
      -- the words can be related once the elements are settled
      found_can_relate : pending_of s ≡ [] → All (CanRelate P (values_of b.elements) b.words.degree) s.found
      found_can_relate none = can_relate P H s D Z.basis b X.basis settled laws none X.degree

      module _ (values : Table E) (kept : ℕ) (V : AreValues P (values_of b.elements) values) (W : AreWordsTo P (values_of b.elements) kept values) where
        -- memory ran out after the elements were settled
        settled_standing : IsStanding P (record s { basis = b; values = values; kept = kept })
        settled_standing = record {
          basis = X.basis;
          small = still_small;
          values = V;
          kept = W;
          short = still_short;
          none_later = Z.none_later;
          at_degree = λ q. absurd (not_false s.begun begun q);
          in_degree = λ q. settled_in_degree P H s D Z.basis b X.basis settled laws values kept X.degree X.quotient;
        }

        -- the degree is closed
        closed_standing : pending_of s ≡ [] → (let q : QuotientState E = b.quotient in IsDecidedTo P q.degree) → (more : List (Found F E)) (sides : List (Polynomial E)) → AreSides P (values_of b.elements) s.found sides →
            IsStanding P (record s { basis = b; values = values; kept = kept; relations = s.relations ++ relations_of s.found sides; degree = suc s.degree; begun = false; found = more })
        closed_standing none decided more sides h = record {
          basis = X.basis;
          small = still_small;
          values = V;
          kept = W;
          short = still_short;
          none_later = λ e l. Z.none_later e (omega arith);
          at_degree = λ q. closed_at_degree P H s D Z.basis b X.basis settled laws none
              (λ m i l. decided m i (let a = X.basis.degree in let x = D.degree in let y = X.degree in omega arith))
              values kept more sides X.degree X.quotient (λ e l. Z.none_later e l) h;
          in_degree = λ q. absurd (false_true q);
        }

-- A completion in a degree whose state is also called t: what ending the degree asks for and gives.
module _ {F O E : Type 0} (ops : F → FieldOps E) (order : O → MonomialOrder) (s t : CompletionState F O E) (same : s ≡ t) (completion : IsCompletion ops order t) (begun : t.begun ≡ true) where
  abbrev P : Presented E
  P = presented ops order s.presentation

  C : IsCompletion ops order s
  C = subst (IsCompletion ops order) (sym same) completion

  H : IsPresentation P
  H = C.presentation.presentation

  is_begun : s.begun ≡ true
  is_begun = ap (λ (x : CompletionState F O E). x.begun) same ∙ begun

  -- what is kept does not depend on the name
  kept_named : (new : CompletionState F O E) → AreKept P s new → AreKept (presented ops order t.presentation) t new
  kept_named new k = subst (λ (x : CompletionState F O E). AreKept (presented ops order x.presentation) x new) same k

  pub closing_values : AreValues P (elements_of s) s.values
  closing_values = (C.standing).values

  pub closing_words : AreWordsTo P (elements_of s) s.kept s.values
  closing_words = (C.standing).kept

  -- memory ran out before the elements were settled
  module _ (b : BasisState F E) (values : Table E) (kept : ℕ) where
    pub unsettled_completion : AreValues P (values_of b.elements) values → AreWordsTo P (values_of b.elements) kept values → b ≡ s.basis → IsCompletion ops order (record s { basis = b; values = values; kept = kept })
    unsettled_completion V W e = record {
      presentation = C.presentation;
      standing = unsettled_standing P H s C.standing is_begun b values kept V W e;
    }

    pub unsettled_kept : b ≡ s.basis → AreKept (presented ops order t.presentation) t (record s { basis = b; values = values; kept = kept })
    unsettled_kept e = kept_named (record s { basis = b; values = values; kept = kept }) (record {
      presentation = refl;
      read = refl;
      elements = λ lower last p. (last, ap (λ (x : BasisState F E). x.elements) e ∙ p.whole);
      relations = ([], sym (append-nil s.relations));
    })

  -- the elements are settled
  module _ (b : BasisState F E) (X : IsSettledBasis P s.basis b) where
    none_here : pending_of t ≡ [] → pending_of s ≡ []
    none_here none = subst (λ (x : CompletionState F O E). pending_of x ≡ []) (sym same) none

    pub closing_words_relate : ClosingLaws E → pending_of t ≡ [] → All (CanRelate P (values_of b.elements) b.words.degree) s.found
    closing_words_relate laws none = found_can_relate P H s C.standing is_begun b X laws (none_here none)

    module _ (values : Table E) (kept : ℕ) (relations : List (Relation F E)) where
      pub settled_kept : relations ≡ s.relations → AreKept (presented ops order t.presentation) t (record s { basis = b; values = values; kept = kept; relations = relations })
      settled_kept e = kept_named (record s { basis = b; values = values; kept = kept; relations = relations }) (record {
        presentation = refl;
        read = refl;
        elements = settled_elements P H s C.standing is_begun b X;
        relations = ([], e ∙ sym (append-nil s.relations));
      })

      pub closed_kept : (more : List (Found F E)) (sides : List (Polynomial E)) → relations ≡ s.relations ++ relations_of s.found sides →
          AreKept (presented ops order t.presentation) t (record s { basis = b; values = values; kept = kept; relations = relations; degree = s.degree + 1; begun = false; found = more })
      closed_kept more sides e = kept_named (record s { basis = b; values = values; kept = kept; relations = relations; degree = s.degree + 1; begun = false; found = more }) (record {
        presentation = refl;
        read = refl;
        elements = settled_elements P H s C.standing is_begun b X;
        relations = (relations_of s.found sides, e);
      })

      -- more values were kept since
      module _ (laws : ClosingLaws E) (V : AreValues P (values_of b.elements) values) (before : Table E) (bound : s.basis.words.degree ≤ kept) (kept_before : AreWordsTo P (values_of b.elements) kept before)
          (words : (d : ℕ) → b.words.degree ≤ d → AreWordsTo P (values_of b.elements) d before → AreWordsTo P (values_of b.elements) d values) where
        W : AreWordsTo P (values_of b.elements) kept values
        W = words kept (let e = X.degree in omega arith) kept_before

        pub settled_completion : relations ≡ s.relations → IsCompletion ops order (record s { basis = b; values = values; kept = kept; relations = relations })
        settled_completion e = record {
          presentation = C.presentation;
          standing = subst (λ (rs : List (Relation F E)). IsStanding P (record s { basis = b; values = values; kept = kept; relations = rs })) (sym e)
              (settled_standing P H s C.standing is_begun b X laws values kept V W);
        }

        pub closed_completion : pending_of t ≡ [] → ((P : Presented E) → IsPresentation P → (q : QuotientState E) → IsQuotientOf P q → IsDecidedTo P q.degree) →
            (more : List (Found F E)) (sides : List (Polynomial E)) → relations ≡ s.relations ++ relations_of s.found sides → AreSides P (values_of b.elements) s.found sides →
            IsCompletion ops order (record s { basis = b; values = values; kept = kept; relations = relations; degree = s.degree + 1; begun = false; found = more })
        closed_completion none decide more sides e h =
            let next : suc s.degree ≡ s.degree + 1 = omega arith in
            record {
              presentation = C.presentation;
              standing = subst (λ (rs : List (Relation F E)). IsStanding P (record s { basis = b; values = values; kept = kept; relations = rs; degree = s.degree + 1; begun = false; found = more })) (sym e)
                  (subst (λ n. IsStanding P (record s { basis = b; values = values; kept = kept; relations = s.relations ++ relations_of s.found sides; degree = n; begun = false; found = more })) next
                  (closed_standing P H s C.standing is_begun b X laws values kept V W (none_here none) (decide P H b.quotient X.basis.quotient) more sides h));
            }

-- What the rest and the sum of words of a query answer.
use Rattle.std.proofs.Common.{◌≡◌, ◌≢◌, ℕ, ◌≤◌, sym, subst, [], length, arith}
use Rattle.polynomials.specs.Polynomial.{Polynomial, degree_of, negated, IsCanonical, IsPoly}
use Rattle.polynomials.specs.Ideal.{Congruent}
use Rattle.polynomials.specs.Value.{value}
use Rattle.polynomials.specs.Subalgebra.{Presented, IsPresentation}
use Rattle.polynomials.specs.laws.Decreasing.{IsDecreasing_unique}
use Rattle.subalgebra_laws.specs.Statements.{ForPresentations, RemaindersDecideMembership}
use Rattle.subalgebra_laws.specs.Words.{IsSubductionRemainder}
use Rattle.witness.specs.declared.tracked.Tracked.{Tracked}
use Rattle.witness.specs.Tracking.{by_order, values_of, Expands, HasDegreesUpTo}
use Rattle.subduction.specs.Basis.{BasisState, IsBasisOf}
use Rattle.subduction.specs.declared.subduction.Subduced.{Subduced}
use Rattle.subduction.specs.Subduced.{IsSubduced}
use Rattle.membership.specs.Answer.{HasRemainder, HasWitness, IsWithin}
use Rattle.subduction.specs.laws.Degrees.{degrees_to}
use Rattle.membership.proofs.Expansions.{by_degrees, expansion_value}

module _ {F E : Type 0} (P : Presented E) (H : IsPresentation P) (b : BasisState F E) (B : IsBasisOf P b) (c : ℕ)
    (a : Polynomial E) (k : IsCanonical P.field P.order a) (t : Tracked F E) (r : Subduced F E)
    (h : IsSubduced P b t r) (same : t.value ≡ a) where
  open P use {field as K, order as O}

  -- a rest that is not zero shows that the query is no member
  pub has_remainder : ((t : Tracked F E) (r : Subduced F E) → IsCanonical K O t.value →
      IsWithin P c (values_of b.elements) t.value →
      IsSubduced P b t r → IsSubductionRemainder P t.value r.rest.value) →
      ForPresentations E RemaindersDecideMembership → IsWithin P c (values_of b.elements) a → r.rest.value ≢ [] →
      HasRemainder P c (values_of b.elements) a r.rest.value
  has_remainder remainder decide within some =
      let rest = r.rest.value in
      let is : IsSubductionRemainder P a rest =
      subst (λ x. IsSubductionRemainder P x rest) same
      (remainder t r (subst (IsCanonical K O) (sym same) k)
      (subst (λ x. IsWithin P c (values_of b.elements) x) (sym same) within) h) in
      record {
        within = within;
        no_member = λ i. some (IsDecreasing_unique K H.field O H.order rest [] h.canonical.value.decreasing tt
            ((decide P H a rest is).0 i));
        remainder = is;
        nonzero = some;
      }

  module _ (none : t.by ≡ []) where
    -- the words that were taken away have degrees up to that of the query
    pub small_words : degree_of O a ≤ 30000 → HasDegreesUpTo K (by_order b.by_order) 30000 r.rest.by
    small_words small =
        by_degrees P H b B t none r h 30000
        (subst (HasDegreesUpTo K O 30000) (sym same) (λ m n. let d = degrees_to P H a k m n in omega arith))

    -- if the rest is zero, what the words are expanded to has the value of the query
    pub has_witness : IsWithin P c (values_of b.elements) a → r.rest.value ≡ [] → (x : Polynomial E) →
        IsPoly K (length P.generators) x →
        Expands P (values_of b.elements) (negated K r.rest.by) x → HasWitness P c (values_of b.elements) a x
    has_witness within zero x poly expands = record {
      within = within;
      poly = poly;
      value = subst (λ y. Congruent K O.places P.ideal y (value K x P.generators)) same
          (expansion_value P H b B t none r h zero x expands);
    }

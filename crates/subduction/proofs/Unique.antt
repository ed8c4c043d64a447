-- The results of subduction are unique.
use Rattle.std.proofs.Common.{◌≡◌, sym, ◌∙◌, ap, List, []}
use Rattle.std.specs.Prelude.{◌↔◌}
use Rattle.monomial_order.specs.MonomialOrder.{MonomialOrder}
use Rattle.polynomials.specs.Polynomial.{Polynomial, coefficient, minus}
use Rattle.polynomials.specs.Ideal.{Congruent}
use Rattle.polynomials.specs.Subalgebra.{Presented, IsPresentation}
use Rattle.polynomials.specs.laws.Congruence.{congruent_refl, congruent_trans}
use Rattle.polynomials.specs.laws.Decreasing.{IsDecreasing_unique}
use Rattle.subalgebra_laws.specs.Statements.{ForMonicElements, RestsDecideCombinations, SumsAndRestsAreUnique}
use Rattle.subalgebra_laws.specs.Words.{HasSumAndRest, IsCombination}
use Rattle.witness.specs.declared.tracked.Tracked.{Tracked}
use Rattle.witness.specs.Tracking.{by_order, values_of}
use Rattle.witness.specs.laws.Letters.{by_laws}
use Rattle.subduction.specs.Basis.{BasisState, IsBasisOf}
use Rattle.subduction.specs.declared.subduction.Subduced.{Subduced}
use Rattle.subduction.specs.Subduced.{witness_sum, IsSubduced}
use Rattle.subduction.specs.laws.Elements.{monic_elements}

module _ {F E : Type 0} (P : Presented E) (b : BasisState F E) (H : IsPresentation P) (B : IsBasisOf P b) where
  open P use {field as K, order as O}
  open H use {field as F', order as L}

  abbrev S : List (Polynomial E)
  S = values_of b.elements

  pub value_unique : ForMonicElements E SumsAndRestsAreUnique → (t u : Tracked F E) → Congruent K O.places P.ideal t.value u.value →
      (r s : Subduced F E) → IsSubduced P b t r → IsSubduced P b u s → (r.word_sum ≡ s.word_sum) × (r.rest.value ≡ s.rest.value)
  value_unique law t u e r s h k =
      let moved : HasSumAndRest P S t.value s.word_sum s.rest.value = record {
        sum = k.parts.sum;
        poly = k.parts.poly;
        reduced = k.parts.reduced;
        equal = congruent_trans K F' O.places P.ideal t.value u.value _ e k.parts.equal;
      } in
      let both = law P S H (monic_elements P H b B) t.value r.word_sum r.rest.value s.word_sum s.rest.value h.parts moved in
      (both.0, IsDecreasing_unique K F' O L r.rest.value s.rest.value h.canonical.value.decreasing k.canonical.value.decreasing both.1)

  made : Polynomial E → Polynomial E → Polynomial E → Subduced F E
  made v w e = record { rest = record { value = v; by = w }; word_sum = e }

  made_same : (v v' w w' e e' : Polynomial E) → v ≡ v' → w ≡ w' → e ≡ e' → made v w e ≡ made v' w' e'
  made_same v v' w w' e e' p q s = ap (λ x. made x w e) p ∙ (ap (λ x. made v' x e) q ∙ ap (made v' w') s)

  pub result_unique : ForMonicElements E SumsAndRestsAreUnique → (t : Tracked F E) (r s : Subduced F E) → IsSubduced P b t r → IsSubduced P b t s → r ≡ s
  unfolding made
  result_unique law t r s h k =
      let both = value_unique law t t (congruent_refl K F' O.places P.ideal t.value) r s h k in
      let W : MonomialOrder = by_order b.by_order in
      made_same r.rest.value s.rest.value r.rest.by s.rest.by r.word_sum s.word_sum both.1
      (IsDecreasing_unique K F' W (by_laws b.by_order) r.rest.by s.rest.by h.canonical.by.decreasing k.canonical.by.decreasing (λ m.
      h.by m ∙ (ap (λ e. coefficient K (minus K t.by (witness_sum P e)) m) both.0 ∙ sym (k.by m)))) both.0

  pub zero_exactly : ForMonicElements E RestsDecideCombinations → (t : Tracked F E) (r : Subduced F E) → IsSubduced P b t r →
      IsCombination P S t.value ↔ (r.rest.value ≡ [])
  zero_exactly law t r h =
      let e = law P S H (monic_elements P H b B) t.value r.word_sum r.rest.value h.parts in (
        λ c. IsDecreasing_unique K F' O L r.rest.value [] h.canonical.value.decreasing tt (e.0 c),
        λ z. e.1 (λ m. ap (λ p. coefficient K p m) z),
      )

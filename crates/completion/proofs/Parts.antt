-- A list of elements has one way to stand in parts by degrees.
use Rattle.std.proofs.Common.{◌≡◌, ℕ, ◌<◌, sym, ◌∙◌, List}
use Rattle.std.proofs.lemmas.List.Elements.{All-contains}
use Rattle.polynomials.specs.Polynomial.{degree_of}
use Rattle.polynomials.specs.Subalgebra.{Presented}
use Rattle.witness.specs.declared.tracked.Tracked.{Tracked}
use Rattle.subduction.specs.Basis.{AreInParts}
use Rattle.subduction.specs.laws.Parts.{unique_parts}

module _ {F E : Type 0} (P : Presented E) (d : ℕ) where
  pub same_parts : (elements lower last low high : List (Tracked F E)) → AreInParts P d elements lower last → AreInParts P d elements low high → (lower ≡ low) × (last ≡ high)
  same_parts elements lower last low high p q =
      unique_parts (λ (t : Tracked F E). degree_of P.order t.value) d lower last low high (sym p.whole ∙ q.whole)
      (λ t k. All-contains (λ (u : Tracked F E). degree_of P.order u.value < d) lower t p.lower_less k)
      (λ t k. All-contains (λ (u : Tracked F E). degree_of P.order u.value ≡ d) last t p.last_equal k)
      (λ t k. All-contains (λ (u : Tracked F E). degree_of P.order u.value < d) low t q.lower_less k)
      (λ t k. All-contains (λ (u : Tracked F E). degree_of P.order u.value ≡ d) high t q.last_equal k)

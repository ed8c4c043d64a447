-- The comparison of pairs.
use Rattle.std.proofs.Common.{◌≡◌, true, ap, ◌∙◌}
use Rattle.std.specs.Prelude.{◌↔◌, ◌&&◌, nat_eq}
use Rattle.std.proofs.lemmas.Bool.{and_parts, eqb-true, eq-eqb}
use Rattle.ext_field.specs.declared.pair.Pair.{Pair}
use Rattle.ext_field.specs.laws.Pairs.{pair_eq}

pub pairs_eq : (a b : Pair) → (nat_eq a.low b.low && nat_eq a.high b.high ≡ true) ↔ (a ≡ b)
pairs_eq a b = (
  λ h. let parts = and_parts (nat_eq a.low b.low) (nat_eq a.high b.high) h in pair_eq (eqb-true a.low b.low parts.0) (eqb-true a.high b.high parts.1),
  λ e. ap (λ v. v && nat_eq a.high b.high) (eq-eqb a.low b.low (ap (λ x. x.low) e)) ∙ eq-eqb a.high b.high (ap (λ x. x.high) e),
)

-- Paired names name each place.
use Rattle.std.proofs.Common.{ℕ, ◌+◌, ◌-◌, true, false, List, [], ◌∷◌, Some, IsSome, nat_lt, rules}
use Rattle.std.specs.Prelude.{if◌then◌else◌}
use Rattle.std.specs.Fmt.{decimal}
use Rattle.polynomials.specs.Polynomial.{Polynomial}
use Rattle.poly_core.specs.Names.{name_at}
use Rattle.poly_core.specs.Text.{AreNamed}
use Rattle.poly_core.specs.declared.place_names.Names.TheVariants.{Paired}

pub paired_named : {E : Type 0} (first count second : ℕ) (h : Polynomial E) → AreNamed (Paired first count second) h
paired_named first count second [] = tt
paired_named first count second (t ∷ h) = (λ i n. some i, paired_named first count second h)
  where
    some : (i : ℕ) → IsSome (name_at (Paired first count second) i)
    some i = elim (nat_lt i count) as (λ b. IsSome (if b then Some (first ∷ decimal (i + 1)) else Some (second ∷ decimal (i + 1 - count)))) [ true ↦ search rules | false ↦ search rules ]

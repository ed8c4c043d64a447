-- The letters of witnesses name each place.
use Rattle.std.proofs.Common.{◌≡◌, ℕ, ◌<◌, ◌+◌, ◌-◌, ◌^◌, Bool, true, false, cond, ltb, List, [], ◌∷◌, IsSome, Some, refl}
use Rattle.std.specs.Fmt.{decimal}
use Rattle.poly_core.specs.declared.place_names.Names.TheVariants.{Paired}
use Rattle.poly_core.specs.Names.{IsNamed}
use Rattle.poly_core.specs.Text.{AreNamed}
use Rattle.polynomials.specs.Polynomial.{Polynomial}
use Rattle.completion.specs.laws.Printing.{named_all}
use Rattle.state_text.specs.declared.version.Version.{Version}
use Rattle.state_text.specs.declared.version.Version.TheVariants.{One, Two}
use Rattle.state_text.specs.StateText.{letters_of}

paired : {E : Type 0} (first count second : ℕ) (p : Polynomial E) → AreNamed (Paired first count second) p
paired first count second [] = tt
paired first count second (t ∷ p) = (λ i e. some i (ltb i count), paired first count second p)
  where
    some : (i : ℕ) (b : Bool) → IsSome (cond b (Some (first ∷ decimal (i + 1))) (Some (second ∷ decimal (i + 1 - count))))
    some i true = refl
    some i false = refl

pub letters_named : {E : Type 0} (version : Version) (count : ℕ) (p : Polynomial E) → AreNamed (letters_of version count) p
letters_named One count p = named_all 103 p
letters_named Two count p = paired 103 count 115 p

-- Which sizes of fields a reader knows.
use Rattle.std.specs.Prelude.{ℕ, Bool}
use Rattle.word_field.specs.Residues.{is_listed}
use Rattle.presentation_text.specs.Heading.{is_size}
use Rattle.presentation_text.specs.declared.sizes.Sizes.{Sizes}
use Rattle.presentation_text.specs.declared.sizes.Sizes.TheVariants.{Primes, All}

abbrev pub is_known : Sizes → ℕ → Bool
is_known Primes q = is_listed q
is_known All q = is_size q

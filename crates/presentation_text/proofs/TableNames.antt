-- The names of a table as a list.
use Rattle.std.proofs.Common.{◌≡◌, ℕ, refl}
use Rattle.poly_core.specs.Names.{AreNames}
use Rattle.poly_core.specs.declared.place_names.Names.{Names}
use Rattle.poly_core.specs.declared.place_names.Names.TheVariants.{Listed, Numbered, Paired}
use Rattle.presentation_text.specs.Giving.{listed}

pub is_listed : (places : ℕ) (names : Names) → AreNames places names → names ≡ Listed (listed names)
is_listed places (Listed table) h = refl
is_listed places (Numbered prefix skip) h = absurd h
is_listed places (Paired first count second) h = absurd h

-- What two commands have in common.
use Rattle.std.specs.Prelude.{◌≡◌}
use Rattle.sagbi_cli.specs.declared.command.Command.{Command}
use Rattle.sagbi_cli.specs.declared.command.Command.TheVariants.{Complete, Ask, Relations, Trial}

-- the commands ask for the same
abbrev pub IsSameCommand : Command → Command → Type 0
IsSameCommand (Complete pres bound pick) (Complete other most last) =
    (pres.now ≡ other.now) × (bound ≡ most) × (pick ≡ last)
IsSameCommand (Ask pres bound queries) (Ask other most asked) =
    (pres.now ≡ other.now) × (bound ≡ most) × (queries.now ≡ asked.now)
IsSameCommand (Relations pres bound) (Relations other most) = (pres.now ≡ other.now) × (bound ≡ most)
IsSameCommand (Trial number) (Trial other) = number ≡ other
IsSameCommand command other = ⊥

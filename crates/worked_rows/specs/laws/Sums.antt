-- Lists of sums.
use Rattle.std.proofs.Common.{List, [], ◌∷◌}
use Rattle.std.specs.Prelude.{All}
use Rattle.std.proofs.lemmas.List.Elements.{All-cons, All-nil}
use Rattle.word_field.specs.Field.{FieldOps}
use Rattle.monomial_order.specs.MonomialOrder.{MonomialOrder}
use Rattle.polynomials.specs.Polynomial.{Polynomial, IsCanonical}
use Rattle.presentation_text.specs.Meaning.{AreSums}

-- what is read of lines is canonical
pub sums_canonical : {E : Type 0} (K : FieldOps E) (O : MonomialOrder) (sums ps : List (Polynomial E)) →
    AreSums K O sums ps → All (IsCanonical K O) ps
sums_canonical K O [] [] h = All-nil (IsCanonical K O)
sums_canonical K O [] (p ∷ ps) h = absurd h
sums_canonical K O (sum ∷ sums) [] h = absurd h
sums_canonical K O (sum ∷ sums) (p ∷ ps) h = All-cons (IsCanonical K O) p ps h.1 (sums_canonical K O sums ps h.2)

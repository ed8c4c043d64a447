use Rattle.std.proofs.Common.{◌≡◌, ◌<◌, Some, refl, arith, length}
use Rattle.std.specs.Prelude.{slice_get}
use Rattle.poly_core.specs.declared.place_names.Names.TheVariants.{Listed}
use Rattle.polynomial_text.proofs.LinePlaces.{place_is, no_place, name_text, one_place, within, contains_place}
use Rattle.polynomial_text.proofs.named_place.listed_place.Goals as goal

pub returns-in_default : goal.returns-in_default
returns-in_default c = no_place c.args.count (Listed c.args.table.now) c.args.word.now (λ i lt e. absurd (c.in_default.ensures.cases.0 (name_text c.args.count (Listed c.args.table.now) c.args.word.now i c.requires lt e)))

pub returns-in-Some : goal.returns-in-Some
returns-in-Some c =
    place_is c.args.count (Listed c.args.table.now) c.args.word.now c.in-Some.i c.requires (omega (arith, c.if-i-min.true, c.min.ensures)) (rw c.in-Ok.ensures.cases.0 at c.in-Some.ensures.at)

pub returns-in_default-place : goal.returns-in_default-place
returns-in_default-place c =
    let at : slice_get c.args.table.now c.in-Some.i ≡ Some c.args.word.now = rw c.in-Ok.ensures.cases.0 at c.in-Some.ensures.at in
    no_place c.args.count (Listed c.args.table.now) c.args.word.now (λ j lt e.
    let same : c.in-Some.i ≡ j = one_place c.args.table.now c.args.word.now c.in-Some.i j c.len.ensures.distinct at e in
    let inside : c.in-Some.i < length c.args.table.now = within c.args.table.now c.args.word.now c.in-Some.i at in
    absurd (omega (arith, same, inside, lt, c.if-i-min.false, c.min.ensures, c.len.ensures.length)))

pub returns-in_default-place-2 : goal.returns-in_default-place-2
returns-in_default-place-2 c =
    no_place c.args.count (Listed c.args.table.now) c.args.word.now (λ j lt e.
    c.in_default-place.ensures.absent.0 refl (rw c.in-Ok.ensures.cases.0 (contains_place c.args.table.now c.args.word.now j e)))

use Rattle.std.proofs.Common.{arith, refl}
use Rattle.polynomial_text.proofs.LinePlaces.{numbered_gives, first_gives, second_gives}
use Rattle.polynomial_text.proofs.named_place.place.Goals as goal

pub returns-in-Numbered : goal.returns-in-Numbered
returns-in-Numbered c =
    rw c.in-Numbered.is (numbered_gives c.args.count c.in-Numbered.prefix c.in-Numbered.skip c.args.word.now c.numbered_place.result (rw c.in-Numbered.is at c.requires) c.numbered_place.ensures.within c.numbered_place.ensures.at c.numbered_place.ensures.none)

pub returns-in-Some : goal.returns-in-Some
returns-in-Some c =
    rw c.in-Paired.is (first_gives c.args.count c.in-Paired.first c.in-Paired.firsts c.in-Paired.second c.args.word.now c.in-Some.place (rw c.in-Paired.is at c.requires)
    (omega (arith, c.in-Some.ensures.within.1, c.min.ensures)) (omega (arith, c.in-Some.ensures.within.1, c.min.ensures)) c.in-Some.ensures.at)

pub returns-in-None : goal.returns-in-None
returns-in-None c =
    rw c.in-Paired.is (second_gives c.args.count c.in-Paired.first c.in-Paired.firsts c.in-Paired.second c.args.word.now c.numbered_place-in-None.result (rw c.in-Paired.is at c.requires)
    (λ i lt inside e. c.in-None.ensures.none refl i (omega arith) (omega (arith, c.min.ensures)) e) c.numbered_place-in-None.ensures.within c.numbered_place-in-None.ensures.at c.numbered_place-in-None.ensures.none)

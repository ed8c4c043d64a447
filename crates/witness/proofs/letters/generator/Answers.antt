use Rattle.std.proofs.Common.{◌≡◌, ◌-◌, ◌<◌, ◌∙◌, sym, subst, [], length, get_or, arith}
use Rattle.std.proofs.lemmas.List.{length-append, get_or_append_left, get_or_default}
use Rattle.polynomials.specs.Polynomial.{IsCanonical}
use Rattle.poly_core.specs.Presentation.{generator_degree, presented}
use Rattle.witness.specs.Tracking.{by_order, IsGraded}
use Rattle.witness.specs.laws.Letters.{by_small, canonical_letter, graded_letter, generator_graded, generators_are, generator_letter}
use Rattle.witness.proofs.Witnesses.{tracks_letter}
use Rattle.witness.proofs.letters.generator.Goals as goal

pub returns-clause-tracks : goal.returns-clause-tracks
returns-clause-tracks g c S =
    let fs = c.args.p.now.generators.items in
    let inside : c.args.i - 1 < length fs = let a = c.requires.first in let b = c.requires.last in omega arith in
    let at : c.index.result.now ≡ get_or fs (c.args.i - 1) [] = c.index.ensures ∙ get_or_default fs (c.args.i - 1) c.index.result.now [] inside in
    tracks_letter (presented g.F.Field.ops g.O.Order.order c.args.p.now) (g.met.F.Field.laws c.args.p.now.field) S c.in_ok-copy.field-0 c.in_ok-letter.field-0 (c.args.i - 1)
    (let n = length-append fs S in let a = c.requires.first in let b = c.requires.last in omega arith)
    (c.in_ok-copy.ensures ∙ (at ∙ sym (get_or_append_left fs S [] (c.args.i - 1) inside)))
    c.in_ok-letter.ensures.letter

pub returns-clause-canonical : goal.returns-clause-canonical
returns-clause-canonical g c w V room =
    let P = presented g.F.Field.ops g.O.Order.order c.args.p.now in
    let i = c.args.i - 1 in
    let inside : i < length P.generators = let a = c.requires.first in let b = c.requires.last in omega arith in
    record {
      value = subst (IsCanonical P.field P.order) (sym (c.in_ok-copy.ensures ∙ (c.index.ensures ∙ get_or_default P.generators i c.index.result.now [] inside)))
          (let f = generators_are P.field V.presentation.field P.order V.presentation.order P.generators i inside V.generators.each in f.canonical);
      by = subst (IsCanonical P.field (by_order w)) (sym c.in_ok-letter.ensures.letter)
          (canonical_letter P.field V.presentation.field (by_order w) (by_small w) i (let a = c.requires.first in omega arith));
    }

pub returns-clause-graded : goal.returns-clause-graded
returns-clause-graded g c S w V h =
    let P = presented g.F.Field.ops g.O.Order.order c.args.p.now in
    let i = c.args.i - 1 in
    let inside : i < length P.generators = let a = c.requires.first in let b = c.requires.last in omega arith in
    let d = generator_degree P.order (get_or P.generators i []) in
    record {
      value = subst (IsGraded P.field P.order d) (sym (c.in_ok-copy.ensures ∙ (c.index.ensures ∙ get_or_default P.generators i c.index.result.now [] inside)))
          (generator_graded P.field V.presentation.field P.order V.presentation.order (get_or P.generators i [])
          (generators_are P.field V.presentation.field P.order V.presentation.order P.generators i inside V.generators.each));
      by = subst (IsGraded P.field (by_order w) d) (sym c.in_ok-letter.ensures.letter)
          (graded_letter P.field V.presentation.field (by_order w) d i (generator_letter P S w h i inside));
    }

use Rattle.std.proofs.Common.{◌≡◌, ◌+◌, ◌-◌, ◌∙◌, sym, subst, ap, [], length, arith}
use Rattle.std.proofs.lemmas.List.{length-append, get_or-append-add}
use Rattle.polynomials.specs.Polynomial.{degree_of, IsCanonical}
use Rattle.poly_core.specs.Presentation.{presented}
use Rattle.witness.specs.laws.Letters.{by_small, canonical_letter, graded_letter, element_letter}
use Rattle.witness.proofs.Witnesses.{tracks_letter}
use Rattle.witness.specs.Tracking.{by_order, letter_poly, IsGraded}
use Rattle.witness.proofs.letters.element.Goals as goal

pub returns-clause-tracks : goal.returns-clause-tracks
returns-clause-tracks g c S l e =
    let fs = c.args.p.now.generators.items in
    let long : c.len.result ≡ length fs = let a = c.len.ensures in let b = c.args.p.now.generators.ok in omega arith in
    tracks_letter (presented g.F.Field.ops g.O.Order.order c.args.p.now) (g.met.F.Field.laws c.args.p.now.field) S c.in_ok-copy.field-0 c.in_ok-letter.field-0 (length fs + (c.args.i - 1))
    (let n = length-append fs S in let a = c.requires.first in omega arith)
    (c.in_ok-copy.ensures ∙ (sym e ∙ sym (get_or-append-add fs S (c.args.i - 1) [])))
    (c.in_ok-letter.ensures.letter ∙ ap (λ n. letter_poly (g.F.Field.ops c.args.p.now.field) (n + (c.args.i - 1))) long)

pub returns-clause-canonical : goal.returns-clause-canonical
returns-clause-canonical g c w h room =
    let P = presented g.F.Field.ops g.O.Order.order c.args.p.now in
    let F = g.met.F.Field.laws c.args.p.now.field in
    let long : c.len.result ≡ length P.generators = let a = c.len.ensures in let b = c.args.p.now.generators.ok in omega arith in
    record {
      value = subst (IsCanonical P.field P.order) (sym c.in_ok-copy.ensures) h;
      by = subst (IsCanonical P.field (by_order w)) (sym c.in_ok-letter.ensures.letter)
          (canonical_letter P.field F (by_order w) (by_small w) (c.len.result + (c.args.i - 1)) (let a = c.requires.first in omega arith));
    }

pub returns-clause-graded : goal.returns-clause-graded
returns-clause-graded g c S w h l e d =
    let P = presented g.F.Field.ops g.O.Order.order c.args.p.now in
    let F = g.met.F.Field.laws c.args.p.now.field in
    let long : c.len.result ≡ length P.generators = let a = c.len.ensures in let b = c.args.p.now.generators.ok in omega arith in
    let n = degree_of P.order c.args.value.now in
    record {
      value = subst (IsGraded P.field P.order n) (sym c.in_ok-copy.ensures) d;
      by = subst (IsGraded P.field (by_order w) n) (sym (c.in_ok-letter.ensures.letter ∙ ap (λ k. letter_poly P.field (k + (c.args.i - 1))) long))
          (graded_letter P.field F (by_order w) n (length P.generators + (c.args.i - 1))
          (element_letter P S w h (c.args.i - 1) (let a = c.requires.first in omega arith) ∙ ap (degree_of P.order) e));
    }

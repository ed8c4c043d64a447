use Rattle.std.proofs.Common.{◌≡◌, ◌∙◌, refl, sym, ap, subst, inl, true, false, ◌∷◌, [], ◌++◌, arith}
use Rattle.std.specs.Prelude.{sum, not}
use Rattle.word_laws.specs.Words.{IsSWord}
use Rattle.subalgebra_laws.specs.Words.{letters}
use Rattle.poly_core.specs.Presentation.{presented}
use Rattle.word_values.specs.declared.paths.Step.{Step}
use Rattle.witness.specs.Tracking.{values_of}
use Rattle.word_values.specs.Values.{IsPath, IsStep}
use Rattle.word_values.proofs.Following.{path_push}
use Rattle.word_values.proofs.Putting.{rest_shorter}
use Rattle.word_values.proofs.values.Values.path.Goals as goal

pub letters-smaller : goal.letters-smaller
letters-smaller g c =
    let P = presented g.F.Field.ops g.O.Order.order c.args.p.now in
    let s = rest_shorter P (values_of c.args.elements.now) c.letters.start c.in_ok-split.split c.in_ok-split.ensures in
    let e : sum c.in_ok-rest.rest ≡ sum c.in_ok-split.split.rest = ap sum c.in_ok-rest.ensures.same in
    omega arith

pub letters-preserved : goal.letters-preserved
letters-preserved g c =
    let P = presented g.F.Field.ops g.O.Order.order c.args.p.now in
    let S = values_of c.args.elements.now in
    let t : Step = record { word = c.letters.start; split = c.in_ok-split.split } in
    let step : IsStep P S c.letters.start t = record {
      here = refl;
      word = c.letters.invariant.1;
      long = λ l. let e : true ≡ false = sym (c.get.ensures.ready.1 (inl l)) ∙ (c.is_none.ensures ∙ ap not c.if-is_none.true) in cc;
      split = c.in_ok-split.ensures;
    } in (
      subst (λ ts. IsPath P S c.args.w.now ts c.in_ok-rest.rest) (sym c.in_ok-push.ensures.items)
          (subst (IsPath P S c.args.w.now (c.letters.steps.items ++ t ∷ [])) (sym c.in_ok-rest.ensures.same) (path_push P S c.args.w.now c.letters.steps.items t c.letters.start c.letters.invariant.0 step)),
      subst (IsSWord (letters P S)) (sym c.in_ok-rest.ensures.same) c.in_ok-split.ensures.word,
    )

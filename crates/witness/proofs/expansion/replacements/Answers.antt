use Rattle.std.proofs.Common.{◌+◌, [], length, get_or, subst, sym, ◌∙◌, ap, arith, inl, ◌∷◌}
use Rattle.std.proofs.lemmas.List.{length-append}
use Rattle.poly_core.specs.Presentation.{presented}
use Rattle.witness.specs.Expansion.{IsReplacement}
use Rattle.witness.specs.Tracking.{by_order, values_of}
use Rattle.witness.proofs.Replacing.{letter_replacement, more_replacements}
use Rattle.witness.proofs.expansion.replacements.Goals as goal

pub elements-init : goal.elements-init
elements-init g c =
    let P = presented g.F.Field.ops g.O.Order.order c.args.p.now in
    let w = c.args.w.now in
    let n = c.in_ok-at.ensures.length in
    record {
      long = omega arith;
      each = λ j l. subst (IsReplacement P (by_order w) (values_of c.args.s.now) w.s_degrees.items c.args.degree j) (sym (c.in_ok-at.ensures.each j (omega arith)))
          (letter_replacement P c.requires.valid.presentation (values_of c.args.s.now) w c.requires.order c.args.degree j c.requires.positive (omega arith) (inl (omega arith)));
    }

pub elements-preserved : goal.elements-preserved
elements-preserved g c =
    let P = presented g.F.Field.ops g.O.Order.order c.args.p.now in
    let w = c.args.w.now in
    let k = length c.args.p.now.generators.items in
    let n = c.elements.invariant.long in
    let m = length-append c.elements.at.items (c.in_ok-replacement.field-0 ∷ []) in
    let items = c.in_ok-push.ensures.items in
    record {
      long = ap length items ∙ omega arith;
      each = λ j l. subst (λ at. IsReplacement P (by_order w) (values_of c.args.s.now) w.s_degrees.items c.args.degree j (get_or at j [])) (sym items)
          (more_replacements (IsReplacement P (by_order w) (values_of c.args.s.now) w.s_degrees.items c.args.degree) c.elements.at.items c.in_ok-replacement.field-0 (k + c.elements.i) n
          c.elements.invariant.each c.in_ok-replacement.ensures j (omega arith));
    }

use Rattle.std.proofs.Common.{◌≡◌, ◌∷◌, [], ◌++◌, ◌∙◌, sym, ap, subst, take, length, append-nil, arith}
use Rattle.std.specs.Prelude.{map}
use Rattle.std.proofs.Math.Seq.{take-length}
use Rattle.std.proofs.lemmas.List.{take_more}
use Rattle.poly_core.specs.Presentation.{generator_degree, weight_order_of}
use Rattle.witness.specs.Tracking.{values_of, IsWitnessOrder}
use Rattle.worked_rows.specs.Rings.{IsIn}
use Rattle.worked_bases.proofs.Elements.{push_order}
use Rattle.worked_bases.proofs.expansions.witness_order.Goals as goal
use Rattle.worked_bases.specs.Rings.{of_ring}

pub elements-init : goal.elements-init
elements-init c = record {
  no_x = c.in_ok-w.ensures.x ∙ c.requires.valid.no_x;
  degrees = c.in_ok-w.ensures.s ∙ (c.requires.valid.degrees ∙ sym (append-nil (map (generator_degree (weight_order_of c.args.p.now.order)) c.args.p.now.generators.items)));
}

pub degree-d-requires : goal.degree-d-requires
degree-d-requires c =
    let e = c.requires.elements c.elements.t-index c.t-item.result c.elements-test.true in
    subst (λ t. IsIn c.args.p.now t.value) (sym c.t-item.is) e.value

pub elements-preserved : goal.elements-preserved
elements-preserved c =
    let s = c.args.s.now in
    let t = c.t-item.result in
    let i = c.elements.t-index in
    subst (λ u. IsWitnessOrder (of_ring c.args.p.now) (values_of u) c.push_place.new.self)
    (sym (take_more s i t c.elements-test.true ∙ ap (λ x. take i s ++ x ∷ []) (sym c.t-item.is)))
    (push_order c.args.p.now c.requires.valid (take i s) t c.degree-d.result (sym c.degree-d.ensures) c.elements.w c.push_place.new.self c.elements.invariant c.in_ok-push_place.ensures.x c.in_ok-push_place.ensures.s)

pub returns : goal.returns
returns c =
    subst (λ u. IsWitnessOrder (of_ring c.args.p.now) (values_of u) c.elements.w)
    (let a = c.elements.auto.t-index-end in let b = c.elements-test.false in let e : c.elements.t-index ≡ length c.args.s.now = omega arith in
    ap (λ n. take n c.args.s.now) e ∙ take-length c.args.s.now) c.elements.invariant

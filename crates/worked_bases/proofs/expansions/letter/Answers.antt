use Rattle.std.proofs.Common.{◌+◌, ◌-◌, ◌<◌, ◌++◌, ◌∙◌, sym, subst, length, arith}
use Rattle.word_field.specs.Residues.{residues}
use Rattle.poly_core.specs.Presentation.{weight_order_of}
use Rattle.witness.specs.Tracking.{by_order, values_of, IsGradedPair}
use Rattle.worked_rows.specs.Rings.{IsLowIn}
use Rattle.worked_bases.specs.Elements.{IsGeneratorElement}
use Rattle.worked_bases.proofs.Elements.{letter_low, long_enough, value_at, inside_test, same_test}
use Rattle.worked_bases.proofs.expansions.letter.Goals as goal

pub returns-clause-low : goal.returns-clause-low
returns-clause-low c =
    let p = c.args.p.now in
    let x = c.index-s-i.result in
    let inside : c.args.i < length c.args.s.now = inside_test c.args.i (length c.args.s.now) c.in_ok-ensure.ensures in
    let g = subst (IsGeneratorElement p) (sym c.index-s-i.is) (c.requires.elements c.args.i x inside) in
    let room = c.requires.room in
    record {
      value = subst (IsLowIn p) (sym c.in_ok-element.ensures.value) g.low;
      by = letter_low p c.requires.valid c.args.w.now (length p.generators.items + (c.args.i + 1 - 1)) (omega arith) c.in_ok-element.field-0.by c.in_ok-element.ensures.by;
    }

pub returns-clause-made : goal.returns-clause-made
returns-clause-made c =
    let p = c.args.p.now in
    let s = c.args.s.now in
    let i = c.args.i in
    let x = c.index-s-i.result in
    let t = c.in_ok-element in
    let inside : i < length s = inside_test i (length s) c.in_ok-ensure.ensures in
    let g = subst (IsGeneratorElement p) (sym c.index-s-i.is) (c.requires.elements i x inside) in
    record {
      tracks = λ more h. t.ensures.tracks (values_of s ++ more)
          (long_enough p c.requires.valid s i inside x c.index-s-i.is more) (value_at p c.requires.valid s i inside x c.index-s-i.is more);
      graded = λ more h. subst (λ n. IsGradedPair (residues p.field.modulus) (weight_order_of p.order) (by_order c.args.w.now) n t.field-0)
          (sym c.degree.ensures ∙ same_test c.degree.result c.args.d c.in_ok-ensure-2.ensures)
          (t.ensures.graded (values_of s ++ more) c.args.w.now h
          (long_enough p c.requires.valid s i inside x c.index-s-i.is more) (value_at p c.requires.valid s i inside x c.index-s-i.is more)
          (let e = g.each (values_of s ++ more) c.args.w.now h in e.graded.value));
    }

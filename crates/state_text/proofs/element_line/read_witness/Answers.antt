use Rattle.std.proofs.Common.{◌∙◌, ap, sym, subst}
use Rattle.std.proofs.lemmas.Bool.{true≢false}
use Rattle.poly_core.specs.Presentation.{presented, weight_order_of}
use Rattle.polynomial_text.specs.Canonical.{IsCanonicalText}
use Rattle.polynomial_text.specs.laws.CanonicalPoly.{canonical_one}
use Rattle.witness.specs.Tracking.{by_order}
use Rattle.witness.specs.laws.Letters.{by_laws}
use Rattle.state_text.specs.Parts.{IsDueWitness}
use Rattle.state_text.specs.StateText.{letters_of}
use Rattle.state_text.proofs.element_line.read_witness.Goals as goal

pub returns-then-is_due_witness : goal.returns-then-is_due_witness
returns-then-is_due_witness g c S order = (
  subst (λ names. IsCanonicalText (g.F.Field.ops c.args.p.now.field) (by_order c.args.w.now) names c.args.text.now c.in-Some.witness) (c.letters-letters.ensures.is ∙ ap (letters_of c.args.version) (c.len.ensures ∙ c.args.p.now.generators.ok.0))
      (rw c.in-Some.is at c.in_ok-witness.ensures),
  (c.is_due_witness.ensures S order).0 c.if-is_due_witness.true,
)

pub returns : goal.returns
returns g c S order = λ q text due.
    let P = presented g.F.Field.ops weight_order_of c.args.p.now in
    let found = rw c.in-Some.is at c.in_ok-witness.ensures in
    let one = canonical_one P.field (g.met.F.Field.laws c.args.p.now.field) c.has_short_words.ensures (by_order c.args.w.now) (by_laws c.args.w.now) c.letters-letters.result c.letters-letters.ensures.different c.args.text.now c.in-Some.witness q found
    (subst (λ names. IsCanonicalText P.field (by_order c.args.w.now) names c.args.text.now q) (sym (c.letters-letters.ensures.is ∙ ap (letters_of c.args.version) (c.len.ensures ∙ c.args.p.now.generators.ok.0))) text) in
    true≢false (sym ((c.is_due_witness.ensures S order).1 (subst (IsDueWitness P S c.args.degree) (sym one) due)) ∙ c.if-is_due_witness.false)

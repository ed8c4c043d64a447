use Rattle.std.proofs.Common.{sym, subst, ◌∙◌}
use Rattle.std.proofs.lemmas.Bool.{true≢false}
use Rattle.polynomial_text.specs.laws.CanonicalPoly.{canonical_one}
use Rattle.witness.specs.Tracking.{by_order, IsGraded}
use Rattle.witness.specs.laws.Letters.{by_laws}
use Rattle.state_text.proofs.relation_line.read_right.Goals as goal

pub returns-then-is_graded : goal.returns-then-is_graded
returns-then-is_graded g c = (rw c.in-Some.is at c.in_ok-right.ensures, c.is_graded.ensures.0 c.if-is_graded.true)

pub returns-else-is_graded : goal.returns-else-is_graded
returns-else-is_graded g c = λ q text graded.
    let found = rw c.in-Some.is at c.in_ok-right.ensures in
    let one = canonical_one (g.F.Field.ops c.args.f.now) (g.met.F.Field.laws c.args.f.now) c.has_short_words.ensures (by_order c.args.w.now) (by_laws c.args.w.now) c.args.letters.now c.requires.different c.args.text.now c.in-Some.right q found text in
    true≢false (sym (c.is_graded.ensures.1 (subst (IsGraded (g.F.Field.ops c.args.f.now) (by_order c.args.w.now) c.args.degree) (sym one) graded)) ∙ c.if-is_graded.false)

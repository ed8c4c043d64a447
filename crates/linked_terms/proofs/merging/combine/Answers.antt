use Rattle.std.proofs.Common.{sym, ◌∙◌, subst, arith}
use Rattle.std.proofs.lemmas.Bool.{true≢false}
use Rattle.word_field.specs.Field.{IsValue}
use Rattle.linked_terms.proofs.Seeking.{combined, cancelled}
use Rattle.linked_terms.proofs.merging.combine.Goals as goal

pub add-sum-requires-clause-left : goal.add-sum-requires-clause-left
add-sum-requires-clause-left g c =
    subst (Rattle.std.specs.Prelude.All (λ t. IsValue (g.F.Field.ops c.args.f.now) t.by)) c.in-Some.ensures.1 c.requires.values 0 c.in-Some.next (omega arith)

pub returns-then-eq : goal.returns-then-eq
returns-then-eq g c next rest e =
    cancelled (g.F.Field.ops c.args.f.now) c.args.by c.add-sum.result next c.in-Some.next rest c.in-Some.ensures.0 c.args.list.now c.remove.new.self
    c.in-Some.ensures.1 e c.add-sum.ensures
    ((g.met.F.Field.eq_is c.add-sum.result c.zero.result).0 (sym c.if-eq.ensures) ∙ c.zero.ensures) c.in-Some.ensures.2

pub returns : goal.returns
returns g c next rest e =
    combined (g.F.Field.ops c.args.f.now) c.args.by c.add-sum.result next c.in-Some.next rest c.in-Some.ensures.0 c.args.list.now c.remove.new.self c.insert.new.self
    c.in-Some.ensures.1 e c.add-sum.ensures
    (λ z. true≢false (sym ((g.met.F.Field.eq_is c.add-sum.result c.zero.result).1 (z ∙ sym c.zero.ensures)) ∙ sym c.if-eq.ensures))
    c.in-Some.ensures.2 c.insert.ensures

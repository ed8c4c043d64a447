use Rattle.std.proofs.Common.{◌≡◌, ◌≤◌, refl, sym, ◌∙◌, subst, get_or, below_more, arith}
use Rattle.std.specs.Prelude.{Contains}
use Rattle.std.proofs.lemmas.List.{get_or_default}
use Rattle.word_rules.specs.Index.{bucket}
use Rattle.word_rules.proofs.table.Table.find_in_row.Goals as goal

pub letters-preserved : goal.letters-preserved
letters-preserved c = below_more _ _ c.letters.invariant (λ small i k. c.in-None.ensures.none refl i (subst (λ xs. Contains xs i) (sym c.get.ensures) k))

pub returns-clause-none : goal.returns-clause-none
returns-clause-none c = λ same b i h small k.
    let e : get_or c.args.letters.now h.0 0 ≡ b = get_or_default c.args.letters.now h.0 0 b h.1 ∙ h.2 in
    c.letters.invariant h.0 (let l = h.1 in let t = c.letters-test.false in omega arith) (subst (λ x. x ≤ c.args.a) (sym e) small) i (subst (λ x. Contains (bucket c.args.row.now x) i) (sym e) k)

pub letters-preserved-then-b-a : goal.letters-preserved-then-b-a
letters-preserved-then-b-a c = below_more _ _ c.letters.invariant (λ small i k l d. let t = c.if-b-a.true in omega arith)

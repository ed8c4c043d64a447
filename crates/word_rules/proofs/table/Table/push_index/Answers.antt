use Rattle.std.proofs.Common.{subst, sym}
use Rattle.std.specs.Prelude.{Contains}
use Rattle.word_rules.specs.Index.{bucket}
use Rattle.word_rules.proofs.LetterLists.{factor_of}
use Rattle.word_rules.proofs.table.Table.push_index.Goals as goal

pub returns-clause-listed : goal.returns-clause-listed
returns-clause-listed c = λ a h.
    let f = factor_of c.args.left.now a h in
    subst (λ k. Contains (bucket c.push_each.new.self k) c.args.i) f.2
    (c.in_ok-push_each.ensures.ok f.0 (subst (λ fs. Contains fs f.0) (sym c.factors.ensures.same) f.1))

pub returns-clause-paired : goal.returns-clause-paired
returns-clause-paired c = record { a = c.last_two-last.result.0; b = c.last_two-last.result.1; letters = c.last_two-last.ensures; listed = c.in_ok-push.ensures.ok }

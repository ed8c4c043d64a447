use Rattle.std.proofs.Common.{sym, subst}
use Rattle.std.specs.Prelude.{Contains}
use Rattle.word_rules.proofs.Grown.{row_has, row_kept}
use Rattle.word_rules.proofs.pairs.PairIndex.push.Goals as goal

pub returns-in_err-push-clause-keeps : goal.returns-in_err-push-clause-keeps
returns-in_err-push-clause-keeps c = λ k b i h.
    row_kept c.reach.new.self.rows.items c.args.a c.index_mut.result.now c.push.new.self c.in_ok-reach.ensures.ok c.index_mut.ensures.value c.push.ensures.keeps k b i
    (subst (λ xs. Contains xs i) (sym (c.in_ok-reach.ensures.same k b)) h)

pub returns-clause-keeps : goal.returns-clause-keeps
returns-clause-keeps c = λ k b i h.
    row_kept c.reach.new.self.rows.items c.args.a c.index_mut.result.now c.push.new.self c.in_ok-reach.ensures.ok c.index_mut.ensures.value c.push.ensures.keeps k b i
    (subst (λ xs. Contains xs i) (sym (c.in_ok-reach.ensures.same k b)) h)

pub returns-clause-ok : goal.returns-clause-ok
returns-clause-ok c =
    row_has c.reach.new.self.rows.items c.args.a c.index_mut.result.now c.push.new.self c.in_ok-reach.ensures.ok c.index_mut.ensures.value c.args.b c.args.index c.in_ok-push.ensures.ok

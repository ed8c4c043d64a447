use Rattle.std.proofs.Common.{sym, subst}
use Rattle.std.specs.Prelude.{Contains}
use Rattle.word_rules.proofs.Grown.{bucket_grown, bucket_has, bucket_same}
use Rattle.word_rules.proofs.buckets.Buckets.push.Goals as goal

pub returns-in_err-push-clause-keeps : goal.returns-in_err-push-clause-keeps
returns-in_err-push-clause-keeps c = λ k i h.
    bucket_same c.reach.new.self.lists.items c.args.key c.index_mut.result.now c.push.new.self c.in_ok-reach.ensures.ok c.index_mut.ensures.value c.in_err-push.ensures.items k i
    (subst (λ xs. Contains xs i) (sym (c.in_ok-reach.ensures.same k)) h)

pub returns-clause-keeps : goal.returns-clause-keeps
returns-clause-keeps c = λ k i h.
    bucket_grown c.reach.new.self.lists.items c.args.key c.index_mut.result.now c.push.new.self c.in_ok-reach.ensures.ok c.index_mut.ensures.value c.args.index c.in_ok-push.ensures.items k i
    (subst (λ xs. Contains xs i) (sym (c.in_ok-reach.ensures.same k)) h)

pub returns-clause-ok : goal.returns-clause-ok
returns-clause-ok c =
    bucket_has c.reach.new.self.lists.items c.args.key c.index_mut.result.now c.push.new.self c.in_ok-reach.ensures.ok c.index_mut.ensures.value c.args.index c.in_ok-push.ensures.items

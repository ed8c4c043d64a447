use Rattle.std.proofs.Common.{sym, subst, arith, Some, None}
use Rattle.std.proofs.lemmas.Result.{IfOk-weaker}
use Rattle.monomial_order.specs.Monomial.{least_common_multiple}
use Rattle.word_rewriting.specs.Rewriting.{IsNormalForm, RewritesBy, stays}
use Rattle.word_rules.specs.Rules.{IsFormAfter, IsSmallWord, rule_at}
use Rattle.word_rules.specs.Trimmed.{trim, trimmed}
use Rattle.word_rules.proofs.Steps.{below, small_below}
use Rattle.word_rules.proofs.Trimming.{divides_multiple, left_word, multiple_is}
use Rattle.word_rules.proofs.rule_table.RuleTable.form_after.Goals as goal

pub multiple-requires-clause-short : goal.multiple-requires-clause-short
multiple-requires-clause-short g c =
    let l = (left_word (g.O.Order.order c.args.o.now) c.args.self.now c.requires.decreasing c.args.i c.requires.first).within in
    let e = c.places.ensures in
    omega arith

pub multiple-requires-clause-also : goal.multiple-requires-clause-also
multiple-requires-clause-also g c =
    let l = (left_word (g.O.Order.order c.args.o.now) c.args.self.now c.requires.decreasing c.args.j c.requires.second).within in
    let e = c.places.ensures in
    omega arith

pub step-requires-clause-divides : goal.step-requires-clause-divides
step-requires-clause-divides g c =
    divides_multiple (rule_at c.args.self.now c.args.i).left (rule_at c.args.self.now c.args.j).left c.in_ok-word.word c.in_ok-word.ensures.exponents

pub step-requires-clause-word : goal.step-requires-clause-word
step-requires-clause-word g c =
    subst (IsSmallWord (g.O.Order.order c.args.o.now))
    (sym (multiple_is (rule_at c.args.self.now c.args.i).left (rule_at c.args.self.now c.args.j).left c.in_ok-word.word c.requires.small.word.trimmed c.in_ok-word.ensures.exponents))
    c.requires.small

pub returns-then-not-branch-clause-form : goal.returns-then-not-branch-clause-form
returns-then-not-branch-clause-form g c =
    let r = rule_at c.args.self.now c.args.i in
    let whole = multiple_is r.left (rule_at c.args.self.now c.args.j).left c.in_ok-word.word c.requires.small.word.trimmed c.in_ok-word.ensures.exponents in
    record {
      result = None;
      by = subst (λ x. RewritesBy r x None) whole (c.in_ok-step.ensures.zero c.if-not-branch.true);
      form = record { rewrites = stays; normal = tt };
    }

pub finish-requires-clause-word : goal.finish-requires-clause-word
finish-requires-clause-word g c =
    let O = g.O.Order.order c.args.o.now in
    let L = g.met.O.Order.laws c.args.o.now in
    let R = c.args.self.now in
    let dec = c.requires.decreasing in
    let w = trim c.in_ok-word.word in
    let u = trim c.step.new.word in
    let whole = multiple_is (rule_at R c.args.i).left (rule_at R c.args.j).left c.in_ok-word.word c.requires.small.word.trimmed c.in_ok-word.ensures.exponents in
    let small = subst (IsSmallWord O) (sym whole) c.requires.small in
    small_below O L R dec w u small (below O L R dec c.args.i w (Some u) c.requires.first small.word (c.in_ok-step.ensures.next c.if-not-branch.false))

pub returns-clause-form : goal.returns-clause-form
returns-clause-form g c =
    let r = rule_at c.args.self.now c.args.i in
    let m = least_common_multiple r.left (rule_at c.args.self.now c.args.j).left in
    let whole = multiple_is r.left (rule_at c.args.self.now c.args.j).left c.in_ok-word.word c.requires.small.word.trimmed c.in_ok-word.ensures.exponents in
    IfOk-weaker c.finish.result (λ f. IsNormalForm c.args.self.now (Some (trim c.step.new.word)) (trimmed f)) (λ f. IsFormAfter c.args.self.now r m (trimmed f))
    (λ f h. record {
      result = Some (trim c.step.new.word);
      by = subst (λ x. RewritesBy r x (Some (trim c.step.new.word))) whole (c.in_ok-step.ensures.next c.if-not-branch.false);
      form = h;
    }) c.finish.ensures.form

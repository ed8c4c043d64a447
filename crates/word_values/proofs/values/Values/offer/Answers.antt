use Rattle.std.proofs.Common.{rules, ◌≡◌, ◌∙◌, ap, inr, cond, Some}
use Rattle.std.specs.Prelude.{nat_eq}
use lib.Pointwise.{pointwise}
use Rattle.word_values.specs.Values.{value_in}
use Rattle.word_values.proofs.Tables.{puts, put_here}
use Rattle.word_values.proofs.values.Values.offer.Goals as goal

pub returns-clause-table : goal.returns-clause-table
returns-clause-table g c =
    let key : c.in_ok-key.key.items ≡ c.args.w.now =
    (let copied : c.in_ok-key.key.items ≡ c.as_slice.result.now = search rules in copied ∙ c.as_slice.ensures.same) in
    inr (λ u. puts (λ k. k.items) c.args.w.now c.in_ok-key.key c.self.inside.kept.entries c.insert.new.self.entries c.args.value key c.in_ok-insert.ensures.updates.1 c.in_ok-insert.ensures.updates.3 u ∙ ap (λ t. cond (pointwise nat_eq c.args.w.now u) (Some c.args.value) (value_in t u)) c.self.view_is)

pub returns-clause-ready : goal.returns-clause-ready
returns-clause-ready g c =
    let key : c.in_ok-key.key.items ≡ c.args.w.now =
    (let copied : c.in_ok-key.key.items ≡ c.as_slice.result.now = search rules in copied ∙ c.as_slice.ensures.same) in
    λ e. inr (put_here c.args.w.now c.args.value _ _ (puts (λ k. k.items) c.args.w.now c.in_ok-key.key c.self.inside.kept.entries c.insert.new.self.entries c.args.value key c.in_ok-insert.ensures.updates.1 c.in_ok-insert.ensures.updates.3 c.args.w.now))

use Rattle.std.proofs.Common.{sym, ap, ◌∙◌, ◌++◌, ◌∷◌, [], List, append-nil}
use Rattle.degree_queue.specs.DegreeQueue.{list_of}
use Rattle.degree_queue.proofs.Stacked.{within_lists, before_set, at_set, other_set, same_set}
use Rattle.degree_queue.proofs.stacks.DegreeStacks.pop.Goals as goal

pub returns-in-Some-clause-last : goal.returns-in-Some-clause-last
returns-in-Some-clause-last g c =
    let ns = c.self.inside.stacks.items in
    let within = within_lists ns c.args.degree c.in_ok-stack.ensures.item.3.0 in
    ap (λ (xs : List (List g.row.T.Denot)). list_of xs c.args.degree) (sym c.self.view_is)
    ∙ before_set ns c.args.degree c.in_ok-stack.stack.now c.pop.new.self within c.in_ok-stack.ensures.value ∙ c.in-Some.ensures.items
    ∙ ap (λ (xs : List g.row.T.Denot). xs ++ c.in-Some.item ∷ []) (sym (at_set ns c.args.degree c.in_ok-stack.stack.now c.pop.new.self within c.in_ok-stack.ensures.value))

pub returns-in-Some-clause-others : goal.returns-in-Some-clause-others
returns-in-Some-clause-others g c = λ other differ.
    let ns = c.self.inside.stacks.items in
    let within = within_lists ns c.args.degree c.in_ok-stack.ensures.item.3.0 in
    other_set ns c.args.degree c.in_ok-stack.stack.now c.pop.new.self within c.in_ok-stack.ensures.value other differ
    ∙ ap (λ (xs : List (List g.row.T.Denot)). list_of xs other) c.self.view_is

same : goal.returns-clause-unchanged
same g c =
    let ns = c.self.inside.stacks.items in
    let within = within_lists ns c.args.degree c.in_ok-stack.ensures.item.3.0 in
    same_set ns c.args.degree c.in_ok-stack.stack.now c.shrink_to_fit.new.self within c.in_ok-stack.ensures.value
    (c.shrink_to_fit.ensures.items ∙ sym (append-nil _) ∙ sym c.in_default.ensures.items) ∙ c.self.view_is

pub returns-clause-unchanged : goal.returns-clause-unchanged
returns-clause-unchanged = same

pub returns-clause-others : goal.returns-clause-others
returns-clause-others g c = λ other differ. ap (λ (xs : List (List g.row.T.Denot)). list_of xs other) (same g c)

use Rattle.std.proofs.Common.{◌≡◌, ◌<◌, sym, ap, ◌∙◌, ◌++◌, ◌∷◌, [], List, length, take, false, Result, Ok, Err, subst}
use Rattle.std.specs.Result.{OnOk, is_err}
use Rattle.degree_queue.specs.DegreeQueue.{list_of}
use Rattle.degree_queue.specs.DegreeStacks.{lists_in}
use Rattle.degree_queue.proofs.Stacked.{before_set, at_set, other_set, cut_back}
use Rattle.degree_queue.proofs.stacks.DegreeStacks.push.Goals as goal

-- what holds at Ok, if the answer is no Err
at_ok : {T E P : Type 0} (r : Result T E) → is_err r ≡ false → OnOk r P → P
at_ok (Ok x) ok holds = holds
at_ok (Err y) ok holds = absurd (cc)

pub returns-in-Ok-clause-last : goal.returns-in-Ok-clause-last
returns-in-Ok-clause-last g c =
    let ns = c.self-2.inside.stacks.items in
    let within : c.args.degree < length (lists_in ns) =
    subst (λ (xs : List (List g.row.T.Denot)). c.args.degree < length xs) (sym c.self-2.view_is) (at_ok c.reach.result (sym c.is_err.ensures.value ∙ c.if-is_err.false) c.reach.ensures.ok) in
    at_set ns c.args.degree c.index_mut.result.now c.push.new.self within c.index_mut.ensures.value ∙ c.in-Ok.ensures.items
    ∙ ap (λ (xs : List g.row.T.Denot). xs ++ c.args.item ∷ []) (sym (before_set ns c.args.degree c.index_mut.result.now c.push.new.self within c.index_mut.ensures.value)
    ∙ ap (λ (xs : List (List g.row.T.Denot)). list_of xs c.args.degree) c.self-2.view_is ∙ c.reach.ensures.same c.args.degree)

pub returns-in-Ok-clause-others : goal.returns-in-Ok-clause-others
returns-in-Ok-clause-others g c = λ other differ.
    let ns = c.self-2.inside.stacks.items in
    let within : c.args.degree < length (lists_in ns) =
    subst (λ (xs : List (List g.row.T.Denot)). c.args.degree < length xs) (sym c.self-2.view_is) (at_ok c.reach.result (sym c.is_err.ensures.value ∙ c.if-is_err.false) c.reach.ensures.ok) in
    other_set ns c.args.degree c.index_mut.result.now c.push.new.self within c.index_mut.ensures.value other differ
    ∙ ap (λ (xs : List (List g.row.T.Denot)). list_of xs other) c.self-2.view_is ∙ c.reach.ensures.same other

same : goal.returns-in-Err-clause-unchanged
same g c =
    let ns = c.self-2.inside.stacks.items in
    let within : c.args.degree < length (lists_in ns) =
    subst (λ (xs : List (List g.row.T.Denot)). c.args.degree < length xs) (sym c.self-2.view_is) (at_ok c.reach.result (sym c.is_err.ensures.value ∙ c.if-is_err.false) c.reach.ensures.ok) in
    let front : take (length (lists_in c.self.inside.stacks.items)) (lists_in ns) ≡ lists_in c.self.inside.stacks.items =
    ap (take _) c.self-2.view_is ∙ ap (λ (xs : List (List g.row.T.Denot)). take (length xs) c.reach.new.self) c.self.view_is ∙ c.reach.ensures.front ∙ sym c.self.view_is in
    ap lists_in c.truncate.ensures.items ∙ cut_back ns c.args.degree c.index_mut.result.now c.push.new.self within c.index_mut.ensures.value c.self.inside.stacks.items c.len-count.result
    (c.len-count.ensures ∙ c.self.inside.stacks.ok.0) front c.in-Err.ensures.items ∙ c.self.view_is

pub returns-in-Err-clause-unchanged : goal.returns-in-Err-clause-unchanged
returns-in-Err-clause-unchanged = same

pub returns-in-Err-clause-others : goal.returns-in-Err-clause-others
returns-in-Err-clause-others g c = λ other differ. ap (λ (xs : List (List g.row.T.Denot)). list_of xs other) (same g c)

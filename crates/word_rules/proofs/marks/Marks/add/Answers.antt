use Rattle.std.proofs.Common.{false, true, set, ◌∙◌, sym, subst}
use Rattle.std.proofs.lemmas.List.{get_or_read}
use Rattle.word_rules.specs.Sharing.{AreMarks, IsMarked}
use Rattle.word_rules.proofs.Marking.{more_marks, newly_marked, same_marks}
use Rattle.word_rules.proofs.marks.Marks.add.Goals as goal

pub invariant_of-self-then-not-index : goal.invariant_of-self-then-not-index
invariant_of-self-then-not-index c =
    let seen = c.reach.new.seen.items in
    let list = c.self.inside.list.items in
    let i = c.args.i in
    let l = c.in_ok-reach.ensures.ok in
    let new = sym (get_or_read seen i c.index.result.now l c.index.ensures false) ∙ c.if-not-index.true in
    subst (AreMarks (set seen i true)) (sym c.in_ok-push.ensures.items)
    (more_marks seen list i l new (same_marks c.self.inside.seen.items seen list c.in_ok-reach.ensures.same c.self.invariant))

pub returns-in_ok-push : goal.returns-in_ok-push
returns-in_ok-push c =
    let seen = c.reach.new.seen.items in
    let list = c.self.inside.list.items in
    let i = c.args.i in
    let new = sym (get_or_read seen i c.index.result.now c.in_ok-reach.ensures.ok c.index.ensures false) ∙ c.if-not-index.true in
    subst (λ xs. IsMarked i xs c.push.new.self.items) c.self.view_is
    (subst (IsMarked i list) (sym c.in_ok-push.ensures.items)
    (newly_marked seen list i new (same_marks c.self.inside.seen.items seen list c.in_ok-reach.ensures.same c.self.invariant)))

use Rattle.std.proofs.Common.{refl}
use Rattle.completion.proofs.ClosedCompletion.{closed_completion, closed_kept, closing_values, closing_words, closing_words_relate, settled_completion, settled_kept, unsettled_completion, unsettled_kept}
use Rattle.completion.proofs.completion.Completion.close_degree.Goals as goal

pub settle_last-requires-clause-values : goal.settle_last-requires-clause-values
settle_last-requires-clause-values g c = closing_values _ _ _ _ c.self.view_is c.requires.completion c.requires.begun

pub settle_last-requires-clause-kept : goal.settle_last-requires-clause-kept
settle_last-requires-clause-kept g c = closing_words _ _ _ _ c.self.view_is c.requires.completion c.requires.begun

pub returns-in_err-settle_last-clause-completion : goal.returns-in_err-settle_last-clause-completion
returns-in_err-settle_last-clause-completion g c =
    unsettled_completion _ _ _ _ c.self.view_is c.requires.completion c.requires.begun c.settle_last.new.basis
    c.settle_last.new.values c.settle_last.new.kept
    c.settle_last.ensures.values c.settle_last.ensures.kept c.in_err-settle_last.ensures.memory

pub returns-in_err-settle_last-clause-kept : goal.returns-in_err-settle_last-clause-kept
returns-in_err-settle_last-clause-kept g c =
    unsettled_kept _ _ _ _ c.self.view_is c.requires.completion c.requires.begun c.settle_last.new.basis
    c.settle_last.new.values c.settle_last.new.kept c.in_err-settle_last.ensures.memory

pub made_sides-requires-clause-words : goal.made_sides-requires-clause-words
made_sides-requires-clause-words g c =
    rw c.as_slice-found.ensures.value
    (closing_words_relate _ _ _ _ c.self.view_is c.requires.completion c.requires.begun c.settle_last.new.basis
    c.in_ok-settle_last.ensures.settled c.closing_laws.ensures c.requires.none_pending)

pub returns-in_err-sides-clause-completion : goal.returns-in_err-sides-clause-completion
returns-in_err-sides-clause-completion g c =
    settled_completion _ _ _ _ c.self.view_is c.requires.completion c.requires.begun c.settle_last.new.basis
    c.in_ok-settle_last.ensures.settled
    c.made_sides.new.values c.settle_last.new.kept c.self.inside.relations.items c.closing_laws.ensures
    c.made_sides.ensures.values
    c.settle_last.new.values c.in_ok-settle_last.ensures.bound c.settle_last.ensures.kept c.made_sides.ensures.words
    refl

pub returns-in_err-sides-clause-kept : goal.returns-in_err-sides-clause-kept
returns-in_err-sides-clause-kept g c =
    settled_kept _ _ _ _ c.self.view_is c.requires.completion c.requires.begun c.settle_last.new.basis
    c.in_ok-settle_last.ensures.settled
    c.made_sides.new.values c.settle_last.new.kept c.self.inside.relations.items refl

pub returns-in_err-reserve-clause-completion : goal.returns-in_err-reserve-clause-completion
returns-in_err-reserve-clause-completion g c =
    settled_completion _ _ _ _ c.self.view_is c.requires.completion c.requires.begun c.settle_last.new.basis
    c.in_ok-settle_last.ensures.settled
    c.made_sides.new.values c.settle_last.new.kept c.reserve.new.self.items c.closing_laws.ensures
    c.made_sides.ensures.values
    c.settle_last.new.values c.in_ok-settle_last.ensures.bound c.settle_last.ensures.kept c.made_sides.ensures.words
    c.reserve.ensures.items

pub returns-in_err-reserve-clause-kept : goal.returns-in_err-reserve-clause-kept
returns-in_err-reserve-clause-kept g c =
    settled_kept _ _ _ _ c.self.view_is c.requires.completion c.requires.begun c.settle_last.new.basis
    c.in_ok-settle_last.ensures.settled
    c.made_sides.new.values c.settle_last.new.kept c.reserve.new.self.items c.reserve.ensures.items

pub returns-clause-completion : goal.returns-clause-completion
returns-clause-completion g c =
    closed_completion _ _ _ _ c.self.view_is c.requires.completion c.requires.begun c.settle_last.new.basis
    c.in_ok-settle_last.ensures.settled
    c.made_sides.new.values c.settle_last.new.kept c.push_relations.new.relations.items c.closing_laws.ensures
    c.made_sides.ensures.values
    c.settle_last.new.values c.in_ok-settle_last.ensures.bound c.settle_last.ensures.kept c.made_sides.ensures.words
    c.requires.none_pending c.quotients_decide.ensures.decided c.replace-found.new.dest.items c.in_ok-sides.sides.items
    (rw (c.replace-found.ensures.value, c.reserve.ensures.items) at c.push_relations.ensures)
    (rw c.as_slice-found.ensures.value at c.in_ok-sides.ensures.sides)

pub returns-clause-kept : goal.returns-clause-kept
returns-clause-kept g c =
    closed_kept _ _ _ _ c.self.view_is c.requires.completion c.requires.begun c.settle_last.new.basis
    c.in_ok-settle_last.ensures.settled
    c.made_sides.new.values c.settle_last.new.kept c.push_relations.new.relations.items c.replace-found.new.dest.items
    c.in_ok-sides.sides.items
    (rw (c.replace-found.ensures.value, c.reserve.ensures.items) at c.push_relations.ensures)

use Rattle.std.proofs.Common.{true, ap, length, refl}
use Rattle.completion.proofs.NextDegree.{begun_completion, further_completion, next_basis, next_candidates, next_empty, next_kept, next_presentation, next_unchanged, stopped_completion}
use Rattle.completion.proofs.completion.Completion.begin_degree.Goals as goal

pub extend_to-requires-clause-presentation : goal.extend_to-requires-clause-presentation
extend_to-requires-clause-presentation g c =
    next_presentation _ _ _ _ c.self.view_is c.requires.completion c.requires.not_begun

pub extend_to-requires-clause-basis : goal.extend_to-requires-clause-basis
extend_to-requires-clause-basis g c = next_basis _ _ _ _ c.self.view_is c.requires.completion c.requires.not_begun

pub returns-in_err-extend_to-clause-completion : goal.returns-in_err-extend_to-clause-completion
returns-in_err-extend_to-clause-completion g c =
    stopped_completion _ _ _ _ c.self.view_is c.requires.completion c.requires.not_begun c.extend_to.new.self
    c.extend_to.ensures.elements c.extend_to.ensures.basis c.requires.small
    c.in_err-extend_to.ensures.memory

pub returns-in_err-extend_to-clause-kept : goal.returns-in_err-extend_to-clause-kept
returns-in_err-extend_to-clause-kept g c =
    next_kept _ _ _ _ c.self.view_is c.requires.completion c.requires.not_begun c.extend_to.new.self
    c.extend_to.ensures.elements c.self.inside.begun c.self.inside.queue c.self.inside.found.items

pub returns-in_err-extend_to-clause-memory : goal.returns-in_err-extend_to-clause-memory
returns-in_err-extend_to-clause-memory g c =
    next_unchanged _ _ _ _ c.self.view_is c.requires.completion c.requires.not_begun c.extend_to.new.self
    c.extend_to.ensures.elements _ c.self.inside.queue c.self.inside.found.items
    (next_empty _ _ _ _ c.self.view_is c.requires.completion c.requires.not_begun)

pub words_at-requires-clause-presentation : goal.words_at-requires-clause-presentation
words_at-requires-clause-presentation g c =
    next_presentation _ _ _ _ c.self.view_is c.requires.completion c.requires.not_begun

pub words_at-requires-clause-basis : goal.words_at-requires-clause-basis
words_at-requires-clause-basis g c = c.extend_to.ensures.basis

pub returns-in_err-found-clause-completion : goal.returns-in_err-found-clause-completion
returns-in_err-found-clause-completion g c =
    further_completion _ _ _ _ c.self.view_is c.requires.completion c.requires.not_begun c.extend_to.new.self
    c.extend_to.ensures.elements c.extend_to.ensures.basis c.requires.small
    c.in_ok-extend_to.ensures.quotient c.in_ok-extend_to.ensures.words c.self.inside.queue (λ d n. refl)
    (next_empty _ _ _ _ c.self.view_is c.requires.completion c.requires.not_begun)

pub returns-in_err-found-clause-kept : goal.returns-in_err-found-clause-kept
returns-in_err-found-clause-kept g c =
    next_kept _ _ _ _ c.self.view_is c.requires.completion c.requires.not_begun c.extend_to.new.self
    c.extend_to.ensures.elements c.self.inside.begun c.self.inside.queue c.self.inside.found.items

pub returns-in_err-found-clause-memory : goal.returns-in_err-found-clause-memory
returns-in_err-found-clause-memory g c =
    next_unchanged _ _ _ _ c.self.view_is c.requires.completion c.requires.not_begun c.extend_to.new.self
    c.extend_to.ensures.elements _ c.self.inside.queue c.self.inside.found.items
    (next_empty _ _ _ _ c.self.view_is c.requires.completion c.requires.not_begun)

pub queue_candidates-requires-clause-presentation : goal.queue_candidates-requires-clause-presentation
queue_candidates-requires-clause-presentation g c =
    next_presentation _ _ _ _ c.self.view_is c.requires.completion c.requires.not_begun

pub queue_candidates-requires-clause-empty : goal.queue_candidates-requires-clause-empty
queue_candidates-requires-clause-empty g c =
    next_empty _ _ _ _ c.self.view_is c.requires.completion c.requires.not_begun

pub returns-in_err-queue_candidates-clause-completion : goal.returns-in_err-queue_candidates-clause-completion
returns-in_err-queue_candidates-clause-completion g c =
    further_completion _ _ _ _ c.self.view_is c.requires.completion c.requires.not_begun c.extend_to.new.self
    c.extend_to.ensures.elements c.extend_to.ensures.basis c.requires.small
    c.in_ok-extend_to.ensures.quotient c.in_ok-extend_to.ensures.words c.queue_candidates.new.queue
    c.queue_candidates.ensures.others c.in_err-queue_candidates.ensures.none

pub returns-in_err-queue_candidates-clause-kept : goal.returns-in_err-queue_candidates-clause-kept
returns-in_err-queue_candidates-clause-kept g c =
    next_kept _ _ _ _ c.self.view_is c.requires.completion c.requires.not_begun c.extend_to.new.self
    c.extend_to.ensures.elements c.self.inside.begun c.queue_candidates.new.queue c.self.inside.found.items

pub returns-in_err-queue_candidates-clause-memory : goal.returns-in_err-queue_candidates-clause-memory
returns-in_err-queue_candidates-clause-memory g c =
    next_unchanged _ _ _ _ c.self.view_is c.requires.completion c.requires.not_begun c.extend_to.new.self
    c.extend_to.ensures.elements _ c.queue_candidates.new.queue c.self.inside.found.items
    c.in_err-queue_candidates.ensures.none

pub returns-clause-completion : goal.returns-clause-completion
returns-clause-completion g c =
    begun_completion _ _ _ _ c.self.view_is c.requires.completion c.requires.not_begun c.extend_to.new.self
    c.extend_to.ensures.elements c.extend_to.ensures.basis c.requires.small
    c.in_ok-extend_to.ensures.quotient c.in_ok-extend_to.ensures.words c.queue_candidates.new.queue
    c.queue_candidates.ensures.others
    c.in_ok-found.found.items c.in_ok-found.ensures.words c.in_ok-found.ensures.rights _
    (ap length c.as_slice-count.ensures.value) c.in_ok-queue_candidates.ensures.candidates

pub returns-clause-candidates : goal.returns-clause-candidates
returns-clause-candidates g c =
    next_candidates _ _ _ _ c.self.view_is c.requires.completion c.requires.not_begun c.queue_candidates.new.queue _ _
    (ap length c.as_slice-count.ensures.value) c.in_ok-queue_candidates.ensures.candidates

pub returns-clause-kept : goal.returns-clause-kept
returns-clause-kept g c =
    next_kept _ _ _ _ c.self.view_is c.requires.completion c.requires.not_begun c.extend_to.new.self
    c.extend_to.ensures.elements true c.queue_candidates.new.queue c.in_ok-found.found.items

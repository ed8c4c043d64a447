use Rattle.completion.proofs.Taking.{found_degree, found_minimal, generator_completion, generator_kept, opened_values, word_completion, word_kept, word_treated}
use Rattle.completion.proofs.completion.Completion.take_candidate.Goals as goal

pub insert_generator-requires-clause-values : goal.insert_generator-requires-clause-values
insert_generator-requires-clause-values g c =
    opened_values _ _ _ _ c.self.view_is c.requires.completion c.requires.begun

pub insert_found-requires-clause-values : goal.insert_found-requires-clause-values
insert_found-requires-clause-values g c = opened_values _ _ _ _ c.self.view_is c.requires.completion c.requires.begun

pub insert_found-requires-clause-word : goal.insert_found-requires-clause-word
insert_found-requires-clause-word g c =
    found_minimal _ _ _ _ c.self.view_is c.requires.completion c.requires.begun c.growing.ensures.minimal
    c.args.candidate c.requires.candidate c.in-Word.j c.in-Word.is c.index_mut.result.now c.index_mut.ensures.value

pub insert_found-requires-clause-same_degree : goal.insert_found-requires-clause-same_degree
insert_found-requires-clause-same_degree g c =
    found_degree _ _ _ _ c.self.view_is c.requires.completion c.requires.begun c.growing.ensures.minimal
    c.args.candidate c.requires.candidate c.in-Word.j c.in-Word.is c.index_mut.result.now c.index_mut.ensures.value

pub returns-in-Generator-clause-completion : goal.returns-in-Generator-clause-completion
returns-in-Generator-clause-completion g c =
    generator_completion _ _ _ _ c.self.view_is c.requires.completion c.requires.begun
    c.insert_generator.new.basis c.insert_generator.new.values c.max-self-inside.result c.max-self-inside.ensures
    c.insert_generator.ensures.inserted

pub returns-in-Generator-clause-kept : goal.returns-in-Generator-clause-kept
returns-in-Generator-clause-kept g c =
    generator_kept _ _ _ _ c.self.view_is c.requires.completion c.requires.begun
    c.insert_generator.new.basis c.insert_generator.new.values c.max-self-inside.result c.max-self-inside.ensures
    c.insert_generator.ensures.inserted

pub returns-in-Word-clause-completion : goal.returns-in-Word-clause-completion
returns-in-Word-clause-completion g c =
    let e = c.insert_found.ensures in
    word_completion _ _ _ _ c.self.view_is c.requires.completion c.requires.begun c.growing.ensures.minimal
    c.args.candidate c.requires.candidate c.in-Word.j c.in-Word.is c.index_mut.result.now c.index_mut.ensures.value
    c.insert_found.new.found e.word c.insert_found.new.basis c.insert_found.new.values c.max-self-inside.result
    c.max-self-inside.ensures e.inserted e.right

pub returns-in-Word-clause-treated : goal.returns-in-Word-clause-treated
returns-in-Word-clause-treated g c =
    let e = c.insert_found.ensures in
    word_treated _ _ _ _ c.self.view_is c.requires.completion c.requires.begun c.growing.ensures.minimal
    c.args.candidate c.requires.candidate c.in-Word.j c.in-Word.is c.index_mut.result.now c.index_mut.ensures.value
    c.insert_found.new.found e.word c.insert_found.new.basis c.insert_found.new.values c.max-self-inside.result
    c.max-self-inside.ensures e.inserted e.right
    c.growing.ensures.values c.insert_found.result e.combination

pub returns-in-Word-clause-kept : goal.returns-in-Word-clause-kept
returns-in-Word-clause-kept g c =
    let e = c.insert_found.ensures in
    word_kept _ _ _ _ c.self.view_is c.requires.completion c.requires.begun c.growing.ensures.minimal c.args.candidate
    c.requires.candidate c.in-Word.j c.in-Word.is c.index_mut.result.now c.index_mut.ensures.value
    c.insert_found.new.found e.word c.insert_found.new.basis c.insert_found.new.values c.max-self-inside.result
    c.max-self-inside.ensures e.inserted e.right

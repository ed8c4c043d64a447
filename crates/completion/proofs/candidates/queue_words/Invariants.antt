use Rattle.std.proofs.Common.{◌≡◌, ◌++◌}
use Rattle.std.specs.Prelude.{map}
use Rattle.std.specs.List.{range_with_len}
use Rattle.degree_queue.specs.DegreeQueue.{list_of, SameElsewhere}
use Rattle.completion.specs.declared.candidates.Candidate.TheVariants.{Word}
use Rattle.completion.proofs.candidates.queue_words.Given as goal

abbrev pub invariant-words : goal.invariant-words
invariant-words l = record {
  words : list_of l.queue l.d ≡ list_of l.initial.queue l.d ++ map Word (range_with_len 0 l.j);
  others : SameElsewhere l.d l.initial.queue l.queue;
}

use Rattle.std.proofs.Common.{◌≡◌, ◌≤◌, ◌+◌, ◌++◌, length}
use Rattle.std.specs.Prelude.{reverse, vec_capacity}
use Rattle.completion.specs.Closing.{relations_of}
use Rattle.completion.proofs.closing.push_relations.Given as goal

abbrev pub invariant-words : goal.invariant-words
invariant-words g l = record {
  whole : l.relations.items ++ relations_of (reverse l.words.items)
      (reverse l.rights.items) ≡ l.fn.relations.items ++ relations_of l.fn.found.items l.fn.sides.items;
  room : length l.relations.items + length l.words.items ≤ vec_capacity l.relations;
}

abbrev pub decreases-words : goal.decreases-words
decreases-words g l = length l.words.items

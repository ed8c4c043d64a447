use Rattle.std.proofs.Common.{◌≡◌, ◌+◌, [], length}
use Rattle.linked_terms.proofs.term_chain.TermChain.clear.Given as goal

abbrev pub invariant-loop-removed : goal.invariant-loop-removed
invariant-loop-removed g l =
    let i = l.self-inside.list in
    let j = l.initial.self-inside.list in
    record {
      start : i.before ≡ [];
      count : length i.after + i.spare ≡ length j.after + j.spare;
    }

abbrev pub decreases-loop-removed : goal.decreases-loop-removed
decreases-loop-removed g l = length l.self-inside.list.after

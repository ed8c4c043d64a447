use Rattle.std.proofs.Common.{◌≡◌, ◌+◌, ◌-◌, ◌≤◌, ◌++◌, [], replicate, vec_len, vec_capacity}
use Rattle.degree_queue.specs.DegreeStacks.{lists_in}
use Rattle.degree_queue.proofs.stacks.DegreeStacks.reach.Given as goal

abbrev pub invariant-missing : goal.invariant-missing
invariant-missing g l =
    (lists_in l.self-inside.stacks.items ≡ lists_in l.initial.self-inside.stacks.items ++ replicate l._stack []) × (vec_len l.self-inside.stacks + (l.missing - l._stack) ≤ vec_capacity l.self-inside.stacks)

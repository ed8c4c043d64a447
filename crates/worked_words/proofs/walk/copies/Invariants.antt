use Rattle.std.proofs.Common.{◌≡◌, take}
use Rattle.worked_words.proofs.walk.copies.Given as goal

abbrev pub invariant-loop-m : goal.invariant-loop-m
invariant-loop-m l = l.copies.items ≡ take l.m-index l.list

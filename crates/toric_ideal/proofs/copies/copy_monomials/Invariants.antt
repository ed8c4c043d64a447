use Rattle.std.proofs.Common.{◌≡◌, take}
use Rattle.toric_ideal.proofs.copies.copy_monomials.Given as goal

abbrev pub invariant-loop-m : goal.invariant-loop-m
invariant-loop-m l = l.copies.items ≡ take l.m-index l.list

use Rattle.std.proofs.Common.{◌≡◌, ◌++◌, drop}
use Rattle.poly_core.specs.Text.{factors, factors_text}
use Rattle.poly_core.proofs.Texts.{factors_left}
use Rattle.poly_core.proofs.text.push_monomial.Given as goal

abbrev pub invariant-loop-i : goal.invariant-loop-i
invariant-loop-i l = l.out.items ++ factors_left l.first (factors l.names l.i (drop l.i l.m)) ≡ l.fn.out.items ++ factors_text l.names l.m

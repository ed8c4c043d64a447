use Rattle.std.proofs.Common.{◌≡◌, take}
use Rattle.monomial_order.specs.Orders.{reverse_lex}
use Rattle.monomial_order.proofs.sums.compare_reverse_lex.Given as goal

-- the places before i decide
abbrev pub invariant-loop-i : goal.invariant-loop-i
invariant-loop-i l = reverse_lex (take l.i l.a) (take l.i l.b) ≡ reverse_lex l.a l.b

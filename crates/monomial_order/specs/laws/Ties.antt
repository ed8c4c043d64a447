-- The orders by weights meet the laws, whichever way they break ties.
use Rattle.std.proofs.Common.{◌≡◌, ℕ, List, true, arith}
use Rattle.std.specs.declared.cmp.Ordering.TheVariants.{Equal}
use Rattle.monomial_order.specs.declared.tie_break.Tie.{Tie}
use Rattle.monomial_order.specs.declared.tie_break.Tie.TheVariants.{Lex, RevLex}
use Rattle.monomial_order.specs.MonomialOrder.{IsMonomialOrder}
use Rattle.monomial_order.specs.Orders.{weight_order}
use Rattle.monomial_order.specs.laws.Orders.{IsPart, lex_part, lex_equal, reverse_lex_part, reverse_lex_equal, weight_order_laws, positive_weights}
use Rattle.monomial_order.specs.Ranges.{all_between}
use Rattle.monomial_order.specs.Ties.{tie_order}

tie_part : (tie : Tie) → IsPart (tie_order tie)
tie_part Lex = lex_part
tie_part RevLex = reverse_lex_part

tie_equal : (tie : Tie) (m n : List ℕ) → tie_order tie m n ≡ Equal → m ≡ n
tie_equal Lex m n h = lex_equal m n h
tie_equal RevLex m n h = reverse_lex_equal m n h

pub weight_laws : (ws : List ℕ) (rows : List (List ℕ)) (tie : Tie) → all_between 1 64 ws ≡ true → IsMonomialOrder (weight_order ws rows (tie_order tie))
weight_laws ws rows tie h = weight_order_laws ws rows (tie_order tie) (positive_weights 1 64 ws (omega arith) h) (tie_part tie) (tie_equal tie)

-- What decides if the degrees and the rows agree.
use Rattle.std.specs.declared.cmp.Ordering.{Ordering}
use Rattle.monomial_order.specs.declared.tie_break.Tie.{Tie}
use Rattle.monomial_order.specs.declared.tie_break.Tie.TheVariants.{Lex, RevLex}
use Rattle.monomial_order.specs.Monomial.{Exponents}
use Rattle.monomial_order.specs.Orders.{lex, reverse_lex}

abbrev pub tie_order : Tie → Exponents → Exponents → Ordering
tie_order Lex = lex
tie_order RevLex = reverse_lex

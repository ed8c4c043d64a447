use Rattle.std.proofs.Common.{◌≡◌, map}
use Rattle.word_laws.specs.Words.{variables}
use Rattle.subduction.proofs.ideal_leads.variable_degrees.Given as goal

abbrev pub invariant-variables : goal.invariant-variables
invariant-variables g l = l.degrees.items ≡ map (g.O.Order.order l.o).degree (variables 0 l.i)

use Rattle.std.proofs.Common.{subst}
use Rattle.polynomial_text.proofs.GrammarFaultReads.{fault_stops}
use Rattle.polynomial_text.specs.laws.GrammarRead.{IsLineResult, line_result}
use Rattle.polynomial_text.specs.laws.GrammarReads.{line_derived}
use Rattle.polynomial_text.proofs.laws.reading_by_grammar.Goals as goal

pub returns-clause-terms : goal.returns-clause-terms
returns-clause-terms g c line ts = (
  λ e. let K = g.F.Field.ops c.args.field.now in let O = g.O.Order.order c.args.order.now in subst (IsLineResult K O c.args.names.now line) e (line_result K O c.args.names.now line),
  λ h. line_derived (g.F.Field.ops c.args.field.now) (g.O.Order.order c.args.order.now) c.args.names.now c.requires line ts h,
)

pub returns-clause-fault : goal.returns-clause-fault
returns-clause-fault g c line kind = (
  λ e. let K = g.F.Field.ops c.args.field.now in let O = g.O.Order.order c.args.order.now in subst (IsLineResult K O c.args.names.now line) e (line_result K O c.args.names.now line),
  λ h. fault_stops (g.F.Field.ops c.args.field.now) (g.O.Order.order c.args.order.now) c.args.names.now c.requires line kind h,
)

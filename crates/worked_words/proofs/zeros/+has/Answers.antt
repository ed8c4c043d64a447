use Rattle.std.proofs.Common.{sym, subst}
use Rattle.std.specs.Prelude.{Contains}
use Rattle.monomial_order.specs.laws.Lists.{contains_there}
use Rattle.worked_words.proofs.zeros.+has.Goals as goal

pub returns-else-eq : goal.returns-else-eq
returns-else-eq t c h = subst (λ xs. Contains xs c.args.z.now) (sym c.in-Some.ensures.cases.0) (contains_there c.in-Some.y.now c.in-Some.rest.now c.args.z.now (c.has.ensures h))

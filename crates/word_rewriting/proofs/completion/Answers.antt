use Rattle.std.proofs.Common.{arith}
use Rattle.monomial_order.specs.Monomial.{IsMultiple}
use Rattle.word_rewriting.specs.laws.Completion.{begins, orients, oriented_joins, pairs_above, adds, joins, ends}
use Rattle.word_rewriting.proofs.completion.Goals as goal

pub returns-clause-begin : goal.returns-clause-begin
returns-clause-begin g Z L H in_x = begins L H (IsMultiple Z) Z in_x (λ z k. (z, k, λ i. omega arith))

pub returns-clause-add : goal.returns-clause-add
returns-clause-add g Z L R listed H h t new = adds (IsMultiple Z) Z L R t listed new h

pub returns-clause-leave_out : goal.returns-clause-leave_out
returns-clause-leave_out g Z L R listed H h new = joins (IsMultiple Z) Z L R listed new h

pub returns-clause-end : goal.returns-clause-end
returns-clause-end g Z L R listed H h c = ends (IsMultiple Z) Z L H R listed c h

pub returns-clause-orient : goal.returns-clause-orient
returns-clause-orient g Z L H = orients (IsMultiple Z) Z L H

pub returns-clause-join : goal.returns-clause-join
returns-clause-join g = oriented_joins

pub returns-clause-above : goal.returns-clause-above
returns-clause-above g Z L R H rules = pairs_above L H R (λ r k. (rules r k).0)

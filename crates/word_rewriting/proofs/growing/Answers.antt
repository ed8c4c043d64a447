use Rattle.monomial_order.specs.Monomial.{IsMultiple}
use Rattle.word_rewriting.specs.laws.Rewriting.{more_joinable}
use Rattle.word_rewriting.specs.laws.MoreLeads.{rules_stay, new_letter_smaller}
use Rattle.word_rewriting.proofs.growing.Goals as goal

pub returns-clause-joinable : goal.returns-clause-joinable
returns-clause-joinable g R S h = more_joinable R S h

pub returns-clause-rules : goal.returns-clause-rules
returns-clause-rules g L leads Y Z R more rules = rules_stay L leads (IsMultiple Y) (IsMultiple Z) (λ m k. (k.0, more k.0 k.1, k.2)) R rules

pub returns-clause-letters : goal.returns-clause-letters
returns-clause-letters g L leads H new = new_letter_smaller L H leads new

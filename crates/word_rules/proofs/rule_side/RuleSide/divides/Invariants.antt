use Rattle.std.proofs.Common.{ℕ, ◌<◌, ◌≤◌, get_or}
use Rattle.monomial_order.specs.Monomial.{exponent}
use Rattle.word_rules.specs.declared.factor.Factor.{Factor}
use Rattle.word_rules.proofs.rule_side.RuleSide.divides.Given as goal

-- the letters so far have exponents that are small enough
abbrev pub invariant-letters : goal.invariant-letters
invariant-letters l = (k : ℕ) → k < l.factor-index → (d : Factor) → (get_or l.factor-items k d).exponent ≤ exponent l.word (get_or l.factor-items k d).letter

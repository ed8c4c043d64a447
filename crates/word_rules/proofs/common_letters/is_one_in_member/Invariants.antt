use Rattle.std.proofs.Common.{◌≡◌, ℕ, ◌<◌, get_or}
use Rattle.word_rules.specs.declared.factor.Factor.{Factor}
use Rattle.word_rules.specs.Members.{member_exponent}
use Rattle.word_rules.proofs.common_letters.is_one_in_member.Given as goal

-- no letter so far is in the member
abbrev pub invariant-letters : goal.invariant-letters
invariant-letters l = (k : ℕ) → k < l.factor-index → (d : Factor) → member_exponent l.left l.right l.other (get_or l.factor-items k d).letter ≡ 0

use Rattle.std.proofs.Common.{◌≡◌, sym, ◌∙◌, true, false, ⊎_elim}
use Rattle.word_rules.specs.Rules.{rule_at}
use Rattle.word_rules.proofs.CommonLetters.{by_first, by_second, by_one, told}
use Rattle.word_rules.proofs.rule_table.RuleTable.has_common_letter.Goals as goal

pub returns-then-is_one_in_member : goal.returns-then-is_one_in_member
returns-then-is_one_in_member c a b pair =
    let r = rule_at c.args.self.now c.args.i in
    let s = rule_at c.args.self.now c.args.j in
    let u = c.in-Some-Some.u.now in
    let v = c.in-Some-Some.v.now in
    let first = told c.is_one_in_member.result u c.as_slice-second.result.now c.as_slice.result.now c.as_slice-first.result.now s.left v r.left
    (c.as_slice-second.ensures.same ∙ c.left-2.ensures) (c.as_slice.ensures.same ∙ c.word.ensures)
    (c.as_slice-first.ensures.same ∙ c.left.ensures) c.is_one_in_member.ensures in (
      λ t. by_first r s u v c.in-Some-Some.ensures.some c.in-Some-Some.ensures'.some a b pair (first.0 t),
      λ h. c.if-is_one_in_member.true,
    )

pub returns-else-is_one_in_member : goal.returns-else-is_one_in_member
returns-else-is_one_in_member c a b pair =
    let r = rule_at c.args.self.now c.args.i in
    let s = rule_at c.args.self.now c.args.j in
    let u = c.in-Some-Some.u.now in
    let v = c.in-Some-Some.v.now in
    let is_u = c.in-Some-Some.ensures.some in
    let is_v = c.in-Some-Some.ensures'.some in
    let is_first = c.as_slice-first.ensures.same ∙ c.left.ensures in
    let is_second = c.as_slice-second.ensures.same ∙ c.left-2.ensures in
    let first = told c.is_one_in_member.result u c.as_slice-second.result.now c.as_slice.result.now c.as_slice-first.result.now s.left v r.left
    is_second (c.as_slice.ensures.same ∙ c.word.ensures) is_first c.is_one_in_member.ensures in
    let second = told c.is_one_in_member-else-is_one_in_member.result v c.as_slice-first.result.now
    c.as_slice-else-is_one_in_member.result.now c.as_slice-second.result.now r.left u s.left
    is_first (c.as_slice-else-is_one_in_member.ensures.same ∙ c.word-else-is_one_in_member.ensures) is_second
    c.is_one_in_member-else-is_one_in_member.ensures in (
      λ t. by_second r s u v is_u is_v a b pair (second.0 t),
      λ h. ⊎_elim (λ x. absurd (let e : false ≡ true = sym c.if-is_one_in_member.false ∙ first.1 x in cc)) second.1 (by_one r s u v is_u is_v a b pair h),
    )

use Rattle.std.proofs.Common.{◌≡◌, ◌≢◌, rules, ℕ, length, sym, ◌∙◌, ap, subst}
use Rattle.std.specs.Prelude.{Contains}
use Rattle.monomial_order.specs.Monomial.{exponent}
use Rattle.word_rules.specs.Index.{IsIndexFor, IsIndexed, IsPaired, lefts_of, bucket}
use Rattle.word_rules.specs.declared.word_rule.WordRule.{WordRule}
use Rattle.word_rules.proofs.Indexes.{table_kept, table_pushed}
use Rattle.word_rules.proofs.table.Table.push.Goals as goal

pub returns-clause-indexed : goal.returns-clause-indexed
returns-clause-indexed c =
    let t = c.args.self.now in
    let u = c.push_index.new.self in
    let r : WordRule = record { left = c.args.left; right = c.args.right } in
    let same = ap (λ v. v.items) c.push_index.ensures.rules in
    let kept : IsIndexed u = table_kept t u (same ∙ c.reserve.ensures.items) c.push_index.ensures.keeps c.push_index.ensures.keeps_pairs c.requires.indexed in
    let n : c.len-i.result ≡ length c.reserve.new.self.items = search rules in
    let i : c.len-i.result ≡ length u.rules.items = n ∙ ap length (sym same) in
    subst (λ rs. IsIndexFor (lefts_of rs) u.by_letter u.by_pair) (sym c.push_reserved.ensures.items)
    (table_pushed u r kept
    (subst (λ k. (a : ℕ) → exponent r.left a ≢ 0 → Contains (bucket u.by_letter a) k) i c.in_ok-push_index.ensures.listed)
    (subst (λ k. IsPaired u.by_pair k r.left) i c.in_ok-push_index.ensures.paired))

use Rattle.std.proofs.Common.{◌≡◌, length, rules, arith}
use Rattle.word_rules.proofs.Lefts.{row_read}
use Rattle.word_rules.proofs.table.Table.find_by_letter.Goals as goal

pub returns-then-a-len-clause-none : goal.returns-then-a-len-clause-none
returns-then-a-len-clause-none c = λ e b i h small k.
    let n : c.len.result ≡ length c.args.self.now.by_pair.rows.items = search rules in
    let l = c.if-a-len.true in
    c.find_in_row.ensures.none e b i h small (row_read c.args.self.now.by_pair c.args.a c.index.result.now (omega arith) c.index.ensures b i k)

use Rattle.std.proofs.Common.{◌≡◌, ◌≢◌, ◌≤◌, ◌+◌, [], length, get_or, sym, ◌∙◌, ap, subst, arith}
use Rattle.monomial_order.specs.Monomial.{exponent}
use Rattle.word_rules.specs.Index.{lefts_of}
use Rattle.word_rules.specs.Sharing.{IsMarked}
use Rattle.word_rules.proofs.Listing.{at_read}
use Rattle.word_rules.proofs.Shared.{AreMarkedSoFar, all_marked, more_marked, more_skipped, none_marked}
use Rattle.word_rules.proofs.table.Table.mark_letter.Goals as goal
use Rattle.word_rules.proofs.table.Table.mark_letter.Goals.{then-i-j+then-exponent-gt0+in_ok-add, else-i-j, else-i-j-via-then-i-j+else-exponent-gt0, else-i-j-via-else-i-j}

pub indexes-init : goal.indexes-init
indexes-init c = none_marked (lefts_of c.args.self.now.rules.items) c.args.letter c.args.j c.get-i-items.result.now c.args.marks.now

pub indexes-preserved : goal.indexes-preserved
indexes-preserved c =
    let lefts = lefts_of c.args.self.now.rules.items in
    let items = c.get-i-items.result.now in
    let n = c.indexes.i-index in
    let start = c.args.marks.now in
    let m = c.indexes.marks in
    let within = c.requires.inside in
    elim c.if-i-j.branch [
      | then-i-j+then-exponent-gt0+in_ok-add w ↦
          let q = subst (IsMarked (get_or items n 0) m) (sym w.marks-is) w.in_ok-add.ensures in
          more_marked lefts c.args.letter c.args.j items n start m c.if-i-j.marks c.indexes.invariant q w.if-i-j.true
          (subst (λ v. exponent v c.args.letter ≢ 0) (sym (at_read (λ r. r.left) [] c.args.self.now.rules.items (get_or items n 0) w.index.result.now (let l = w.if-i-j.true in omega arith) w.index.ensures))
          (λ z. (let t = w.if-exponent-gt0.true in let e = w.exponent.ensures in let q = ap (λ m. exponent m c.args.letter) w.word.ensures in omega arith)))
      | else-i-j w ↦ subst (AreMarkedSoFar lefts c.args.letter c.args.j items (n + 1) start) (sym w.marks-is)
          (more_skipped lefts c.args.letter c.args.j items n start m c.indexes.invariant
          (elim w.else-i-j.branch [
            | else-i-j-via-then-i-j+else-exponent-gt0 v ↦ λ l h.
                h (let e = at_read (λ r. r.left) [] c.args.self.now.rules.items (get_or items n 0) v.index.result.now (let k = v.if-i-j.true in omega arith) v.index.ensures in
                let z : exponent v.index.result.now.left c.args.letter ≡ 0 = (let f = v.if-exponent-gt0.false in let q = v.exponent.ensures in let m = ap (λ m. exponent m c.args.letter) v.word.ensures in omega arith) in
                ap (λ x. exponent x c.args.letter) e ∙ z)
            | else-i-j-via-else-i-j v ↦ λ l h. let k = v.if-i-j.false in omega arith
          ]))
    ]

pub returns : goal.returns
returns c =
    let t = c.args.self.now in
    let same = c.get-i-items.ensures in
    all_marked (lefts_of t.rules.items) c.args.letter c.args.j t.by_letter t.by_pair c.indexes.i-index c.args.marks.now c.indexes.marks c.requires.indexed
    (subst (λ xs. length xs ≤ c.indexes.i-index) same c.indexes-test.false)
    (subst (λ xs. AreMarkedSoFar (lefts_of t.rules.items) c.args.letter c.args.j xs c.indexes.i-index c.args.marks.now c.indexes.marks) same c.indexes.invariant)

use Rattle.std.proofs.lemmas.Result.{err_from_is_err_and}
use Rattle.presentation_text.specs.Giving.{head_of}
use Rattle.presentation_text.proofs.Counting.{counted_is, counted_err, count_small}
use Rattle.presentation_text.proofs.polys.counted.Goals as goal

pub returns-in_err-n-clause-fault : goal.returns-in_err-n-clause-fault
returns-in_err-n-clause-fault g c =
    let p = err_from_is_err_and c.from_residual.result c.from_residual.ensures.1 in
    rw (p.1, p.2) (counted_err (g.F.Field.ops c.args.f.now) c.args.lines.now.missing (head_of c.args.h.now) c.args.key.now c.args.constant c.args.lines.now.left c.in_err-n.field-0.0 c.in_err-n.ensures.read)

pub several-requires-clause-few : goal.several-requires-clause-few
several-requires-clause-few g c = count_small c.args.lines.now.missing c.args.key.now c.args.lines.now.left (c.in_ok-n.n, c.count.new.lines.left) c.in_ok-n.ensures.read

pub returns-clause-read : goal.returns-clause-read
returns-clause-read g c =
    rw (counted_is (g.F.Field.ops c.args.f.now) c.args.lines.now.missing (head_of c.args.h.now) c.args.key.now c.args.constant c.args.lines.now.left c.in_ok-n.n c.count.new.lines.left c.in_ok-n.ensures.read)
    (rw c.in_ok-n.ensures.missing at c.several.ensures.read)

pub returns-clause-fault : goal.returns-clause-fault
returns-clause-fault g c =
    rw (counted_is (g.F.Field.ops c.args.f.now) c.args.lines.now.missing (head_of c.args.h.now) c.args.key.now c.args.constant c.args.lines.now.left c.in_ok-n.n c.count.new.lines.left c.in_ok-n.ensures.read)
    (rw c.in_ok-n.ensures.missing at c.several.ensures.fault)

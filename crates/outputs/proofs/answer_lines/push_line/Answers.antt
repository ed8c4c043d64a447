use Rattle.std.proofs.Common.{subst}
use Rattle.poly_core.specs.laws.Text.{decreasing_named, decreasing_values}
use Rattle.witness.specs.Tracking.{by_order}
use Rattle.membership.specs.Answer.{IsCanonicalReply}
use Rattle.completion.specs.laws.Printing.{named_all}
use Rattle.outputs.proofs.answer_lines.push_line.Goals as goal

pub push_poly-requires-clause-values : goal.push_poly-requires-clause-values
push_poly-requires-clause-values g c =
    let p = c.args.p.now in
    let K = g.F.Field.ops p.field in
    let W = by_order p.gen_order in
    let h = subst (IsCanonicalReply K (g.O.Order.order p.order) W) c.in-Member.is c.requires.canonical in
    decreasing_values K W c.in-Member.h h.decreasing

pub push_poly-requires-clause-named : goal.push_poly-requires-clause-named
push_poly-requires-clause-named g c = named_all 103 c.in-Member.h

pub push_poly-requires-in-No-clause-values : goal.push_poly-requires-in-No-clause-values
push_poly-requires-in-No-clause-values g c =
    let p = c.args.p.now in
    let K = g.F.Field.ops p.field in
    let O = g.O.Order.order p.order in
    let h = subst (IsCanonicalReply K O (by_order p.gen_order)) c.in-No.is c.requires.canonical in
    decreasing_values K O c.in-No.r h.decreasing

pub push_poly-requires-in-No-clause-named : goal.push_poly-requires-in-No-clause-named
push_poly-requires-in-No-clause-named g c =
    let p = c.args.p.now in
    let K = g.F.Field.ops p.field in
    let O = g.O.Order.order p.order in
    let h = subst (IsCanonicalReply K O (by_order p.gen_order)) c.in-No.is c.requires.canonical in
    decreasing_named K O p.names c.requires.valid.names c.in-No.r h.decreasing

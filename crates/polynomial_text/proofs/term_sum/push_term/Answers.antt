use Rattle.polynomial_text.proofs.LineSums.{term_pushed}
use Rattle.polynomial_text.proofs.term_sum.push_term.Goals as goal

pub returns-clause-sum : goal.returns-clause-sum
returns-clause-sum g c =
    term_pushed (g.F.Field.ops c.args.f.now) (g.met.F.Field.laws c.args.f.now) c.push_poly.result c.args.stack.now.items c.push_poly.new.stack.items c.args.t c.in_ok-p.p c.in_ok-p.ensures.zero c.in_ok-p.ensures.term c.push_poly.ensures.sum

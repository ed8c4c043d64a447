use Rattle.std.proofs.Common.{◌<◌, ◌^◌, ◌++◌, length, refl, arith}
use Rattle.polynomial_text.specs.laws.NumberedNames.{numbered_differ}
use Rattle.state_text.proofs.relation_line.letters.Goals as goal

pub returns-clause-different : goal.returns-clause-different
returns-clause-different c =
    let few : length (c.args.w.now.x_degrees.items ++ c.args.w.now.s_degrees.items) < 2 ^ 64 = omega arith in
    numbered_differ (length (c.args.w.now.x_degrees.items ++ c.args.w.now.s_degrees.items)) 115 c.args.places refl few

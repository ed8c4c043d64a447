use Rattle.std.proofs.Common.{◌<◌, ◌^◌, ◌++◌, length, arith, refl}
use Rattle.polynomial_text.specs.laws.NumberedNames.{numbered_differ, paired_differ}
use Rattle.state_text.proofs.element_line.letters.Goals as goal

pub returns-in-One-clause-different : goal.returns-in-One-clause-different
returns-in-One-clause-different c =
    let few : length (c.args.w.now.x_degrees.items ++ c.args.w.now.s_degrees.items) < 2 ^ 64 = omega arith in
    numbered_differ (length (c.args.w.now.x_degrees.items ++ c.args.w.now.s_degrees.items)) 103 0 refl few

pub returns-in-Two-clause-different : goal.returns-in-Two-clause-different
returns-in-Two-clause-different c =
    let few : length (c.args.w.now.x_degrees.items ++ c.args.w.now.s_degrees.items) < 2 ^ 64 = omega arith in
    paired_differ (length (c.args.w.now.x_degrees.items ++ c.args.w.now.s_degrees.items)) 103 c.args.count 115 refl refl (λ e. omega arith) few

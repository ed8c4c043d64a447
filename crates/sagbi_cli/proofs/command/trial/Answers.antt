use Rattle.std.proofs.Common.{◌≡◌, length, arith, ap, ◌∙◌, Some}
use Rattle.std.specs.Prelude.{codes}
use Rattle.sagbi_cli.proofs.Words.{two}
use Rattle.sagbi_cli.proofs.command.trial.Goals as goal

pub returns-clause-some : goal.returns-clause-some
returns-clause-some c =
    let n = c.in_ok-number.ensures.some in
    let count : length c.args.words.now ≡ 2 = omega arith in
    (two c.args.words.now (codes "trial") _ count c.requires.first (c.get.ensures ∙ ap Some n.1), n.0)

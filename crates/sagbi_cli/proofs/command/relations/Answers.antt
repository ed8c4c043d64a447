use Rattle.std.proofs.Common.{◌≡◌, length, arith}
use Rattle.std.specs.Prelude.{codes}
use Rattle.sagbi_cli.proofs.Words.{three}
use Rattle.sagbi_cli.proofs.command.relations.Goals as goal

pub returns-clause-some : goal.returns-clause-some
returns-clause-some c =
    let n = c.in_ok-pres.ensures.some in
    let count : length c.args.words.now ≡ 3 = omega arith in
    (three c.args.words.now (codes "relations") _ _ count c.requires.first n.1 n.2, n.0)

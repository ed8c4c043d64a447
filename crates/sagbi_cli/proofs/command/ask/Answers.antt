use Rattle.std.proofs.Common.{◌≡◌, length, sym, ◌∙◌, arith}
use Rattle.std.specs.Prelude.{codes}
use Rattle.std.proofs.lemmas.Slice.Eq.{bytes_eq-Decides}
use Rattle.sagbi_cli.proofs.Words.{filled, four}
use Rattle.sagbi_cli.proofs.command.ask.Goals as goal

pub returns-clause-some : goal.returns-clause-some
returns-clause-some c =
    let n = c.in_ok-pres.ensures.some in
    let count : length c.args.words.now ≡ 4 = omega arith in (
      four c.args.words.now (codes "ask") _ _ _ count c.requires.first n.1 n.2 c.get-queries.ensures,
      n.0,
      filled _ (sym c.is_empty.ensures ∙ c.if-is_empty.false),
      λ e. let t = c.if-eq.ensures ∙ (bytes_eq-Decides c.get-queries.result.now c.in_ok-pres.pres.now).1 (sym e) in absurd cc,
    )

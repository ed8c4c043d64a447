use Rattle.sagbi_cli.proofs.Words.{are_complete, if_none, no_pick}
use Rattle.sagbi_cli.proofs.command.complete.Goals as goal

pub returns-in_err-pick-clause-none : goal.returns-in_err-pick-clause-none
returns-in_err-pick-clause-none c =
    if_none c.from_residual.result _ (no_pick c.args.words.now c.requires.first c.in_err-pick.ensures.none)

pub returns-clause-some : goal.returns-clause-some
returns-clause-some c =
    let n = c.in_ok-pres.ensures.some in
    are_complete c.args.words.now c.in_ok-pick.pick c.in_ok-pres.pres c.in_ok-pres.bound c.requires.first c.in_ok-pick.ensures.some n.0 n.1 n.2

use Rattle.std.proofs.Common.{subst}
use Rattle.sagbi_cli.specs.Ending.{Prints}
use Rattle.sagbi_cli.specs.SinkChange.{change}
use Rattle.sagbi_cli.proofs.Endings.{ends_over}
use Rattle.sagbi_cli.proofs.run.obey.Goals as goal

pub returns-in-Ok-clause-over : goal.returns-in-Ok-clause-over
returns-in-Ok-clause-over g c files known =
    ends_over files c.args.command.now c.in-Ok.text.items c.print.result _ (c.in-Ok.ensures.output files known)
    (subst (λ text. Prints text c.print.result (change g.K.Sink.taken g.K.Sink.faults c.args.out.now c.print.new.out))
    c.as_slice.ensures.value c.print.ensures.prints)

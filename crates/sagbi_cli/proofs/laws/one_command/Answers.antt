use Rattle.sagbi_cli.proofs.OneCommand.{one_command}
use Rattle.sagbi_cli.proofs.laws.one_command.Goals as goal

pub returns : goal.returns
returns c words a b = one_command words a b

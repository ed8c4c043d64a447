use Rattle.std.proofs.Common.{inr}
use Rattle.sagbi_cli.proofs.Putting.{takes_or_fails}
use Rattle.sagbi_cli.proofs.run.run.Goals as goal

pub returns-in-Some-clause-ends : goal.returns-in-Some-clause-ends
returns-in-Some-clause-ends g c = record {
  outcome = c.obey-outcome.result;
  status_is = c.status.ensures;
  notes = takes_or_fails c.put_line.result _ _ c.put_line.ensures.takes;
  only_output = c.obey-outcome.ensures.only_output;
  asked = inr (record {
    command = c.in-Some.command;
    words_are = c.in-Some.ensures.some;
    known = c.obey-outcome.ensures.over;
  });
}

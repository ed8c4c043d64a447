use Rattle.presentation_text.proofs.ContentLines.{lines_last, lines_next}
use Rattle.presentation_text.proofs.lines.first_line.Goals as goal

pub returns-in-empty-clause-lines : goal.returns-in-empty-clause-lines
returns-in-empty-clause-lines c = rw c.split.ensures.front (lines_last c.args.bytes.now c.split.result.1.now c.requires c.split.ensures.behind c.in-empty.len_below)

pub returns-in-len1-up-clause-lines : goal.returns-in-len1-up-clause-lines
returns-in-len1-up-clause-lines c = rw c.split.ensures.front (lines_next c.args.bytes.now c.split.result.1.now c.requires c.split.ensures.behind c.in-len1-up.len_at_least)

use Rattle.presentation_text.specs.Heading.{field_line}
use Rattle.presentation_text.specs.Sizes.{is_known}
use Rattle.presentation_text.proofs.NextLines.{next_gives}
use Rattle.presentation_text.proofs.head.field.Goals as goal

pub returns-clause-read : goal.returns-clause-read
returns-clause-read c =
    next_gives (field_line (is_known c.args.known)) (λ q. q) c.args.lines.now.missing c.in_ok-line.line.number c.in_ok-line.line.bytes.now c.args.lines.now.left c.needed_line.new.self.left
    c.field_line.result c.located.result c.in_ok-line.ensures.line c.field_line.ensures c.located.ensures

use Rattle.presentation_text.proofs.NameTokens.{name_is_utf8}
use Rattle.presentation_text.proofs.fixed_lines.push_name.Goals as goal

pub unreachable-requires : goal.unreachable-requires
unreachable-requires c = c.in-Err.ensures.cases.0 (name_is_utf8 c.args.token.now c.requires)

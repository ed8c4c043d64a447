use Rattle.std.proofs.Common.{sym, ap, ◌∙◌}
use Rattle.std.specs.Option.{option_map}
use Rattle.presentation_text.specs.Lines.{tokens}
use Rattle.presentation_text.proofs.NameTokens.{names_form}
use Rattle.presentation_text.proofs.fixed_lines.vars_line.Goals as goal

pub name_table-requires : goal.name_table-requires
name_table-requires c = (names_form (tokens c.args.line.now) c.in_ok-names.names (sym c.vars.ensures ∙ ap (option_map (λ w. w)) c.in_ok-names.ensures.ok_part)).each

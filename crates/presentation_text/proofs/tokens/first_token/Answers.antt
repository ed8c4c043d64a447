use Rattle.std.proofs.Common.{sym, ◌∙◌}
use Rattle.presentation_text.proofs.LineTokens.{first_token_is, no_first_token}
use Rattle.presentation_text.proofs.tokens.first_token.Goals as goal

pub returns-clause-some : goal.returns-clause-some
returns-clause-some c =
    first_token_is c.args.line.now c.behind_blanks.result.now c.split.result.0.now c.behind_blanks.ensures c.split.ensures.front c.split.result.1.now c.split.ensures.behind (sym c.is_empty.ensures ∙ c.if-is_empty.false)

pub returns-then-is_empty-clause-none : goal.returns-then-is_empty-clause-none
returns-then-is_empty-clause-none c =
    no_first_token c.args.line.now c.behind_blanks.result.now c.split.result.0.now c.behind_blanks.ensures c.split.ensures.front (sym c.is_empty.ensures ∙ c.if-is_empty.true)

use Rattle.polynomial_text.proofs.LineParts.{factors_last, factors_next}
use Rattle.polynomial_text.proofs.line_parts.factor_part.Goals as goal

pub returns-in-empty-clause-parts : goal.returns-in-empty-clause-parts
returns-in-empty-clause-parts c = rw c.split.ensures.front (factors_last c.args.text.now c.split.result.1.now c.split.ensures.behind c.in-empty.len_below)

pub returns-in-len1-up-clause-parts : goal.returns-in-len1-up-clause-parts
returns-in-len1-up-clause-parts c = rw c.split.ensures.front (factors_next c.args.text.now c.split.result.1.now c.split.ensures.behind c.in-len1-up.len_at_least)

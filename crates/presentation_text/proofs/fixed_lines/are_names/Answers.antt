use Rattle.std.proofs.Common.{sym, ◌∙◌, arith}
use Rattle.presentation_text.proofs.NameTokens.{form_next, form_bad, form_many, form_over}
use Rattle.presentation_text.proofs.fixed_lines.are_names.Goals as goal

pub returns-then-count-ge-NAMES_MAX : goal.returns-then-count-ge-NAMES_MAX
returns-then-count-ge-NAMES_MAX c = form_many c.loop-token.count c.loop-token.tokens c.next.new.self c.in-Some.token.now c.in-Some.ensures.some c.if-count-ge-NAMES_MAX.true ∙ c.loop-token.invariant.same

pub returns-then-not-is_name : goal.returns-then-not-is_name
returns-then-not-is_name c = form_bad c.loop-token.count c.loop-token.tokens c.next.new.self c.in-Some.token.now c.in-Some.ensures.some (sym c.is_name.ensures ∙ c.if-not-is_name.true) ∙ c.loop-token.invariant.same

pub loop-token-preserved : goal.loop-token-preserved
loop-token-preserved c = record {
  same = form_next c.loop-token.count c.loop-token.tokens c.next.new.self c.in-Some.token.now c.in-Some.ensures.some (sym c.is_name.ensures ∙ c.if-not-is_name.false) ∙ c.loop-token.invariant.same;
  few = omega (arith, c.if-count-ge-NAMES_MAX.false);
}

pub returns : goal.returns
returns c = form_over c.loop-token.count c.loop-token.tokens c.in_default.ensures.none c.loop-token.invariant.few ∙ c.loop-token.invariant.same

use Rattle.std.proofs.Common.{◌∙◌}
use Rattle.polynomial_text.proofs.LinePowers.{power_read, zeros_before}
use Rattle.polynomial_text.proofs.term_line.power.Goals as goal

pub returns : goal.returns
returns c =
    power_read c.args.place c.args.exponent c.from_places.result c.deref.result.now
    (c.deref.ensures.value ∙ zeros_before c.new-exponents.result.items c.resize.new.self.items c.push.new.self.items c.args.place c.args.exponent _ c.new-exponents.ensures.items c.new-exponents.ensures.len c.in_ok-resize.ensures.items c.in_ok-push.ensures.items)
    c.from_places.ensures.trimmed c.from_places.ensures.exponents

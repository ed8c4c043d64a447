use Rattle.std.proofs.Common.{◌≡◌, ◌++◌, drop}
use Rattle.state_text.specs.StateText.{element_lines}
use Rattle.state_text.proofs.writing.push_elements.Given as goal

-- with the lines that are left, the text is the old one with all lines
abbrev pub invariant-lines : goal.invariant-lines
invariant-lines g l =
    let K = g.F.Field.ops l.f in
    l.text.items ++ element_lines K l.names l.letters (drop l.t-index l.elements) ≡
    l.initial.text.items ++ element_lines K l.names l.letters l.elements

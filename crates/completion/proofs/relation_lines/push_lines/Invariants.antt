use Rattle.std.proofs.Common.{◌≡◌, ◌++◌, drop}
use Rattle.completion.specs.RelationLines.{relation_lines}
use Rattle.completion.proofs.relation_lines.push_lines.Given as goal

-- with the lines that are left, the text is the old one with all lines
abbrev pub invariant-lines : goal.invariant-lines
invariant-lines g l =
    let K = g.F.Field.ops l.f in
    l.text.items ++ relation_lines K l.names (drop l.relation-index l.relations) ≡
    l.initial.text.items ++ relation_lines K l.names l.relations

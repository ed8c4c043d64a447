use Rattle.std.proofs.Common.{◌≡◌, ◌++◌, length, true}
use Rattle.std.specs.List.{list_all, IsDistinct}
use Rattle.std.specs.Str.{bytes_eq}
use Rattle.presentation_text.specs.Heading.{is_name}
use Rattle.presentation_text.proofs.fixed_lines.name_table.Given as goal

abbrev pub invariant-loop-token : goal.invariant-loop-token
invariant-loop-token l = record {
  whole : l.names ++ l.tokens ≡ l.line;
  each : list_all is_name l.tokens ≡ true;
  distinct : IsDistinct bytes_eq l.names;
}

abbrev pub decreases-loop-token : goal.decreases-loop-token
decreases-loop-token l = length l.tokens

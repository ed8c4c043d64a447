use Rattle.std.proofs.Common.{sym, ◌∙◌, subst}
use Rattle.std.specs.List.{IsDistinct}
use Rattle.std.specs.Str.{bytes_eq}
use Rattle.std.specs.String.{string_bytes}
use Rattle.poly_core.proofs.NameLists.{same_names}
use Rattle.poly_core.proofs.name_table.NameTable.copy.Goals as goal

pub invariant_of-result : goal.invariant_of-result
invariant_of-result c = subst (IsDistinct bytes_eq) (sym (same_names string_bytes c.self.inside.names.keys c.in_ok-clone.field-0.keys c.in_ok-clone.ensures.cases)) c.self.invariant

pub returns : goal.returns
returns c = same_names string_bytes c.self.inside.names.keys c.in_ok-clone.field-0.keys c.in_ok-clone.ensures.cases ∙ c.self.view_is

-- Names as bytes: what a map has under another name, after an insert.
use Rattle.std.proofs.Common.{◌≡◌, List, ℕ, true, cond, Some, sym, ap, ◌∙◌}
use Rattle.std.proofs.lemmas.Map.Text.{is_eq-slice_cmp}
use Rattle.std.proofs.lemmas.Slice.Eq.{bytes_eq-Decides}
use Rattle.std.specs.FinMap as files
use Rattle.std.specs.FinMap.{get-insert}
use Rattle.std.specs.Ordering.{nat_cmp, eq_by_cmp}
use Rattle.std.specs.Cmp.{eq_by_cmp_equiv}
use Rattle.std.specs.Cmp.Lexicographic.{slice_cmp, nat_list_cmp_total}
use Rattle.std.specs.Str.{bytes_eq}
use Rattle.shelf_io.specs.Shelf.{Files}

same_test : (name other : List ℕ) → eq_by_cmp (slice_cmp nat_cmp) other name ≡ bytes_eq name other
same_test name other = sym ((eq_by_cmp_equiv nat_list_cmp_total).symm name other) ∙ is_eq-slice_cmp name other

pub get-insert_name : (held : Files) (name bytes other : List ℕ) →
    files.get (files.insert held name bytes) other ≡ cond (bytes_eq name other) (Some bytes) (files.get held other)
get-insert_name held name bytes other =
    get-insert nat_list_cmp_total held name bytes other
    ∙ ap (λ b. cond b (Some bytes) (files.get held other)) (same_test name other)

pub same_name : (name other : List ℕ) → bytes_eq name other ≡ true → name ≡ other
same_name name other e = (bytes_eq-Decides name other).0 e

pub same_bytes : (name other : List ℕ) → name ≡ other → bytes_eq name other ≡ true
same_bytes name other e = (bytes_eq-Decides name other).1 e

use Rattle.std.proofs.Common.{◌≡◌, ℕ, List, sym, ◌∙◌}
use Rattle.std.proofs.lemmas.Bool.{true≢false}
use Rattle.std.proofs.lemmas.Bool.Decides.{Decides-eqb}
use Rattle.std.proofs.lemmas.Slice.Eq.{slice_eq-Decides}
use Rattle.poly_core.specs.Text.{poly_text}
use Rattle.poly_core.specs.laws.Text.{decreasing_values}
use Rattle.polynomial_text.proofs.CanonicalReading.{poly_named, canonical_found, canonical_no_fault, canonical_only}
use Rattle.polynomial_text.proofs.canonical.read_canonical.Goals as goal

-- a text that is equal to another one
chain : (line text canonical written : List ℕ) → text ≡ line → text ≡ canonical → canonical ≡ written → line ≡ written
chain line text canonical written h k l = sym h ∙ (k ∙ l)

pub returns-in-Err-Kind : goal.returns-in-Err-Kind
returns-in-Err-Kind g c =
    canonical_no_fault (g.F.Field.ops c.args.f.now) (g.met.F.Field.laws c.args.f.now) (g.O.Order.order c.args.o.now) (g.met.O.Order.laws c.args.o.now) c.args.names.now c.args.line.now c.has_short_words.ensures c.requires c.in-Err-Kind.field-0-0 (rw c.in-Err-Kind.field-0-is at c.in-Err-Kind.ensures.fault)

pub write-requires-clause-values : goal.write-requires-clause-values
write-requires-clause-values g c =
    decreasing_values (g.F.Field.ops c.args.f.now) (g.O.Order.order c.args.o.now) c.in-Ok.found c.in-Ok.ensures.read.canonical.decreasing

pub write-requires-clause-named : goal.write-requires-clause-named
write-requires-clause-named g c =
    poly_named (g.F.Field.ops c.args.f.now) (g.met.F.Field.laws c.args.f.now) (g.O.Order.order c.args.o.now) (g.met.O.Order.laws c.args.o.now) c.args.names.now c.args.line.now c.in-Ok.found c.in-Ok.ensures.read

pub returns-then-eq : goal.returns-then-eq
returns-then-eq g c =
    let same : c.as_slice.result.now ≡ c.args.line.now = (slice_eq-Decides Decides-eqb _ _ _ c.eq.ensures).0 c.if-eq.true in
    canonical_found (g.F.Field.ops c.args.f.now) (g.met.F.Field.laws c.args.f.now) (g.O.Order.order c.args.o.now) (g.met.O.Order.laws c.args.o.now) c.args.names.now c.args.line.now c.in-Ok.found c.in-Ok.ensures.read
    (chain c.args.line.now c.as_slice.result.now c.in_ok-text.text.items (poly_text (g.F.Field.ops c.args.f.now) c.args.names.now c.in-Ok.found) same c.as_slice.ensures.value c.in_ok-text.ensures)

pub returns-else-eq : goal.returns-else-eq
returns-else-eq g c q k =
    let is = canonical_only (g.F.Field.ops c.args.f.now) (g.met.F.Field.laws c.args.f.now) (g.O.Order.order c.args.o.now) (g.met.O.Order.laws c.args.o.now) c.args.names.now c.args.line.now c.has_short_words.ensures c.requires c.in-Ok.found c.in-Ok.ensures.read q k in
    let same = chain c.as_slice.result.now c.in_ok-text.text.items (poly_text (g.F.Field.ops c.args.f.now) c.args.names.now c.in-Ok.found) c.args.line.now (sym c.as_slice.ensures.value) c.in_ok-text.ensures (sym is) in
    let yes = (slice_eq-Decides Decides-eqb _ _ _ c.eq.ensures).1 same in
    let no = c.if-eq.false in
    absurd (true≢false (sym yes ∙ no))

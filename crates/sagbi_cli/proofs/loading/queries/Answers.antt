use Rattle.std.proofs.Common.{subst, sym}
use Rattle.std.specs.FinMap as map
use Rattle.poly_core.specs.Presentation.{weight_order_of}
use Rattle.presentation_text.specs.Meaning.{AreQueries, IsFaultOf}
use Rattle.presentation_text.specs.Reading.{queries}
use Rattle.sagbi_cli.specs.Loading.{StopsAs}
use Rattle.sagbi_cli.specs.Outcome.{after_loading}
use Rattle.sagbi_cli.specs.declared.outcome.Outcome.TheVariants.{Done}
use Rattle.sagbi_cli.specs.declared.stop.Input.TheVariants.{Queries}
use Rattle.sagbi_cli.proofs.Loads.{stops_reading, sums_canonical}
use Rattle.sagbi_cli.proofs.loading.queries.Goals as goal

pub returns-in-Ok-clause-given : goal.returns-in-Ok-clause-given
returns-in-Ok-clause-given g c files known =
    let l = c.in_ok-bytes.ensures.loaded files known in
    let p = c.args.p.now in
    record {
      bytes = c.in_ok-bytes.bytes.items;
      found = l.found;
      short = l.short;
      read = subst (λ b. AreQueries (g.F.Field.ops p.field) (weight_order_of p.order) p.names b c.in-Ok.list.items)
          c.as_slice.ensures.value c.in-Ok.ensures.accepted;
    }

pub returns-in-Ok-clause-canonical : goal.returns-in-Ok-clause-canonical
returns-in-Ok-clause-canonical g c =
    let q = c.in-Ok.ensures.accepted in
    let p = c.args.p.now in
    sums_canonical (g.F.Field.ops p.field) (weight_order_of p.order) q.sums c.in-Ok.list.items q.polys

pub returns-clause-refused : goal.returns-clause-refused
returns-clause-refused g c files known =
    let l = c.in_ok-bytes.ensures.loaded files known in
    let p = c.args.p.now in
    let reads = queries (g.F.Field.ops p.field) (weight_order_of p.order) p.names in
    let file = map.get files c.args.name.now in
    subst (StopsAs (after_loading Queries file reads (λ _. Done))) (sym c.stop_of.ensures)
    (stops_reading Queries file reads (λ _. Done) c.in_ok-bytes.bytes.items l.found l.short c.in-Err.fault
    (subst (λ b. IsFaultOf (reads b) c.in-Err.fault) c.as_slice.ensures.value c.in-Err.ensures.refused))

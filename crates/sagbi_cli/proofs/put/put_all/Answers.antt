use Rattle.std.proofs.Common.{◌++◌, take, arith}
use Rattle.sagbi_cli.proofs.Putting.{continues-append, split-rest}
use Rattle.sagbi_cli.proofs.put.put_all.Goals as goal

pub loop-rest-preserved : goal.loop-rest-preserved
loop-rest-preserved g c =
    let inv = c.loop-rest.invariant in (
      (
        inv.0.0 ++ take c.in_ok-n.n c.loop-rest.rest.now,
        split-rest c.args.text.now inv.0.0 c.loop-rest.rest.now c.in_ok-n.n inv.0.1,
        continues-append _ _ _ inv.0.0 (take c.in_ok-n.n c.loop-rest.rest.now) inv.0.2 c.in_ok-n.ensures.taken,
      ),
      omega (arith, inv.1, c.in_ok-n.ensures.counted),
    )

use Rattle.worked_words.proofs.ZeroLists.{are_zeros_cons}
use Rattle.worked_words.proofs.zeros.+are_zeros.Goals as goal

pub returns-then-can_precede : goal.returns-then-can_precede
returns-then-can_precede t c h =
    are_zeros_cons c.args.degrees.now c.args.c c.args.zeros.now c.in-Some.z.now c.in-Some.rest.now c.in-Some.ensures.cases.0 (c.can_precede.ensures.zero c.if-can_precede.true) (c.can_precede.ensures.apart c.if-can_precede.true) (c.are_zeros.ensures h)

use Rattle.std.proofs.lemmas.Bool.Decides.{Decides-eqb}
use Rattle.std.proofs.lemmas.Slice.Eq.{strip_prefix_is}
use Rattle.state_text.proofs.Numerals.{behind_key}
use Rattle.state_text.proofs.count_line.read_count.Goals as goal

pub returns-in_err-strip_prefix : goal.returns-in_err-strip_prefix
returns-in_err-strip_prefix c =
    let h = strip_prefix_is Decides-eqb c.args.line.now c.args.key.now c.strip_prefix.result c.strip_prefix.ensures.cases in
    let k = rw c.in_err-strip_prefix.was at h in
    rw c.from_residual.ensures (λ n lt e. k _ e)

pub returns : goal.returns
returns c =
    let h = strip_prefix_is Decides-eqb c.args.line.now c.args.key.now c.strip_prefix.result c.strip_prefix.ensures.cases in
    let k = rw c.in_ok-strip_prefix.was at h in
    behind_key c.args.key.now c.args.line.now c.in_ok-strip_prefix.field-0.now k c.number.result c.number.ensures.some c.number.ensures.is c.number.ensures.none

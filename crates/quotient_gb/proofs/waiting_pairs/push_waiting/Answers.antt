use Rattle.std.proofs.Common.{sym, subst, take, take_all}
use Rattle.std.proofs.lemmas.List.{take_more}
use Rattle.quotient_gb.specs.CriticalPairs.{IsFilled}
use Rattle.quotient_gb.proofs.SPolynomials.{no_pair}
use Rattle.quotient_gb.proofs.Waiting.{filled_nothing, filled_more}
use Rattle.quotient_gb.proofs.waiting_pairs.push_waiting.Goals as goal

pub pairs-init : goal.pairs-init
pairs-init c = filled_nothing c.args.waiting.now

pub pairs-preserved : goal.pairs-preserved
pairs-preserved c =
    subst (λ xs. IsFilled c.args.waiting.now xs c.push_pair.new.waiting) (sym (take_more c.args.pairs.now c.pairs.w-index no_pair c.pairs-test.true))
    (filled_more c.args.waiting.now c.pairs.waiting c.push_pair.new.waiting (take c.pairs.w-index c.args.pairs.now) _ c.pairs.invariant c.in_ok-push_pair.ensures)

pub returns : goal.returns
returns c = subst (λ xs. IsFilled c.args.waiting.now xs c.pairs.waiting) (take_all c.pairs.w-index c.args.pairs.now c.pairs-test.false) c.pairs.invariant

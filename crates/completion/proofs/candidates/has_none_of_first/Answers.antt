use Rattle.std.proofs.Common.{refl, arith}
use Rattle.completion.specs.laws.Printing.{none_first}
use Rattle.completion.proofs.candidates.has_none_of_first.Goals as goal

pub returns : goal.returns
returns c = (λ _. none_first c.args.count c.args.w.now (λ k l. c.letters.invariant k (omega arith)), λ _. refl)

use Rattle.std.proofs.Common.{◌≡◌, ◌∙◌, sym, arith}
use Rattle.std.proofs.lemmas.Bool.Decides.{nat_tests}
use Rattle.std.proofs.lemmas.List.{nil_from_length}
use Rattle.completion.specs.Completion.{pending_of}
use Rattle.worked_completions.proofs.completions.close_by_hand.Goals as goal

pub close_degree-requires-clause-none_pending : goal.close_degree-requires-clause-none_pending
close_degree-requires-clause-none_pending c =
    let none : c.pending.result ≡ 0 = let t = c.in_ok-ensure.ensures in grind (arith, nat_tests) in
    nil_from_length (pending_of c.take_each.new.c) (sym c.pending.ensures ∙ none)

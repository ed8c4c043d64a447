use Rattle.std.specs.Prelude.{length}
use Rattle.monomial_order.specs.Monomial.{IsMultiple}
use Rattle.word_laws.specs.laws.Reducible.{multiple_closed, multiple_decided, reducible_or_not, reducible_times, reducible_exactly}
use Rattle.word_laws.proofs.reducible_word_laws.Goals as goal

pub returns-clause-decided : goal.returns-clause-decided
returns-clause-decided c zeros L H = reducible_or_not L H (IsMultiple zeros) (multiple_closed (length L.degrees) zeros) (multiple_decided (length L.degrees) zeros)

pub returns-clause-multiples : goal.returns-clause-multiples
returns-clause-multiples c zeros L H = reducible_times L H (IsMultiple zeros) (multiple_closed (length L.degrees) zeros)

pub returns-clause-minimal : goal.returns-clause-minimal
returns-clause-minimal c zeros L H = reducible_exactly L H (IsMultiple zeros) (multiple_closed (length L.degrees) zeros) (multiple_decided (length L.degrees) zeros)

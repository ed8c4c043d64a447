use Rattle.std.specs.Prelude.{ℕ, []}
use Rattle.monomial_order.specs.Monomial.{IsMultiple}
use Rattle.monomial_order.specs.laws.Lists.{contains_none}
use Rattle.word_rewriting.specs.Completeness.{AreComplete}
use Rattle.word_rewriting.specs.Samples.{sample_rules, square_and_cube}
use Rattle.word_rewriting.specs.laws.Complete.{complete_generates, zero_multiples}
use Rattle.word_rewriting.specs.laws.Completion.{ends}
use Rattle.word_rewriting.proofs.SquareAndCube as worked
use Rattle.word_rewriting.proofs.sample.Goals as goal

complete : (c : ℕ) → AreComplete [] square_and_cube sample_rules c
complete c = ends (IsMultiple []) [] square_and_cube worked.letters sample_rules [] c worked.is_completion (λ r s k. absurd (contains_none (r, s) k))

pub returns-clause-rules : goal.returns-clause-rules
returns-clause-rules g = worked.rules

pub returns-clause-reduced : goal.returns-clause-reduced
returns-clause-reduced g = worked.reduced

pub returns-clause-complete : goal.returns-clause-complete
returns-clause-complete g = complete

pub returns-clause-generates : goal.returns-clause-generates
returns-clause-generates g c =
    complete_generates (IsMultiple []) square_and_cube worked.letters sample_rules worked.rules [] c
    (zero_multiples square_and_cube [] (λ m k. absurd (contains_none m k)) c) (complete c)

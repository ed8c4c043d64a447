-- Lists of critical pairs.
use Rattle.std.proofs.Common.{ℕ, arith, List, [], inl, inr, ⊎_elim}
use Rattle.monomial_order.specs.Monomial.{Exponents}
use Rattle.monomial_order.specs.MonomialOrder.{MonomialOrder}
use Rattle.monomial_order.specs.laws.Lists.{contains_none}
use Rattle.quotient_gb.specs.declared.critical_pair.CriticalPair.{CriticalPair}
use Rattle.quotient_gb.specs.CriticalPairs.{pair_at, IsCoprimeOrListed, HasPairs}
use Rattle.quotient_gb.specs.DegreeStep.{IsPart}

module _ (O : MonomialOrder) (ms : List Exponents) where
  pub listed_more : (ws vs : List CriticalPair) (i j : ℕ) → IsPart ws vs → IsCoprimeOrListed O ms ws i j → IsCoprimeOrListed O ms vs i j
  listed_more ws vs i j more h = ⊎_elim (λ co. inl co) (λ k. inr (more (pair_at O ms i j) k)) h

  pub no_pairs : (start : ℕ) → HasPairs O ms start start []
  no_pairs start = record { each = λ w k. absurd (contains_none w k); listed = λ i j lt from below. absurd (omega arith) }

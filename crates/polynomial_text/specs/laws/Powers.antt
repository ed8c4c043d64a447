-- Powers of a variable are monomials.
use Rattle.std.proofs.Common.{◌≡◌, ℕ, zero, suc, ◌<◌, List, [], ◌∷◌, ◌++◌, length, replicate, arith}
use Rattle.std.proofs.lemmas.List.{length-append, length-replicate}
use Rattle.monomial_order.specs.Monomial.{IsTrimmed, IsMonomial}
use Rattle.polynomial_text.specs.PolyLine.{power}

abbrev pub powers : ℕ → ℕ → List ℕ
powers i e = replicate i 0 ++ (e ∷ [])

trimmed_powers : (i e : ℕ) → IsTrimmed (powers i (suc e))
trimmed_powers zero e = λ h. absurd cc
trimmed_powers (suc zero) e = λ h. absurd cc
trimmed_powers (suc (suc i)) e = trimmed_powers (suc i) e

pub trimmed_power : (i e : ℕ) → IsTrimmed (power i e)
trimmed_power i zero = tt
trimmed_power i (suc e) = trimmed_powers i e

length_powers : (i e : ℕ) → length (powers i e) ≡ suc i
length_powers i e = omega (arith, length-append (replicate i 0) (e ∷ []), length-replicate {A = ℕ} i 0)

pub power_monomial : (n i e : ℕ) → i < n → IsMonomial n (power i e)
power_monomial n i zero lt = record { trimmed = tt; within = omega arith }
power_monomial n i (suc e) lt = record { trimmed = trimmed_powers i e; within = omega (arith, length_powers i (suc e)) }

use Rattle.std.proofs.Common.{◌≡◌, ◌+◌, ◌≤◌, ◌∙◌, ℕ, zero, suc, ap, refl, List, ◌∷◌, set, arith, rules}
use Rattle.std.specs.Prelude.{IfOk, Result, Ok, Err, replicate}
use Rattle.monomial_order.specs.Monomial.{exponent, IsTrimmed}
use Rattle.monomial_order.specs.laws.Cofactors.{same_exponents}
use Rattle.power_sums.specs.PowerSums.{power}
use Rattle.power_sums.proofs.Powers.{power_trimmed}
use Rattle.power_sums.proofs.generators.power.Goals as goal

set_last : (p d : ℕ) → set (replicate (suc p) 0) p d ≡ power p d
set_last zero d = refl
set_last (suc p) d = ap (λ xs. 0 ∷ xs) (set_last p d)

exact : {E : Type 0} (r : Result (List ℕ) E) (p d : ℕ) (items slice : List ℕ) → 1 ≤ d → items ≡ replicate (p + 1) 0 → slice ≡ set items p d →
    IfOk r IsTrimmed → IfOk r (λ m. (i : ℕ) → exponent m i ≡ exponent slice i) → IfOk r (λ m. m ≡ power p d)
exact (Ok m) p d items slice some zeros put trimmed same =
    let is : slice ≡ power p d = put ∙ (ap (λ xs. set xs p d) (zeros ∙ ap (λ n. replicate n 0) (let e : p + 1 ≡ suc p = omega arith in e)) ∙ set_last p d) in
    same_exponents m (power p d) trimmed (power_trimmed p d some) (λ i. same i ∙ ap (λ xs. exponent xs i) is)
exact (Err e) p d items slice some zeros put trimmed same = tt

pub returns : goal.returns
returns c =
    let zeros : c.in_ok-exponents.exponents.items ≡ replicate (c.args.place + 1) 0 = search rules in
    exact c.from_places.result c.args.place c.args.exponent c.in_ok-exponents.exponents.items c.as_slice.result.now c.requires.positive zeros c.as_slice.ensures.value c.from_places.ensures.trimmed c.from_places.ensures.exponents

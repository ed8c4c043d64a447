use Rattle.std.proofs.Common.{◌≡◌, ◌+◌, ◌∙◌, ℕ, zero, suc, ap, refl, List, ◌∷◌, set, arith, rules}
use Rattle.std.specs.Prelude.{IfOk, Result, Ok, Err, replicate}
use Rattle.monomial_order.specs.laws.Cofactors.{same_exponents}
use Rattle.monomial_order.specs.Monomial.{exponent, variable, IsTrimmed}
use Rattle.monomial_order.specs.laws.Monomial.{variable_trimmed}
use Rattle.monomial_order.proofs.monomials.Monomial.variable.Goals as goal

set_one : (p : ℕ) → set (replicate (suc p) 0) p 1 ≡ variable p
set_one zero = refl
set_one (suc p) = ap (λ xs. 0 ∷ xs) (set_one p)

exact : {E : Type 0} (r : Result (List ℕ) E) (place : ℕ) (items slice : List ℕ) → items ≡ replicate (place + 1) 0 → slice ≡ set items place 1 →
    IfOk r IsTrimmed → IfOk r (λ m. (i : ℕ) → exponent m i ≡ exponent slice i) → IfOk r (λ m. m ≡ variable place)
exact (Ok m) p items slice z e t x =
    let q : slice ≡ variable p = e ∙ (ap (λ l. set l p 1) (z ∙ ap (λ n. replicate n 0) (let o : p + 1 ≡ suc p = omega arith in o)) ∙ set_one p) in
    same_exponents m (variable p) t (variable_trimmed p) (λ i. x i ∙ ap (λ l. exponent l i) q)
exact (Err d) p items slice z e t x = t

pub returns : goal.returns
returns c =
    let z : c.in_ok-exponents.exponents.items ≡ replicate (c.args.place + 1) 0 = search rules in
    exact c.from_places.result c.args.place c.in_ok-exponents.exponents.items c.as_slice.result.now z c.as_slice.ensures.value c.from_places.ensures.trimmed c.from_places.ensures.exponents

-- Powers of a variable, and the degrees of products with them.
use Rattle.std.proofs.Common.{◌≡◌, ℕ, zero, suc, ◌+◌, ◌*◌, ◌<◌, ◌≤◌, true, leb, List, [], ◌∷◌, ◌++◌, take, replicate, ◌-◌, refl, sym, ap, ◌∙◌, arith, Result, Ok, Err}
use Rattle.std.specs.Result.{IfOk}
use Rattle.std.proofs.lemmas.Bool.{leb-true, le-leb}
use Rattle.monomial_order.specs.Monomial.{exponent, product, variable, IsTrimmed, IsMonomial}
use Rattle.monomial_order.specs.laws.Monomial.{product-one, IsMonomial-product}
use Rattle.monomial_order.specs.MonomialOrder.{MonomialOrder, IsMonomialOrder}
use Rattle.monomial_order.specs.laws.Cofactors.{same_exponents}
use Rattle.monomial_order.specs.Limits.{degree_max}
use Rattle.monomial_order.specs.laws.Comparing.{degree_one}
use Rattle.polynomial_text.specs.PolyLine.{power}
use Rattle.polynomial_text.specs.laws.Powers.{powers, trimmed_power, power_monomial}
use Rattle.polynomial_text.specs.LineReading.{low, IsSmallMonomial}

no_exponents : (i j : ℕ) → exponent (powers i 0) j ≡ 0
no_exponents zero zero = refl
no_exponents zero (suc j) = refl
no_exponents (suc i) zero = refl
no_exponents (suc i) (suc j) = no_exponents i j

power_exponents : (i e j : ℕ) → exponent (powers i e) j ≡ exponent (power i e) j
power_exponents i zero j = no_exponents i j
power_exponents i (suc e) j = refl

pub power_is : (i e : ℕ) (m : List ℕ) → IsTrimmed m → ((j : ℕ) → exponent m j ≡ exponent (powers i e) j) → m ≡ power i e
power_is i e m trimmed same = same_exponents m (power i e) trimmed (trimmed_power i e) (λ j. same j ∙ power_exponents i e j)

product_powers : (i a b : ℕ) → product (powers i a) (powers i b) ≡ powers i (a + b)
product_powers zero a b = refl
product_powers (suc i) a b = ap (λ (m : List ℕ). 0 ∷ m) (product_powers i a b)

step : (i e : ℕ) → product (variable i) (power i e) ≡ power i (suc e)
step i zero = product-one (variable i)
step i (suc e) = product_powers i 1 (suc e) ∙ ap (powers i) (let s : 1 + suc e ≡ suc (suc e) = omega arith in s)

module _ (O : MonomialOrder) (L : IsMonomialOrder O) where
  pub degree_power : (i e : ℕ) → O.degree (power i e) ≡ e * O.degree (variable i)
  degree_power i zero = let one : O.degree [] ≡ 0 = degree_one O L in omega (arith, one)
  degree_power i (suc e) =
      let one : O.degree (power i (suc e)) ≡ O.degree (variable i) + O.degree (power i e) = ap O.degree (sym (step i e)) ∙ L.degree_product (variable i) (power i e) in
      omega (arith, one, degree_power i e)

  pub degree_with : (m : List ℕ) (i e : ℕ) → O.degree (product m (power i e)) ≡ O.degree m + e * O.degree (variable i)
  degree_with m i e = let p = L.degree_product m (power i e) in let d = degree_power i e in omega arith

  pub at_least : (m : List ℕ) (i e : ℕ) → i < O.places → e ≤ O.degree (product m (power i e))
  at_least m i e lt =
      let d = degree_with m i e in
      let one : 1 ≤ O.degree (variable i) = L.degree_positive i lt in
      let more : e ≤ e * O.degree (variable i) = grows e (O.degree (variable i)) one in
      omega arith
    where
      grows : (e d : ℕ) → 1 ≤ d → e ≤ e * d
      grows e zero h = absurd (omega arith)
      grows e (suc d) h = omega arith

  pub small_product : (m : List ℕ) (i e : ℕ) → IsMonomial O.places m → i < O.places → leb (O.degree (product m (power i e))) degree_max ≡ true → IsSmallMonomial O (product m (power i e))
  small_product m i e hm lt small = record {
    monomial = IsMonomial-product O.places m (power i e) hm (power_monomial O.places i e lt);
    small = leb-true _ _ small;
  }

  pub exponent_low : (m : List ℕ) (i e : ℕ) → i < O.places → leb (O.degree (product m (power i e))) degree_max ≡ true → e ≤ degree_max
  exponent_low m i e lt small = let low : O.degree (product m (power i e)) ≤ degree_max = leb-true _ _ small in let h = at_least m i e lt in omega arith

  pub low_one : (m : List ℕ) (i e : ℕ) → e ≡ 0 → O.degree m ≤ degree_max → low O (product m (power i e)) ≡ Ok m
  unfolding low
  low_one m i e none small = rw (none, product-one m, le-leb _ _ small) refl

-- what comes of the exponents of a power
pub power_read : {M : Type 0} (i e : ℕ) (r : Result (List ℕ) M) (exponents : List ℕ) → exponents ≡ powers i e → IfOk r IsTrimmed → IfOk r (λ m. (j : ℕ) → exponent m j ≡ exponent exponents j) → IfOk r (λ m. m ≡ power i e)
power_read i e (Ok m) exponents is trimmed same = power_is i e m trimmed (λ j. same j ∙ ap (λ (x : List ℕ). exponent x j) is)
power_read i e (Err f) exponents is trimmed same = tt

-- zeros for the places before
pub zeros_before : (old new more : List ℕ) (i e k : ℕ) → old ≡ [] → k ≡ 0 → new ≡ take i old ++ replicate (i - k) 0 → more ≡ new ++ e ∷ [] → more ≡ powers i e
zeros_before old new more i e k none zero_long is pushed =
    let front : take i old ≡ [] = ap (take i) none ∙ take_none i in
    let gap : i - k ≡ i = omega (arith, zero_long) in
    pushed ∙ ap (λ (m : List ℕ). m ++ e ∷ []) (is ∙ ap (λ (m : List ℕ). m ++ replicate (i - k) 0) front ∙ ap (λ (n : ℕ). replicate n 0) gap)
  where
    take_none : (i : ℕ) → take {A = ℕ} i [] ≡ []
    take_none zero = refl
    take_none (suc i) = refl

-- Words with zeros at the end, and steps of rewriting in place.
use Rattle.std.proofs.Common.{◌≡◌, ℕ, zero, suc, ◌+◌, ◌-◌, ◌≤◌, ◌<◌, refl, sym, ◌∙◌, ap, subst, List, [], ◌∷◌, length, replicate, max, arith, Some, None}
use Rattle.monomial_order.specs.Limits.{exponent_max}
use Rattle.monomial_order.specs.Monomial.{Exponents, exponent, least_common_multiple, product, Divides, IsTrimmed, IsMonomial}
use Rattle.monomial_order.specs.MonomialOrder.{MonomialOrder, IsMonomialOrder}
use Rattle.monomial_order.specs.laws.Monomial.{exponent-least_common_multiple, exponent-product, product_comm, IsTrimmed-product}
use Rattle.monomial_order.specs.laws.Cofactors.{cofactor, same_exponents}
use Rattle.monomial_order.specs.laws.Lists.{contains_at}
use Rattle.word_rewriting.specs.Rewriting.{RewriteRule, RewritesBy, multiple}
use Rattle.word_rewriting.specs.laws.Confluence.{IsBelow}
use Rattle.word_rules.specs.Rules.{AreDecreasing, IsSmallWord, no_rule, rule_at}
use Rattle.word_rules.specs.Trimmed.{begun_by, trim}
use Rattle.word_rules.proofs.Steps.{result_fits}

begun_exponent : (e : ℕ) (m w : List ℕ) (i : ℕ) → ((j : ℕ) → exponent m j ≡ exponent w j) → exponent (begun_by e m) i ≡ exponent (e ∷ w) i
begun_exponent zero [] w zero h = refl
begun_exponent zero [] w (suc i) h = h i
begun_exponent zero (f ∷ m) w zero h = refl
begun_exponent zero (f ∷ m) w (suc i) h = h i
begun_exponent (suc e) m w zero h = refl
begun_exponent (suc e) m w (suc i) h = h i

pub exponent-trim : (w : List ℕ) (i : ℕ) → exponent (trim w) i ≡ exponent w i
exponent-trim [] i = refl
exponent-trim (e ∷ w) i = begun_exponent e (trim w) w i (exponent-trim w)

begun_trimmed : (e : ℕ) (m : List ℕ) → IsTrimmed m → IsTrimmed (begun_by e m)
begun_trimmed zero [] t = tt
begun_trimmed zero (f ∷ m) t = t
begun_trimmed (suc e) [] t = λ z. omega arith
begun_trimmed (suc e) (f ∷ m) t = t

pub trim_trimmed : (w : List ℕ) → IsTrimmed (trim w)
trim_trimmed [] = tt
trim_trimmed (e ∷ w) = begun_trimmed e (trim w) (trim_trimmed w)

pub trim_is : (m w : List ℕ) → IsTrimmed m → ((i : ℕ) → exponent m i ≡ exponent w i) → trim w ≡ m
trim_is m w t h = same_exponents (trim w) m (trim_trimmed w) t (λ i. exponent-trim w i ∙ sym (h i))

pub divides_trim : (m w : List ℕ) → Divides m w → Divides m (trim w)
divides_trim m w d i = subst (λ e. exponent m i ≤ e) (sym (exponent-trim w i)) (d i)

pub untrim_divides : (m w : List ℕ) → Divides m (trim w) → Divides m w
untrim_divides m w d i = subst (λ e. exponent m i ≤ e) (exponent-trim w i) (d i)

-- a rule rewrites a multiple of its left side to zero
pub zero_in_place : (r : RewriteRule) (w : List ℕ) → IsTrimmed r.left → Divides r.left w → r.right ≡ None → RewritesBy r (trim w) None
zero_in_place r w t d h =
    let k = cofactor r.left (trim w) t (trim_trimmed w) (divides_trim r.left w d) in
    record { cofactor = k.0; trimmed = k.1; word = product_comm k.0 r.left ∙ k.2; result = ap (multiple k.0) h }

pub left_word : (O : MonomialOrder) (R : List RewriteRule) → AreDecreasing O R → (i : ℕ) → i < length R → IsMonomial O.places (rule_at R i).left
left_word O R decreasing i inside = (decreasing (rule_at R i) (contains_at R i no_rule inside)).left

pub left_is_trimmed : (O : MonomialOrder) (R : List RewriteRule) → AreDecreasing O R → (i : ℕ) → i < length R → IsTrimmed (rule_at R i).left
left_is_trimmed O R decreasing i inside = (left_word O R decreasing i inside).trimmed

-- a word with the exponents of the least common multiple
pub multiple_is : (a b w : List ℕ) → IsTrimmed (least_common_multiple a b) → ((p : ℕ) → exponent w p ≡ max (exponent a p) (exponent b p)) → trim w ≡ least_common_multiple a b
multiple_is a b w t h = trim_is (least_common_multiple a b) w t (λ p. exponent-least_common_multiple a b p ∙ sym (h p))

pub divides_multiple : (a b w : List ℕ) → ((p : ℕ) → exponent w p ≡ max (exponent a p) (exponent b p)) → Divides a w
divides_multiple a b w h p = let e = h p in omega arith

pub exponent-zeros : (n i : ℕ) → exponent (replicate n 0) i ≡ 0
exponent-zeros zero i = refl
exponent-zeros (suc n) zero = refl
exponent-zeros (suc n) (suc i) = exponent-zeros n i

module _ (O : MonomialOrder) (LO : IsMonomialOrder O) (R : List RewriteRule) (decreasing : AreDecreasing O R) (i : ℕ) (inside : i < length R)
    (w v : List ℕ) (small : IsSmallWord O (trim w)) (d : Divides (rule_at R i).left w) (h : (rule_at R i).right ≡ Some v) where
  left : Exponents
  left = (rule_at R i).left

  left_trimmed : IsTrimmed (rule_at R i).left
  left_trimmed = left_is_trimmed O R decreasing i inside

  pub right_word : IsMonomial O.places v
  right_word = (subst (IsBelow O (rule_at R i).left) h (decreasing (rule_at R i) (contains_at R i no_rule inside)).right).0

  rest : (k : List ℕ) × IsTrimmed k × (product (rule_at R i).left k ≡ trim w)
  rest = cofactor (rule_at R i).left (trim w) left_trimmed (trim_trimmed w) (divides_trim (rule_at R i).left w d)

  rest_exponent : (p : ℕ) → exponent w p ≡ exponent (rule_at R i).left p + exponent rest.0 p
  rest_exponent p = sym (exponent-trim w p) ∙ (ap (λ m. exponent m p) (sym rest.2) ∙ exponent-product (rule_at R i).left rest.0 p)

  in_place_fits : (p : ℕ) → (exponent w p - exponent (rule_at R i).left p) + exponent v p ≤ exponent_max
  in_place_fits p =
      let f = result_fits O LO R decreasing i (trim w) rest.0 v inside small rest.1 (product_comm rest.0 (rule_at R i).left ∙ rest.2) h p in
      let e = rest_exponent p in omega arith

  step_in_place : (u : List ℕ) → ((p : ℕ) → exponent u p ≡ (exponent w p - exponent (rule_at R i).left p) + exponent v p) → RewritesBy (rule_at R i) (trim w) (Some (trim u))
  step_in_place u e = record {
    cofactor = rest.0;
    trimmed = rest.1;
    word = product_comm rest.0 (rule_at R i).left ∙ rest.2;
    result = ap (multiple rest.0) h ∙ ap Some (same_exponents (product rest.0 v) (trim u) (IsTrimmed-product rest.0 v rest.1 right_word.trimmed) (trim_trimmed u)
        (λ p. let a = exponent-product rest.0 v p in let b = exponent-trim u p in let c = e p in let q = rest_exponent p in omega arith));
  }

  -- the words that divide and multiply w are the sides of the rule
  pub quotient_fits : (by right next : List ℕ) → by ≡ (rule_at R i).left → right ≡ v → ((p : ℕ) → exponent next p ≡ exponent w p - exponent by p) →
      (p : ℕ) → exponent next p + exponent right p ≤ exponent_max
  quotient_fits by right next eb er hn p =
      let a = hn p in
      let e = ap (λ m. exponent m p) eb in
      let f = ap (λ m. exponent m p) er in
      let fits = in_place_fits p in omega arith

  pub rewritten_in_place : (by right next u : List ℕ) → by ≡ (rule_at R i).left → right ≡ v → ((p : ℕ) → exponent next p ≡ exponent w p - exponent by p) →
      ((p : ℕ) → exponent u p ≡ exponent next p + exponent right p) → RewritesBy (rule_at R i) (trim w) (Some (trim u))
  rewritten_in_place by right next u eb er hn hu = step_in_place u (λ p.
      (let a = hn p in
      let b = hu p in
      let e = ap (λ m. exponent m p) eb in
      let f = ap (λ m. exponent m p) er in omega arith))

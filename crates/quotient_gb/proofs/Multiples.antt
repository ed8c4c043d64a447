-- Least common multiples and cofactors.
use Rattle.std.proofs.Common.{◌≡◌, ℕ, ◌+◌, ◌≤◌, sym, ◌∙◌, ap, subst, arith}
use Rattle.monomial_order.specs.Monomial.{exponent, product, least_common_multiple as lcm, IsTrimmed, IsMonomial, Exponents}
use Rattle.monomial_order.specs.MonomialOrder.{MonomialOrder, IsMonomialOrder}
use Rattle.monomial_order.specs.laws.Monomial.{exponent-product, IsTrimmed-product, IsMonomial-product, product_assoc, product_comm, length-product, exponent-least_common_multiple as exponent-lcm, IsTrimmed-least_common_multiple as IsTrimmed-lcm, IsMonomial-least_common_multiple as IsMonomial-lcm}
use Rattle.monomial_order.specs.laws.Cofactors.{cofactor, product_cancel_right}

pub divides_left : (k m : Exponents) (N : ℕ) → IsMonomial N (product k m) → IsTrimmed k → IsMonomial N k
divides_left k m N h t = record { trimmed = t; within = let w = h.within in let l = length-product k m in omega arith }

-- what two monomials have as a common multiple
pub record IsCommon (N : ℕ) (a m b n : Exponents) : Type 0 where
  pub by : Exponents
  pub left : Exponents
  pub right : Exponents
  pub by_monomial : IsMonomial N by
  pub left_monomial : IsMonomial N left
  pub right_monomial : IsMonomial N right
  pub left_is : product left m ≡ lcm m n
  pub right_is : product right n ≡ lcm m n
  pub left_by : product by left ≡ a
  pub right_by : product by right ≡ b
  pub common : product by (lcm m n) ≡ product a m

pub common : (N : ℕ) (a m b n : Exponents) → IsMonomial N a → IsMonomial N m → IsMonomial N b → IsMonomial N n → product a m ≡ product b n → IsCommon N a m b n
common N a m b n ha hm hb hn e =
    let top : IsTrimmed (lcm m n) = IsTrimmed-lcm m n hm.trimmed hn.trimmed in
    let whole : IsTrimmed (product a m) = IsTrimmed-product a m ha.trimmed hm.trimmed in
    let k = cofactor (lcm m n) (product a m) top whole (λ i.
    let p = exponent-product a m i in let q = exponent-product b n i in let l = exponent-lcm m n i in
    let r : exponent (product a m) i ≡ exponent (product b n) i = ap (λ x. exponent x i) e in omega arith) in
    let u = cofactor m (lcm m n) hm.trimmed top (λ i. let l = exponent-lcm m n i in omega arith) in
    let v = cofactor n (lcm m n) hn.trimmed top (λ i. let l = exponent-lcm m n i in omega arith) in
    let ul : product u.0 m ≡ lcm m n = product_comm u.0 m ∙ u.2 in
    let vl : product v.0 n ≡ lcm m n = product_comm v.0 n ∙ v.2 in
    let kl : product k.0 (lcm m n) ≡ product a m = product_comm k.0 (lcm m n) ∙ k.2 in
    let wl = IsMonomial-lcm N m n hm hn in
    let wm : IsMonomial N (product a m) = IsMonomial-product N a m ha hm in
    record {
      by = k.0;
      left = u.0;
      right = v.0;
      by_monomial = divides_left k.0 (lcm m n) N (subst (IsMonomial N) (sym kl) wm) k.1;
      left_monomial = divides_left u.0 m N (subst (IsMonomial N) (sym ul) wl) u.1;
      right_monomial = divides_left v.0 n N (subst (IsMonomial N) (sym vl) wl) v.1;
      left_is = ul;
      right_is = vl;
      left_by = product_cancel_right (product k.0 u.0) a m (IsTrimmed-product k.0 u.0 k.1 u.1) ha.trimmed (product_assoc k.0 u.0 m ∙ (ap (product k.0) ul ∙ kl));
      right_by = product_cancel_right (product k.0 v.0) b n (IsTrimmed-product k.0 v.0 k.1 v.1) hb.trimmed (product_assoc k.0 v.0 n ∙ (ap (product k.0) vl ∙ (kl ∙ e)));
      common = kl;
    }

-- the least common multiple has at most the degrees together
pub degree-lcm : (O : MonomialOrder) (L : IsMonomialOrder O) (N : ℕ) (m n : Exponents) → IsMonomial N m → IsMonomial N n → O.degree (lcm m n) ≤ O.degree m + O.degree n
degree-lcm O L N m n hm hn =
    let c = common N n m m n hn hm hm hn (product_comm n m) in
    let p = L.degree_product c.by (lcm m n) in
    let q : O.degree (product c.by (lcm m n)) ≡ O.degree (product n m) = ap O.degree c.common in
    let r = L.degree_product n m in
    omega arith

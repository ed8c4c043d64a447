use Rattle.std.proofs.Common.{◌≡◌, ◌≤◌, ◌-◌, List, ℕ, length, take, sym, ap, ◌∙◌, arith, rules}
use Rattle.std.specs.List.{refill}
use Rattle.monomial_order.specs.Monomial.{exponent, IsTrimmed, product, Divides}
use Rattle.monomial_order.proofs.PlaceLemmas.{refill_is, divisor_is_shorter, quotient_is}
use Rattle.monomial_order.proofs.monomials.Monomial.quotient.Goals as goal

shorter : (m b lent bs : List ℕ) → lent ≡ m → bs ≡ b → IsTrimmed b → Divides b m → length bs ≤ length lent
shorter m b lent bs e f h d = let l = divisor_is_shorter b m h d in let p = ap length e in let q = ap length f in omega arith

cofactor : (m b lent bs items rest seen result : List ℕ) (used : ℕ) → lent ≡ m → bs ≡ b → items ≡ m → IsTrimmed m → IsTrimmed b → Divides b m → length rest ≡ length lent →
    ((i : ℕ) → exponent rest i ≡ exponent lent i - exponent bs i) → seen ≡ refill (length items) items rest → IsTrimmed (take used seen) → ((i : ℕ) → used ≤ i → exponent seen i ≡ 0) →
    result ≡ take used (refill (length items) items rest) → product b result ≡ m
cofactor m b lent bs items rest seen result used e f g hm hb d l minus s trimmed zeros r =
    let same : seen ≡ rest = s ∙ refill_is items rest (l ∙ (ap length e ∙ ap length (sym g))) in
    ap (product b) (r ∙ ap (take used) (sym s)) ∙
    quotient_is m b seen used hm hb d
    (λ i. ap (λ x. exponent x i) same ∙ (minus i ∙ (ap (λ x. exponent x i - exponent bs i) e ∙ ap (λ x. exponent m i - exponent x i) f))) trimmed zeros

pub subtract_places-requires-clause-short : goal.subtract_places-requires-clause-short
subtract_places-requires-clause-short c =
    let h : Divides c.args.b.now c.args.self.now = search rules in
    shorter c.args.self.now c.args.b.now c.as_mut_slice.result.now c.as_slice-2.result.now (c.as_mut_slice.ensures.value ∙ (c.in_ok-exponents.ensures.ok ∙ c.as_slice.ensures.same)) c.as_slice-2.ensures.same
    c.as_slice-2.ensures.trimmed h

pub returns-clause-some : goal.returns-clause-some
returns-clause-some c =
    let h : Divides c.args.b.now c.args.self.now = search rules in
    let is = c.in_ok-exponents.ensures.ok ∙ c.as_slice.ensures.same in
    cofactor c.args.self.now c.args.b.now c.as_mut_slice.result.now c.as_slice-2.result.now c.in_ok-exponents.exponents.items c.subtract_places.new.rest c.as_slice-3.result.now c.truncate.new.self.items
    c.used_places-used.result (c.as_mut_slice.ensures.value ∙ is) c.as_slice-2.ensures.same is c.as_slice.ensures.trimmed c.as_slice-2.ensures.trimmed h c.subtract_places.auto.rest
    c.subtract_places.ensures c.as_slice-3.ensures c.used_places-used.ensures.trimmed c.used_places-used.ensures.zeros c.truncate.ensures.items

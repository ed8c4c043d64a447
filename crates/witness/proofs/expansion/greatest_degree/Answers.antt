use Rattle.std.proofs.Common.{◌≤◌, ◌↔◌, ℕ, length, arith, subst, sym}
use Rattle.monomial_order.specs.Monomial.{IsMonomial}
use Rattle.polynomials.specs.Polynomial.{AllAt}
use Rattle.witness.specs.Expansion.{UsesUpTo}
use Rattle.witness.proofs.Greatest.{more_terms, all_terms, term_at}
use Rattle.witness.proofs.expansion.greatest_degree.Goals as goal

pub terms-init : goal.terms-init
terms-init g c b = (λ l i d li. absurd (omega arith), λ u. omega arith)

pub greatest_letter-requires : goal.greatest_letter-requires
greatest_letter-requires g c =
    let ts = c.terms-t-items.result.now in
    term_at (IsMonomial (length c.args.w.now.s_degrees.items)) ts c.terms.t-index c.t-item.result c.terms-test.true c.t-item.is
    (subst (AllAt (IsMonomial (length c.args.w.now.s_degrees.items))) (sym c.terms-t-items.ensures) c.requires)

pub terms-preserved : goal.terms-preserved
terms-preserved g c =
    more_terms (UsesUpTo c.args.k c.args.w.now.s_degrees.items) c.terms-t-items.result.now c.terms.t-index c.terms.greatest c.greatest_letter.result c.max-greatest.result c.t-item.result
    c.terms-test.true c.t-item.is c.greatest_letter.ensures c.max-greatest.ensures c.terms.invariant

pub returns : goal.returns
returns g c =
    subst (λ ts. (b : ℕ) → c.terms.greatest ≤ b ↔ AllAt (UsesUpTo c.args.k c.args.w.now.s_degrees.items b) ts) c.terms-t-items.ensures
    (all_terms (UsesUpTo c.args.k c.args.w.now.s_degrees.items) c.terms-t-items.result.now c.terms.t-index c.terms.greatest
    (let a = c.terms-test.false in let b = c.terms.auto.t-index-end in omega arith) c.terms.invariant)

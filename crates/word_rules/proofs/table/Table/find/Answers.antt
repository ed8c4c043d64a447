use Rattle.std.proofs.Common.{◌≡◌, ◌≤◌, refl, sym, ◌∙◌, subst, get_or, below_more, arith}
use Rattle.std.specs.Prelude.{Contains}
use Rattle.std.proofs.lemmas.List.{get_or_default}
use Rattle.monomial_order.specs.Monomial.{Divides}
use Rattle.word_rules.specs.Index.{pair_bucket, lefts_of, list_at}
use Rattle.word_rules.proofs.Lefts.{left_is, none_divides}
use Rattle.word_rules.proofs.table.Table.find.Goals as goal

pub letters-preserved : goal.letters-preserved
letters-preserved c = below_more _ _ c.letters.invariant (λ b i h small k l d. c.in-None.ensures.none refl b i h small k l
    (subst (Divides (list_at (lefts_of c.args.self.now.rules.items) i)) (sym c.exponents.ensures) d))

pub returns-in-Some-clause-divides : goal.returns-in-Some-clause-divides
returns-in-Some-clause-divides c =
    subst (λ v. Divides v c.args.word.now) (left_is c.args.self.now.rules.items c.in-Some.i) (subst (Divides (list_at (lefts_of c.args.self.now.rules.items) c.in-Some.i)) c.exponents.ensures c.in-Some.ensures.divides)

pub returns-clause-none : goal.returns-clause-none
returns-clause-none c = λ e i.
    none_divides c.args.self.now c.args.word.now i c.requires c.letters-letters.result.now c.letters-letters.ensures
    (λ a h b j hb small k.
    let q : get_or c.letters-letters.result.now h.0 0 ≡ a = get_or_default c.letters-letters.result.now h.0 0 a h.1 ∙ h.2 in
    c.letters.invariant h.0 (let l = h.1 in let t = c.letters-test.false in omega arith) b j hb (subst (λ x. b ≤ x) (sym q) small)
    (subst (λ x. Contains (pair_bucket c.args.self.now.by_pair x b) j) (sym q) k))

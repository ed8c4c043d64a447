use Rattle.std.proofs.Common.{◌≡◌, ◌<◌, ◌∙◌, sym, ap, subst, length, arith, get_or, rules, vec_len}
use Rattle.std.specs.Prelude.{Contains}
use Rattle.std.proofs.lemmas.List.{get_or_default}
use Rattle.monomial_order.specs.Monomial.{exponent}
use Rattle.monomial_order.specs.laws.Lists.{contains_at}
use Rattle.word_rules.specs.Scratch.{IsListed}
use Rattle.word_rules.proofs.Scratching.{listed_without}
use Rattle.word_rules.proofs.scratch.ScratchWord.drop_letters.Goals as goal

pub index-requires-in-letters : goal.index-requires-in-letters
index-requires-in-letters c =
    let ls = c.letters.self-inside.letters.items in
    let k : c.letters.k < length ls = (let t = c.letters-test.true in let e = c.len.ensures in let m : vec_len c.letters.self-inside.letters ≡ length ls = search rules in omega arith) in
    let i = c.letters.invariant.listed.inside c.index.result.now (subst (Contains ls) (sym c.index.ensures) (contains_at ls c.letters.k c.index.result.now k)) in
    let m : vec_len c.letters.self-inside.exponents ≡ length c.letters.self-inside.exponents.items = search rules in
    omega arith

pub letters-preserved : goal.letters-preserved
letters-preserved c = record { same = c.letters.invariant.same; listed = c.letters.invariant.listed }

pub letters-preserved-then-index-eq0 : goal.letters-preserved-then-index-eq0
letters-preserved-then-index-eq0 c =
    let ls = c.letters.self-inside.letters.items in
    let es = c.letters.self-inside.exponents.items in
    let k : c.letters.k < length ls = (let t = c.letters-test.true in let e = c.len.ensures in let m : vec_len c.letters.self-inside.letters ≡ length ls = search rules in omega arith) in
    let i = c.letters.invariant.listed.inside c.index.result.now (subst (Contains ls) (sym c.index.ensures) (contains_at ls c.letters.k c.index.result.now k)) in
    let a : c.index.result.now ≡ get_or ls c.letters.k 0 = c.index.ensures ∙ get_or_default ls c.letters.k c.index.result.now 0 k in
    let z : exponent es (get_or ls c.letters.k 0) ≡ 0 = ap (exponent es) (sym a) ∙ (get_or_default es c.index.result.now 0 c.index-in-letters.result.now i ∙ (sym c.index-in-letters.ensures ∙ c.if-index-eq0.true)) in
    record {
      same = c.letters.invariant.same;
      listed = subst (IsListed es) (sym c.swap_remove.ensures.items) (listed_without es ls c.letters.k c.swap_remove.result k z c.letters.invariant.listed);
    }

pub returns : goal.returns
returns c = ap (λ v. v.items) c.letters.invariant.same ∙ c.self.view_is

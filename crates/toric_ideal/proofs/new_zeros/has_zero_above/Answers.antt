use Rattle.std.proofs.Common.{◌≡◌, ◌≤◌, ◌<◌, ◌+◌, ◌∙◌, ℕ, suc, sym, subst, List, length, length-append, take, get_or, arith, ⊎_elim}
use Rattle.std.specs.Prelude.{Contains}
use Rattle.monomial_order.specs.Monomial.{weighted_degree}
use Rattle.monomial_order.specs.laws.Lists.{contains_at}
use Rattle.toric_ideal.proofs.LetterLemmas.{x_degree}
use Rattle.toric_ideal.proofs.Members.{take_next, take_whole}
use Rattle.toric_ideal.proofs.new_zeros.has_zero_above.Goals as goal

member : (zs : List (List ℕ)) (i : ℕ) (z : List ℕ) → i < length zs → z ≡ get_or zs i z → Contains zs z
member zs i z l e = subst (Contains zs) (sym e) (contains_at zs i z l)

pub degree-requires-clause-monomial : goal.degree-requires-clause-monomial
degree-requires-clause-monomial c =
    let h = c.requires.zeros c.zero-item.result (member c.args.zeros.now c.zeros.zero-index c.zero-item.result c.zeros-test.true c.zero-item.is) in
    let n = length-append c.args.alphabet.now.order.x_degrees.items c.args.alphabet.now.order.s_degrees.items in
    record { trimmed = h.trimmed; within = let w = h.within in omega arith }

pub degree-requires-clause-small : goal.degree-requires-clause-small
degree-requires-clause-small c =
    let h = member c.args.zeros.now c.zeros.zero-index c.zero-item.result c.zeros-test.true c.zero-item.is in
    let e = x_degree c.args.alphabet.now c.requires.alphabet c.zero-item.result (c.requires.zeros c.zero-item.result h) in
    let d = c.requires.degrees c.zero-item.result h in omega arith

pub returns-then-degree-d-clause-yes : goal.returns-then-degree-d-clause-yes
returns-then-degree-d-clause-yes c _ =
    let h = member c.args.zeros.now c.zeros.zero-index c.zero-item.result c.zeros-test.true c.zero-item.is in
    let e = x_degree c.args.alphabet.now c.requires.alphabet c.zero-item.result (c.requires.zeros c.zero-item.result h) in
    let d = c.degree.ensures in let t = c.if-degree-d.true in
    (c.zero-item.result, h, omega arith)

pub zeros-preserved : goal.zeros-preserved
zeros-preserved c z k =
    let h = member c.args.zeros.now c.zeros.zero-index c.zero-item.result c.zeros-test.true c.zero-item.is in
    let e = x_degree c.args.alphabet.now c.requires.alphabet c.zero-item.result (c.requires.zeros c.zero-item.result h) in
    let d = c.degree.ensures in let f = c.if-degree-d.false in
    ⊎_elim (λ q. subst (λ x. weighted_degree c.args.alphabet.now.order.x_degrees.items x ≤ c.args.d) (c.zero-item.is ∙ q) (omega arith)) (λ b. c.zeros.invariant z b)
    (take_next c.args.zeros.now c.zeros.zero-index c.zero-item.result c.zeros-test.true z (subst (λ n. Contains (take n c.args.zeros.now) z) (let o : c.zeros.zero-index + 1 ≡ suc c.zeros.zero-index = omega arith in o) k))

pub returns-clause-no : goal.returns-clause-no
returns-clause-no c _ z k = c.zeros.invariant z (take_whole c.args.zeros.now c.zeros.zero-index (let t = c.zeros-test.false in omega (arith, t)) z k)

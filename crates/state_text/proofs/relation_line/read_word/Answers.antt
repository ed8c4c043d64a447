use Rattle.std.proofs.Common.{◌≡◌, ◌≤◌, refl, sym, subst, ◌∙◌, arith}
use Rattle.std.specs.Prelude.{IsNone}
use Rattle.monomial_order.specs.MonomialOrder.{MonomialOrder}
use Rattle.polynomial_text.specs.laws.CanonicalPoly.{canonical_one}
use Rattle.polynomial_text.specs.laws.Fronts.{nothing_left}
use Rattle.witness.specs.Tracking.{by_order}
use Rattle.witness.specs.laws.Letters.{by_laws}
use Rattle.state_text.proofs.Words.{alone, alone_is, alone_same}
use Rattle.state_text.proofs.relation_line.read_word.Goals as goal
use Rattle.state_text.proofs.relation_line.read_word.Goals.{then-places-eq0-via-then-places-eq0, then-places-eq0-via-else-places-eq0+then-c-degree}

pub returns-in_default : goal.returns-in_default
returns-in_default g c = λ m h text.
    let never = rw c.in_default.is at c.in_ok-found.ensures in
    never (alone (g.F.Field.ops c.args.f.now) (g.met.F.Field.laws c.args.f.now) m)
    (alone_is (g.F.Field.ops c.args.f.now) (g.met.F.Field.laws c.args.f.now) (by_order c.args.w.now) c.args.letters.now c.args.c c.requires.bound m h c.args.text.now text)

pub returns-in_default-2 : goal.returns-in_default-2
returns-in_default-2 g c = λ m h text.
    let K = g.F.Field.ops c.args.f.now in
    let laws = g.met.F.Field.laws c.args.f.now in
    let found = rw c.in-Some.is at c.in_ok-found.ensures in
    let one = canonical_one K laws c.has_short_words.ensures (by_order c.args.w.now) (by_laws c.args.w.now) c.args.letters.now c.requires.different c.args.text.now c.in-Some.found (alone K laws m) found
    (alone_is K laws (by_order c.args.w.now) c.args.letters.now c.args.c c.requires.bound m h c.args.text.now text) in
    c.in_ok-word.ensures.none (subst IsNone (sym c.in_default-2.is) refl) m one

pub returns-then-places-eq0 : goal.returns-then-places-eq0
returns-then-places-eq0 g c = λ m h text.
    let K = g.F.Field.ops c.args.f.now in
    let laws = g.met.F.Field.laws c.args.f.now in
    let found = rw c.in-Some.is at c.in_ok-found.ensures in
    let one = canonical_one K laws c.has_short_words.ensures (by_order c.args.w.now) (by_laws c.args.w.now) c.args.letters.now c.requires.different c.args.text.now c.in-Some.found (alone K laws m) found
    (alone_is K laws (by_order c.args.w.now) c.args.letters.now c.args.c c.requires.bound m h c.args.text.now text) in
    let word = rw c.in-Some-2.is at c.in_ok-word.ensures.some in
    let same : c.in-Some-2.word ≡ m = alone_same K laws c.in-Some-2.word m (sym word ∙ one) in
    elim c.then-places-eq0.branch [
      | then-places-eq0-via-then-places-eq0 w ↦ h.not_one (sym same ∙ nothing_left c.in-Some-2.word (let none = w.if-places-eq0.true in omega (arith, none, c.places.ensures.length)))
      | then-places-eq0-via-else-places-eq0+then-c-degree w ↦
          let most = subst (λ n. (let W : MonomialOrder = by_order c.args.w.now in W.degree n) ≤ c.args.c) (sym same) h.degree in
          omega (arith, most, w.if-c-degree.true, w.degree.ensures)
    ]

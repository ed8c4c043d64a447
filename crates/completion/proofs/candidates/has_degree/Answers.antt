use Rattle.std.proofs.Common.{◌≡◌, length, sym, subst, refl, [], true, false}
use Rattle.std.proofs.lemmas.Bool.{eq-eqb, eqb-true}
use Rattle.std.proofs.lemmas.List.{get_or_read_under}
use Rattle.polynomials.specs.Polynomial.{IsHomogeneous}
use Rattle.poly_core.specs.Presentation.{IsCanonicalGenerator}
use Rattle.witness.specs.laws.Letters.{generators_are}
use Rattle.completion.proofs.QueuedCandidates.{degree_same, same_degree, zero_not}
use Rattle.completion.proofs.candidates.has_degree.Goals as goal

pub degree-requires : goal.degree-requires
degree-requires g c =
    let p = c.args.p.now in let K = g.F.Field.ops p.field in let O = g.O.Order.order p.order in
    let fs = p.generators.items in
    let e = get_or_read_under fs c.args.i (length fs) c.index-generators-i.result []
    (rw c.as_slice-generators.ensures.value at c.index-generators-i.is) c.requires.inside refl in
    let a = subst (IsCanonicalGenerator K O) (sym e)
    (generators_are K c.requires.presentation.presentation.field O (g.met.O.Order.laws p.order) fs c.args.i
    c.requires.inside c.requires.presentation.generators.each) in
    record { canonical = (p.field, a.canonical) }

pub returns-in-Some : goal.returns-in-Some
returns-in-Some g c =
    let p = c.args.p.now in let K = g.F.Field.ops p.field in let O = g.O.Order.order p.order in
    let fs = p.generators.items in let f = c.index-generators-i.result in
    let e = get_or_read_under fs c.args.i (length fs) f []
    (rw c.as_slice-generators.ensures.value at c.index-generators-i.is) c.requires.inside refl in
    let a = subst (IsCanonicalGenerator K O) (sym e)
    (generators_are K c.requires.presentation.presentation.field O (g.met.O.Order.laws p.order) fs c.args.i
    c.requires.inside c.requires.presentation.generators.each) in
    let d = c.in-Some.ensures.greatest p.field a.canonical in (
      λ t. (
        c.requires.inside,
        subst (IsHomogeneous K O c.args.d) e
            (same_degree K O c.args.d f c.in-Some.degree a d (eqb-true c.in-Some.degree c.args.d t)),
      ),
      λ h. eq-eqb c.in-Some.degree c.args.d (degree_same K O c.args.d f c.in-Some.degree d
          (subst (IsHomogeneous K O c.args.d) (sym e) h.1)),
    )

pub returns-in-None : goal.returns-in-None
returns-in-None g c =
    let p = c.args.p.now in let K = g.F.Field.ops p.field in let O = g.O.Order.order p.order in
    let fs = p.generators.items in let f = c.index-generators-i.result in
    let e = get_or_read_under fs c.args.i (length fs) f []
    (rw c.as_slice-generators.ensures.value at c.index-generators-i.is) c.requires.inside refl in (
      λ t. absurd (never t),
      λ h. absurd (zero_not K O c.args.d f (c.in-None.ensures.zero.0 refl)
          (subst (IsHomogeneous K O c.args.d) (sym e) h.1)),
    )
  where
    never : false ≡ true → ⊥
    never t = cc

use Rattle.std.proofs.Common.{◌≤◌, sym, subst, arith, rules}
use Rattle.polynomials.specs.Polynomial.{IsCanonical, IsZeroOrHomogeneous}
use Rattle.polynomials.specs.Subalgebra.{IsNormalForm}
use Rattle.word_values.specs.Values.{IsHomogeneousElement}
use Rattle.worked_bases.specs.Rings.{of_ring}
use Rattle.worked_bases.proofs.HomogeneousElements.{homogeneous_element}
use Rattle.worked_bases.proofs.values.element.Goals as goal

pub returns : goal.returns
returns c =
    let P = of_ring c.args.p.now in
    let v = c.in_ok-value.value in
    let t = c.in-Some.first.now in
    let is = c.in-Some.ensures.first in
    let zero_or = (c.is_homogeneous.ensures c.args.p.now.field c.in_ok-value.ensures.canonical).0 c.in_ok-ensure.ensures in
    let some : 1 ≤ c.degree.result = search rules in
    let positive : 1 ≤ P.order.degree t.at = let d = c.degree.ensures in omega arith in
    subst (IsHomogeneousElement P) (sym is.1)
    (homogeneous_element P c.requires.valid.presentation t is.0 c.in_ok-a.a (subst (IsCanonical P.field P.order) is.1 c.in_ok-value.ensures.canonical)
    (subst (IsNormalForm P c.in_ok-a.a) is.1 c.in_ok-value.ensures.normal) (subst (IsZeroOrHomogeneous P.field P.order) is.1 zero_or) positive)

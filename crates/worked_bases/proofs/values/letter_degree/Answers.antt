use Rattle.std.proofs.Common.{sym, ◌∙◌, ap, [], get_or}
use Rattle.std.proofs.lemmas.List.{get_or-map}
use Rattle.std.proofs.lemmas.List.Elements.{Contains-get_or}
use Rattle.monomial_order.specs.laws.Lists.{contains_map}
use Rattle.polynomials.specs.Polynomial.{lead_monomial}
use Rattle.worked_bases.specs.Rings.{of_ring}
use Rattle.worked_bases.proofs.HomogeneousElements.{element_degree}
use Rattle.worked_bases.proofs.values.letter_degree.Goals as goal

pub degree-requires : goal.degree-requires
degree-requires c =
    let t = get_or c.args.elements.now c.args.letter c.index-elements-letter.result in
    let h = c.requires.elements t.value (contains_map (λ t. t.value) c.args.elements.now t (Contains-get_or c.args.elements.now c.args.letter c.index-elements-letter.result c.requires.letter)) in
    record { canonical = (c.args.p.now.field, h.canonical) }

pub returns : goal.returns
returns c =
    let P = of_ring c.args.p.now in
    let t = get_or c.args.elements.now c.args.letter c.index-elements-letter.result in
    let h = c.requires.elements t.value (contains_map (λ t. t.value) c.args.elements.now t (Contains-get_or c.args.elements.now c.args.letter c.index-elements-letter.result c.requires.letter)) in
    element_degree P t.value h c.in-Some.degree (c.in-Some.ensures.greatest c.args.p.now.field h.canonical) ∙
    ap (λ s. P.order.degree (lead_monomial s)) (sym (get_or-map (λ t. t.value) c.args.elements.now c.args.letter c.index-elements-letter.result [] c.requires.letter))

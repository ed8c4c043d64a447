use Rattle.std.proofs.Common.{◌≡◌, ◌-◌, ◌∙◌, sym, ap, [], arith, get_or}
use Rattle.std.proofs.lemmas.List.{get_or-map}
use Rattle.word_values.proofs.products.element.Goals as goal

pub returns : goal.returns
returns g c i e =
    let n = (g.O.Order.order c.args.p.now.order).places in
    let at : c.args.letter - c.places.result ≡ i = let a = c.places.ensures in omega arith in
    ap (λ k. (get_or c.args.elements.now k c.index-elements-letter.result).value) at ∙
    sym (get_or-map (λ t. t.value) c.args.elements.now i c.index-elements-letter.result [] (let l = c.requires.last in omega arith))

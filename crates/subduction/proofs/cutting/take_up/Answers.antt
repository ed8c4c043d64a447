use Rattle.std.proofs.Common.{◌≡◌, ◌++◌, ◌∷◌, [], ◌∙◌, ap, arith}
use Rattle.poly_core.specs.Presentation.{presented}
use Rattle.polynomials.specs.Polynomial.{degree_of}
use Rattle.subduction.proofs.CutBases.{comparable, new_lead, taken_up}
use Rattle.subduction.proofs.cutting.take_up.Goals as goal

pub lead_degree-degree-requires : goal.lead_degree-degree-requires
lead_degree-degree-requires g c =
    let P = presented g.F.Field.ops g.O.Order.order c.args.p.now in
    comparable P c.requires.presentation.presentation _ c.requires.next.1 c.args.t.now c.requires.next.2 c.requires.to

pub list_words-requires-clause-front : goal.list_words-requires-clause-front
list_words-requires-clause-front g c = (c.args.places.now, c.requires.next.0, c.requires.next.1)

pub push_lead_of-requires : goal.push_lead_of-requires
push_lead_of-requires g c =
    let P = presented g.F.Field.ops g.O.Order.order c.args.p.now in
    let d : degree_of P.order c.args.t.now.value ≡ c.list_words.new.words.degree = (let e = c.in_ok-list_words.ensures.degree in let l = c.lead_degree-degree.ensures in omega arith) in
    new_lead P c.requires.presentation.presentation _ (c.in_ok-list_words.ensures.front c.args.places.now c.requires.next.0 c.requires.next.1) c.args.t.now c.requires.next.2 d c.words.ensures.images

pub returns-clause-front : goal.returns-clause-front
returns-clause-front g c ts B N =
    let P = presented g.F.Field.ops g.O.Order.order c.args.p.now in
    let d : degree_of P.order c.args.t.now.value ≡ c.list_words.new.words.degree = (let e = c.in_ok-list_words.ensures.degree in let l = c.lead_degree-degree.ensures in omega arith) in
    taken_up P c.requires.presentation.presentation _ (c.in_ok-list_words.ensures.front c.args.places.now ts B) c.args.t.now N d c.push_lead_of.new.words c.push_place.new.self c.words_are_listed.ensures
    c.in_ok-push_lead_of.ensures.letters c.push_lead_of.ensures.zeros c.push_lead_of.ensures.degree c.push_place.ensures.x
    (c.in_ok-push_place.ensures.s ∙ ap (λ k. c.args.places.now.s_degrees.items ++ k ∷ []) c.lead_degree-degree.ensures)

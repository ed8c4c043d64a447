use Rattle.std.proofs.Common.{arith, ◌∙◌, ◌++◌, ◌∷◌, [], ap}
use Rattle.toric_ideal.proofs.LetterLemmas.{x_degree}
use Rattle.toric_ideal.proofs.PushedLead.{alphabet_pushed}
use Rattle.toric_ideal.proofs.alphabet.Alphabet.push_lead.Goals as goal

pub degree-degree-requires-clause-small : goal.degree-degree-requires-clause-small
degree-degree-requires-clause-small c = let e = x_degree c.args.self.now c.requires.alphabet c.args.m.now c.requires.lead.monomial in let s = c.requires.lead.small in omega arith

pub push_place-requires-clause-positive : goal.push_place-requires-clause-positive
push_place-requires-clause-positive c = let e = x_degree c.args.self.now c.requires.alphabet c.args.m.now c.requires.lead.monomial in let s = c.requires.lead.positive in let d = c.degree-degree.ensures in omega arith

pub push_place-requires-clause-small : goal.push_place-requires-clause-small
push_place-requires-clause-small c = let e = x_degree c.args.self.now c.requires.alphabet c.args.m.now c.requires.lead.monomial in let s = c.requires.lead.small in let d = c.degree-degree.ensures in omega arith

pub returns-clause-alphabet : goal.returns-clause-alphabet
returns-clause-alphabet c =
    let a = c.args.self.now in
    let p =
    alphabet_pushed a c.requires.alphabet c.args.m.now c.requires.lead c.degree-degree.result c.degree-degree.ensures c.push_place.new.self.x_degrees.items c.push_place.new.self.s_degrees.items c.push_reserved.new.self.items
    c.push_place.ensures.x c.in_ok-push_place.ensures.s
    (c.push_reserved.ensures.items ∙ (ap (λ ys. ys ++ c.in_ok-lead.lead ∷ []) c.reserve.ensures.items ∙ ap (λ x. a.leads.items ++ x ∷ []) c.in_ok-lead.ensures.same)) in
    record { are_leads = p.0; lead_degrees = p.1 }

use Rattle.completion.proofs.Inserting.{combination, one_inserted, same_inserted}
use Rattle.completion.proofs.insertion.push_rest.Goals as goal

pub returns-in_err-push-clause-inserted : goal.returns-in_err-push-clause-inserted
returns-in_err-push-clause-inserted g c kept values short =
    same_inserted _ c.args.basis.now c.push.new.self c.in_err-push.ensures.memory c.requires.basis kept values

pub returns-clause-inserted : goal.returns-clause-inserted
returns-clause-inserted g c kept values short =
    one_inserted _ c.requires.presentation.presentation c.args.basis.now c.args.rest c.requires.new c.push.new.self
    c.push.ensures.basis c.in_ok-push.ensures.next
    c.growing.ensures.combinations c.growing-2.ensures.values c.growing-2.ensures.degrees
    (c.in_ok-push.ensures.short short) c.push.ensures.degree c.push.ensures.quotient kept values

pub returns-clause-combinations : goal.returns-clause-combinations
returns-clause-combinations g c =
    combination _ c.requires.presentation.presentation c.args.basis.now c.args.rest c.requires.new c.push.new.self
    c.push.ensures.basis c.in_ok-push.ensures.next
    c.growing.ensures.combinations c.growing.ensures.elements c.combining.ensures.sums c.combining.ensures.multiples
    c.combining.ensures.congruent

use Rattle.completion.proofs.Inserting.{none_inserted, then_inserted, word_combined}
use Rattle.completion.proofs.insertion.insert_word.Goals as goal

pub returns-in_err-right-clause-inserted : goal.returns-in_err-right-clause-inserted
returns-in_err-right-clause-inserted g c =
    none_inserted _ _ c.requires.basis c.args.values.now c.lift_with.new.values c.lift_with.ensures.values _
    c.requires.same_degree c.lift_with.ensures.words

pub push_rest-requires-clause-new : goal.push_rest-requires-clause-new
push_rest-requires-clause-new g c =
    let fresh = rw c.in-Fresh.is at c.in_ok-right.ensures.lifted in
    c.fresh_is_new.ensures _ c.args.basis.now c.requires.presentation.presentation c.requires.basis c.args.u.now
    c.in-Fresh.rest c.requires.same_degree fresh

pub returns-in_err-push_rest-in-Fresh-clause-inserted : goal.returns-in_err-push_rest-in-Fresh-clause-inserted
returns-in_err-push_rest-in-Fresh-clause-inserted g c =
    let fresh = rw c.in-Fresh.is at c.in_ok-right.ensures.lifted in
    then_inserted _ c.args.basis.now c.push_rest.new.basis c.args.values.now c.lift_with.new.values
    c.lift_with.new.values _ c.requires.same_degree c.lift_with.ensures.words
    (c.push_rest.ensures.inserted c.lift_with.new.values c.lift_with.ensures.values fresh.short)

pub returns-in-Relation-clause-inserted : goal.returns-in-Relation-clause-inserted
returns-in-Relation-clause-inserted g c =
    none_inserted _ _ c.requires.basis c.args.values.now c.lift_with.new.values c.lift_with.ensures.values _
    c.requires.same_degree c.lift_with.ensures.words

pub returns-in_ok-push_rest-in-Fresh-clause-inserted : goal.returns-in_ok-push_rest-in-Fresh-clause-inserted
returns-in_ok-push_rest-in-Fresh-clause-inserted g c =
    let fresh = rw c.in-Fresh.is at c.in_ok-right.ensures.lifted in
    then_inserted _ c.args.basis.now c.push_rest.new.basis c.args.values.now c.lift_with.new.values
    c.lift_with.new.values _ c.requires.same_degree c.lift_with.ensures.words
    (c.push_rest.ensures.inserted c.lift_with.new.values c.lift_with.ensures.values fresh.short)

pub returns-in_ok-push_rest-in-Fresh-clause-combination : goal.returns-in_ok-push_rest-in-Fresh-clause-combination
returns-in_ok-push_rest-in-Fresh-clause-combination g c =
    let fresh = rw c.in-Fresh.is at c.in_ok-right.ensures.lifted in
    word_combined _ c.requires.presentation.presentation _ c.requires.basis c.args.u.now c.requires.same_degree
    c.in-Fresh.rest fresh c.push_rest.new.basis c.in_ok-push_rest-in-Fresh.ensures.combinations

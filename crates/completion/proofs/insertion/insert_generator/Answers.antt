use Rattle.std.proofs.Common.{◌≡◌, true, false, not, refl, sym, ◌∙◌, ap}
use Rattle.std.proofs.lemmas.Result.{on_ok_weaker}
use Rattle.completion.proofs.Generators.{generator_combined}
use Rattle.completion.proofs.Inserting.{none_inserted, then_inserted}
use Rattle.completion.proofs.insertion.insert_generator.Goals as goal

pub returns-in_err-rest-clause-inserted : goal.returns-in_err-rest-clause-inserted
returns-in_err-rest-clause-inserted g c =
    none_inserted _ _ c.requires.basis c.args.values.now c.rest_of_generator.new.values
    c.rest_of_generator.ensures.values _ refl c.rest_of_generator.ensures.words

pub returns-then-is_none-clause-inserted : goal.returns-then-is_none-clause-inserted
returns-then-is_none-clause-inserted g c =
    none_inserted _ _ c.requires.basis c.args.values.now c.rest_of_generator.new.values
    c.rest_of_generator.ensures.values _ refl c.rest_of_generator.ensures.words

pub returns-then-is_none-clause-combination : goal.returns-then-is_none-clause-combination
returns-then-is_none-clause-combination g c =
    c.in_ok-rest.ensures.rest.zero (c.lead.ensures.zero.0 (c.is_none.ensures ∙ ap not c.if-is_none.true))

pub push_rest-requires-clause-new : goal.push_rest-requires-clause-new
push_rest-requires-clause-new g c =
    c.in_ok-rest.ensures.rest.new (λ z. let e : true ≡ false = sym
    (c.is_none.ensures ∙ ap not c.if-is_none.false) ∙ c.lead.ensures.zero.1 z in cc)

pub returns-clause-inserted : goal.returns-clause-inserted
returns-clause-inserted g c =
    then_inserted _ c.args.basis.now c.push_rest.new.basis c.args.values.now c.rest_of_generator.new.values
    c.rest_of_generator.new.values _ refl c.rest_of_generator.ensures.words
    (c.push_rest.ensures.inserted c.rest_of_generator.new.values c.rest_of_generator.ensures.values
    c.in_ok-rest.ensures.rest.short)

pub returns-clause-combination : goal.returns-clause-combination
returns-clause-combination g c =
    on_ok_weaker c.push_rest.result
    (generator_combined _ c.requires.presentation.presentation _ c.requires.basis c.args.i c.requires.generator
    c.in_ok-rest.rest.value c.in_ok-rest.ensures.rest.difference c.push_rest.new.basis)
    c.push_rest.ensures.combinations

use Rattle.std.proofs.Common.{refl}
use Rattle.std.proofs.lemmas.Option.{IfSome_then}
use Rattle.monomial_order.specs.laws.Lists.{contains_right}
use Rattle.quotient_gb.proofs.Places.{no_divisor_append}
use Rattle.quotient_gb.proofs.remainder.find_reducer.Goals as goal

pub returns-in-None-clause-member : goal.returns-in-None-clause-member
returns-in-None-clause-member g c =
    let xs = c.args.before.now.members.items in
    let ys = c.args.found.now.members.items in
    IfSome_then c.reducer-in-None.result c.reducer-in-None.ensures.member (λ r k. contains_right xs ys r.now k)

pub returns-in-None-clause-none : goal.returns-in-None-clause-none
returns-in-None-clause-none g c = λ e.
    no_divisor_append c.args.before.now.members.items c.args.found.now.members.items c.args.m.now (c.in-None.ensures.none refl) (c.reducer-in-None.ensures.none e)

use Rattle.std.proofs.Common.{Some}
use Rattle.std.proofs.lemmas.List.Elements.{All-pop}
use Rattle.worked_rows.specs.Rings.{IsIn, IsLowIn}
use Rattle.worked_rows.proofs.rings.polynomial.Goals as goal

pub returns-in-Some-clause-canonical : goal.returns-in-Some-clause-canonical
returns-in-Some-clause-canonical c =
    (All-pop (IsIn c.args.p.now) c.in_ok-list.list.items c.pop.new.self.items (Some c.in-Some.a) c.in-Some.ensures.items c.in_ok-list.ensures.canonical).1

pub returns-in-Some-clause-low : goal.returns-in-Some-clause-low
returns-in-Some-clause-low c =
    (All-pop (IsLowIn c.args.p.now) c.in_ok-list.list.items c.pop.new.self.items (Some c.in-Some.a) c.in-Some.ensures.items c.in_ok-list.ensures.low).1

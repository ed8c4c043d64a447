use Rattle.polynomial_text.specs.Bytes.{is_in}
use Rattle.polynomial_text.proofs.Fronts.{front_at, behind_at, front_all, behind_all}
use Rattle.polynomial_text.proofs.byte_class.ByteClass.split.Goals as goal

pub returns-in-Some-clause-front : goal.returns-in-Some-clause-front
returns-in-Some-clause-front c = front_at (is_in c.args.self) c.args.bytes.now c.in-Some.end c.in-Some.ensures

pub returns-in-Some-clause-behind : goal.returns-in-Some-clause-behind
returns-in-Some-clause-behind c = behind_at (is_in c.args.self) c.args.bytes.now c.in-Some.end c.in-Some.ensures

pub returns-in-None-clause-front : goal.returns-in-None-clause-front
returns-in-None-clause-front c = front_all (is_in c.args.self) c.args.bytes.now c.in-None.ensures

pub returns-in-None-clause-behind : goal.returns-in-None-clause-behind
returns-in-None-clause-behind c = behind_all (is_in c.args.self) c.args.bytes.now c.in-None.ensures

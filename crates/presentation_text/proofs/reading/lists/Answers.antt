use Rattle.std.proofs.Common.{[]}
use Rattle.std.proofs.lemmas.Result.{err_from_is_err_and}
use Rattle.presentation_text.specs.Giving.{head_of}
use Rattle.presentation_text.proofs.WholeTexts.{ideal_err, generators_err, end_err, lists_are}
use Rattle.presentation_text.proofs.reading.lists.Goals as goal

pub returns-in_err-ideal-clause-fault : goal.returns-in_err-ideal-clause-fault
returns-in_err-ideal-clause-fault g c =
    let p = err_from_is_err_and c.from_residual.result c.from_residual.ensures.1 in
    rw (p.1, p.2) (ideal_err (g.F.Field.ops c.args.f.now) c.args.lines.now.missing (head_of c.args.h.now) c.args.lines.now.left c.in_err-ideal.field-0.0 c.in_err-ideal.ensures.fault)

pub returns-in_err-generators-clause-fault : goal.returns-in_err-generators-clause-fault
returns-in_err-generators-clause-fault g c =
    let p = err_from_is_err_and c.from_residual-in_err-generators.result c.from_residual-in_err-generators.ensures.1 in
    rw (p.1, p.2) (generators_err (g.F.Field.ops c.args.f.now) c.args.lines.now.missing (head_of c.args.h.now) c.args.lines.now.left c.in_ok-ideal.ensures.read.sums c.counted.new.lines.left c.in_ok-ideal.ensures.read.is
    c.in_err-generators.field-0.0 (rw c.in_ok-ideal.ensures.missing at c.in_err-generators.ensures.fault))

pub returns-in_err-ended-clause-fault : goal.returns-in_err-ended-clause-fault
returns-in_err-ended-clause-fault g c =
    let p = err_from_is_err_and c.from_residual-in_err-ended.result c.from_residual-in_err-ended.ensures.1 in
    let second = rw c.in_ok-ideal.ensures.missing at c.in_ok-generators.ensures.read in
    rw (p.1, p.2) (end_err (g.F.Field.ops c.args.f.now) c.args.lines.now.missing (head_of c.args.h.now) c.args.lines.now.left c.in_ok-ideal.ensures.read.sums c.counted.new.lines.left c.in_ok-ideal.ensures.read.is
    second.sums c.counted-2.new.lines.left second.is c.in_err-ended.field-0.0 (rw (c.in_ok-generators.ensures.missing, c.in_ok-ideal.ensures.missing) at c.in_err-ended.ensures))

pub returns-clause-read : goal.returns-clause-read
returns-clause-read g c =
    let first = c.in_ok-ideal.ensures.read in
    let second = rw c.in_ok-ideal.ensures.missing at c.in_ok-generators.ensures.read in
    record {
      ideal_sums = first.sums;
      generator_sums = second.sums;
      is = lists_are (g.F.Field.ops c.args.f.now) c.args.lines.now.missing (head_of c.args.h.now) c.args.lines.now.left first.sums c.counted.new.lines.left first.is
          second.sums c.counted-2.new.lines.left second.is [] (rw (c.in_ok-generators.ensures.missing, c.in_ok-ideal.ensures.missing) at c.in_ok-ended.ensures);
      ideal_same = first.same;
      generators_same = second.same;
      ideal_canonical = first.canonical;
      generators_canonical = second.canonical;
    }

use Rattle.std.proofs.Common.{◌≡◌, true, Ok, sym, subst, arith}
use Rattle.std.specs.declared.num.ParseIntError.{ParseIntError}
use Rattle.sagbi_cli.specs.Command.{BeginsWithDigit}
use Rattle.sagbi_cli.proofs.Decimal.{decimal_begins, decimal_read, read_decimal}
use Rattle.sagbi_cli.proofs.command.number_of.Goals as goal

pub returns-then-not-begins_with_digit-clause-none :
    goal.returns-then-not-begins_with_digit-clause-none
returns-then-not-begins_with_digit-clause-none c = λ n bound is.
    let yes : c.begins_with_digit.result ≡ true = c.begins_with_digit.ensures.1 (subst BeginsWithDigit (sym c.as_bytes.ensures.value) (decimal_begins c.args.word.now c.args.most n c.requires bound is)) in absurd cc

pub returns-in-Ok-clause-some : goal.returns-in-Ok-clause-some
returns-in-Ok-clause-some c = (
  (c.if-n-ge1.true, c.if-n-most.true),
  read_decimal ParseIntError c.args.word.now c.in-Ok.n (subst BeginsWithDigit c.as_bytes.ensures.value (c.begins_with_digit.ensures.0 c.if-not-begins_with_digit.false)) c.in-Ok.ensures.value.0,
)

pub returns-in_default-clause-none : goal.returns-in_default-clause-none
returns-in_default-clause-none c = λ n bound is.
    let read : c.parse.result ≡ Ok n = decimal_read c.args.word.now c.parse.result c.args.most n c.requires c.parse.ensures.value.0 bound is in
    let same : c.in-Ok.n ≡ n = cc in
    absurd (omega arith)

pub returns-in_default-2-clause-none : goal.returns-in_default-2-clause-none
returns-in_default-2-clause-none c = λ n bound is.
    let read : c.parse.result ≡ Ok n = decimal_read c.args.word.now c.parse.result c.args.most n c.requires c.parse.ensures.value.0 bound is in
    let same : c.in-Ok.n ≡ n = cc in
    absurd (omega arith)

pub returns-in_default-3-clause-none : goal.returns-in_default-3-clause-none
returns-in_default-3-clause-none c = λ n bound is.
    let read : c.parse.result ≡ Ok n = decimal_read c.args.word.now c.parse.result c.args.most n c.requires c.parse.ensures.value.0 bound is in absurd cc

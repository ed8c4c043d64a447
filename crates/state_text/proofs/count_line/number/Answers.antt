use Rattle.std.proofs.Common.{◌≡◌, ◌≤◌, true, length, get_or, ap, sym, subst, ◌∙◌, arith}
use Rattle.std.specs.Fmt.{decimal}
use Rattle.std.specs.List.{list_all}
use Rattle.polynomial_text.specs.Bytes.{digits_max, is_digit}
use Rattle.state_text.proofs.Numerals.{count_digits, count_few, count_plain, count_some, digits_are, digits_below}
use Rattle.state_text.proofs.count_line.number.Goals as goal
use Rattle.state_text.proofs.count_line.number.Goals.{then-not-has_all-via-then-not-has_all, then-not-has_all-via-else-not-has_all+then-not-is_plain}

pub returns-then-not-has_all-clause-none : goal.returns-then-not-has_all-clause-none
returns-then-not-has_all-clause-none c = λ none n lt is.
    elim c.then-not-has_all.branch [
      | then-not-has_all-via-then-not-has_all w ↦ let digits : list_all is_digit c.args.digits.now ≡ true = ap (list_all is_digit) is ∙ count_digits n lt in absurd cc
      | then-not-has_all-via-else-not-has_all+then-not-is_plain w ↦ let plain : w.is_plain.result ≡ true = w.is_plain.ensures.1 (subst (λ ds. get_or ds 0 0 ≡ 48 → length ds ≡ 1) (sym is) (count_plain n lt)) in absurd cc
    ]

pub returns-in-1-to-18-clause-some : goal.returns-in-1-to-18-clause-some
returns-in-1-to-18-clause-some c =
    let digits : list_all is_digit c.args.digits.now ≡ true = cc in
    let few : length c.args.digits.now ≤ digits_max = omega arith in
    omega (arith, digits_below c.args.digits.now digits few)

pub returns-in-1-to-18-clause-is : goal.returns-in-1-to-18-clause-is
returns-in-1-to-18-clause-is c =
    let digits : list_all is_digit c.args.digits.now ≡ true = cc in
    digits_are c.args.digits.now digits (omega arith) (omega arith) (c.is_plain.ensures.0 c.if-not-is_plain.false) ∙ ap decimal (sym c.digits_value.ensures)

pub returns-in_default-clause-none : goal.returns-in_default-clause-none
returns-in_default-clause-none c = λ none n lt is.
    let some : 1 ≤ length c.args.digits.now = subst (λ ds. 1 ≤ length ds) (sym is) (count_some n lt) in omega arith

pub returns-in_default-2-clause-none : goal.returns-in_default-2-clause-none
returns-in_default-2-clause-none c = λ none n lt is.
    let few : length c.args.digits.now ≤ digits_max = subst (λ ds. length ds ≤ digits_max) (sym is) (count_few n lt) in omega arith

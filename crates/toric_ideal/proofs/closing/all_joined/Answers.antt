use Rattle.std.proofs.Common.{subst, sym, arith, ⊎_elim}
use Rattle.monomial_order.specs.laws.Comparing.{numbers_or_not}
use Rattle.word_laws.specs.Words.{word_order_of}
use Rattle.toric_ideal.specs.Alphabet.{letters_of}
use Rattle.toric_ideal.specs.Closing.{JoinsPairsOf}
use Rattle.toric_ideal.proofs.closing.all_joined.Goals as goal

pub rules-preserved : goal.rules-preserved
rules-preserved c k l =
    ⊎_elim (λ e. subst (JoinsPairsOf (word_order_of (letters_of c.args.alphabet.now)) c.args.c c.args.table.now) (sym e) (c.in_ok-are_joined.ensures.yes c.if-not-branch.false))
    (λ ne. c.rules.invariant k (omega (arith, ne))) (numbers_or_not k c.rules.j)

pub returns-clause-yes : goal.returns-clause-yes
returns-clause-yes c _ j l = c.rules.invariant j (let e = c.len-j-end.ensures in let t = c.rules-test.false in omega arith)

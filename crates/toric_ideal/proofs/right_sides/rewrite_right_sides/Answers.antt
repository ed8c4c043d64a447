use Rattle.std.proofs.Common.{arith}
use Rattle.toric_ideal.specs.Alphabet.{letters_of}
use Rattle.toric_ideal.proofs.Cleaning.{cleaned_next, cleaned_start, rewritten_keeps, small_cleaned}
use Rattle.toric_ideal.proofs.JoiningPairs.{keeps_first_trans, keeps_same}
use Rattle.toric_ideal.proofs.right_sides.rewrite_right_sides.Goals as goal

pub rules-init : goal.rules-init
rules-init c = (keeps_same c.args.first c.args.table.now c.requires.within, cleaned_start (letters_of c.args.alphabet.now) c.args.zeros.now c.args.table.now c.args.first c.requires.rules.rules c.requires.normal)

pub rewrite_right_side-requires-clause-rules : goal.rewrite_right_side-requires-clause-rules
rewrite_right_side-requires-clause-rules c = small_cleaned (letters_of c.args.alphabet.now) c.args.zeros.now c.args.table.now c.rules.table c.rules.i c.requires.rules c.rules.invariant.1

pub rules-preserved : goal.rules-preserved
rules-preserved c =
    let n = c.rules.invariant.1.number in
    let w = c.requires.within in (
      keeps_first_trans c.args.first c.args.table.now c.rules.table c.rewrite_right_side.new.table c.rules.invariant.0
          (rewritten_keeps (letters_of c.args.alphabet.now) c.args.zeros.now c.rules.table c.rewrite_right_side.new.table c.args.first c.rules.i (omega (arith, c.rules.auto)) (omega arith) c.in_ok-rewrite_right_side.ensures.rewritten),
      cleaned_next (letters_of c.args.alphabet.now) c.args.zeros.now c.args.table.now c.rules.table c.rewrite_right_side.new.table c.rules.i c.rules.invariant.1 c.in_ok-rewrite_right_side.ensures.rewritten,
    )

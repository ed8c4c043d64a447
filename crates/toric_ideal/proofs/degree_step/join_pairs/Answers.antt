use Rattle.std.proofs.Common.{◌+◌, [], ◌∷◌, refl, sym, subst}
use Rattle.word_laws.specs.Words.{word_order_of}
use Rattle.monomial_order.specs.laws.Lists.{contains_here, contains_right}
use Rattle.std.specs.Prelude.{Contains}
use Rattle.degree_queue.specs.DegreeQueue.{list_of}
use Rattle.toric_ideal.specs.Alphabet.{letters_of}
use Rattle.toric_ideal.proofs.JoiningPairs.{joining_done, joining_next, joining_start, keeps_first_trans, keeps_rules_trans, keeps_same}
use Rattle.toric_ideal.proofs.degree_step.join_pairs.Goals as goal

pub pairs-init : goal.pairs-init
pairs-init c = (
  keeps_same c.args.first c.args.table.now c.requires.growing.within,
  (λ r h. h),
  c.requires.growing,
  joining_start (word_order_of (letters_of c.args.alphabet.now)) c.args.c c.args.first c.args.table.now c.args.pairs.now c.requires.small c.requires.queued,
)

pub join_pair-requires-clause-pair : goal.join_pair-requires-clause-pair
join_pair-requires-clause-pair c =
    c.pairs.invariant.3.here c.in-Some.pair
    (subst (λ xs. Contains xs c.in-Some.pair) (sym c.in-Some.ensures.last) (contains_right (list_of c.pop.new.self (c.args.c + 1)) (c.in-Some.pair ∷ []) c.in-Some.pair (contains_here c.in-Some.pair [])))

pub pairs-preserved : goal.pairs-preserved
pairs-preserved c = (
  keeps_first_trans c.args.first c.args.table.now c.pairs.table c.join_pair.new.table c.pairs.invariant.0 c.join_pair.ensures.first,
  keeps_rules_trans c.args.table.now c.pairs.table c.join_pair.new.table c.pairs.invariant.1 c.join_pair.ensures.rules,
  c.in_ok-join_pair.ensures.growing,
  joining_next (word_order_of (letters_of c.args.alphabet.now)) c.args.c c.args.first c.pairs.table c.join_pair.new.table c.pairs.pairs c.pop.new.self c.in-Some.pair
      c.join_pair.ensures.first c.join_pair.ensures.rules c.in-Some.ensures.last c.pop.ensures.others c.in_ok-join_pair.ensures.joined c.pairs.invariant.3,
)

pub returns-clause-queued : goal.returns-clause-queued
returns-clause-queued c =
    (joining_done (word_order_of (letters_of c.args.alphabet.now)) c.args.c c.args.first c.pairs.table c.pairs.pairs c.pop.new.self c.in_default.ensures.unchanged (c.in_default.ensures.none.0 refl) c.pairs.invariant.3).0

use Rattle.std.proofs.Common.{refl, sym, ◌∙◌, ap, ◌++◌, ◌∷◌, [], append_assoc, append-nil, length, arith}
use Rattle.degree_queue.specs.DegreeQueue.{list_of}
use Rattle.quotient_gb.proofs.waiting_pairs.take_waiting.Goals as goal

pub items-init : goal.items-init
items-init c = record { all = ap (λ xs. xs ++ list_of c.args.waiting.now c.args.degree) c.new-pairs.ensures.items; others = λ n h. refl }

pub items-smaller : goal.items-smaller
items-smaller c = let e = ap length c.in-Some.ensures.first in omega arith

pub items-preserved : goal.items-preserved
items-preserved c = record {
  all = ap (λ xs. xs ++ list_of c.pop_front.new.self c.args.degree) c.in_ok-push.ensures.items
      ∙ (append_assoc c.items.pairs.items (c.in-Some.w ∷ []) (list_of c.pop_front.new.self c.args.degree) ∙ (ap (λ xs. c.items.pairs.items ++ xs) (sym c.in-Some.ensures.first) ∙ c.items.invariant.all));
  others = λ n h. c.pop_front.ensures.others n h ∙ c.items.invariant.others n h;
}

pub returns-clause-all : goal.returns-clause-all
returns-clause-all c =
    sym (append-nil c.items.pairs.items) ∙ (ap (λ xs. c.items.pairs.items ++ xs) (sym (c.in_default.ensures.none.0 refl)) ∙ c.items.invariant.all)

pub returns-clause-others : goal.returns-clause-others
returns-clause-others c = λ n h. c.pop_front.ensures.others n h ∙ c.items.invariant.others n h

use Rattle.std.proofs.Common.{◌≡◌, true, false, Bool, sym, subst, List, ℕ, ◌∷◌, [], ◌++◌}
use Rattle.std.specs.Prelude.{is_ok, if◌then◌else◌}
use Rattle.monomial_order.specs.Ranges.{all_between}
use Rattle.monomial_order.specs.laws.Orders.{all_between-push}
use Rattle.monomial_order.proofs.word_order.WordOrder.push_place.Goals as goal

-- with the degree pushed or not
both : (b : Bool) (xs : List ℕ) (y : ℕ) → all_between 1 30000 xs ≡ true → all_between 1 30000 (xs ++ y ∷ []) ≡ true → all_between 1 30000 (if b then xs ++ y ∷ [] else xs) ≡ true
both true xs y h k = k
both false xs y h k = h

pub invariant_of-self-clause-s_in_range : goal.invariant_of-self-clause-s_in_range
invariant_of-self-clause-s_in_range c =
    subst (λ xs. all_between 1 30000 xs ≡ true) (sym c.push.ensures.items)
    (both (is_ok c.push.result) c.args.self.now.s_degrees.items c.args.degree c.args.self.now.s_in_range
    (all_between-push 1 30000 c.args.self.now.s_degrees.items c.args.degree c.args.self.now.s_in_range c.requires.positive c.requires.small))

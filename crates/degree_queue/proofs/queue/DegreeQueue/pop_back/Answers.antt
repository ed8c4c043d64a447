use Rattle.std.proofs.Common.{◌≡◌, ℕ, suc, ◌+◌, ◌-◌, List, [], ◌∷◌, ◌++◌, Some, length, take, sym, ap, ◌∙◌, arith, append-nil}
use Rattle.std.specs.List.{remove, slice_get}
use Rattle.std.proofs.lemmas.List.{take_all, take_more, drop_all}
use Rattle.std.proofs.lemmas.Option.{get_or_from_slice_get}
use Rattle.degree_queue.specs.DegreeQueue.{list_of}
use Rattle.degree_queue.proofs.queue.DegreeQueue.pop_back.Goals as goal

-- a list whose last item is taken out
without_last : {T : Type 0} (xs ys : List T) (k : ℕ) (x : T) → k + 1 ≡ length xs → slice_get xs k ≡ Some x → ys ≡ remove xs k → xs ≡ ys ++ x ∷ []
without_last {T} xs ys k x last found rest =
    let front : remove xs k ≡ take k xs = ap (λ (zs : List T). take k xs ++ zs) (drop_all (suc k) xs (omega arith)) ∙ append-nil (take k xs) in
    sym (take_all (k + 1) xs (omega arith)) ∙ take_more xs k x (omega arith) ∙ ap (λ (y : T). take k xs ++ y ∷ []) (get_or_from_slice_get xs k x x found) ∙ ap (λ (zs : List T). zs ++ x ∷ []) (sym (rest ∙ front))

pub returns-clause-last : goal.returns-clause-last
returns-clause-last g c =
    without_last (list_of c.args.self.now c.args.degree) _ (c.len-count.result - 1) _ (omega (arith, c.len-count.ensures)) c.pop_at.ensures.item c.pop_at.ensures.rest

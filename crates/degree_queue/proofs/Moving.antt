-- A node that moves from one list to another.
use Rattle.std.proofs.Common.{◌≡◌, ℕ, ◌+◌, ◌<◌, List, [], ◌∷◌, ◌++◌, Option, length, subst, sym, ap, ◌∙◌, arith}
use Rattle.std.specs.List.{remove, slice_index}
use Rattle.degree_queue.specs.declared.links.Node.{Node}
use Rattle.degree_queue.specs.declared.links.Ends.{Ends}
use Rattle.degree_queue.specs.Links.{times, path_of, IsApart, IsList, ChangesLinks, SetsItem, Moves, CanMove}
use Rattle.degree_queue.proofs.Counting.{here, times-append, times-cons, times-remove, times-slice_index, IsApart-moved}
use Rattle.degree_queue.proofs.Paths.{path_of_is, IsList-same_links}

module _ {T : Type 0} where
  -- a list none of whose links change
  pub IsList-apart : (old new : List (Node T)) (ends : Ends) (p q : List ℕ) → ((i : ℕ) → 0 < times i p → times i q ≡ 0) → ChangesLinks q old new → IsList old ends p → IsList new ends p
  IsList-apart old new ends p q off changes list =
      IsList-same_links old new ends p (λ k inside. changes.next _ (off _ (times-slice_index p k inside))) (λ k inside. changes.prev _ (off _ (times-slice_index p k inside))) list

  pub ChangesLinks-trans : (old mid new : List (Node T)) (p q r : List ℕ) → ((i : ℕ) → times i r ≡ 0 → times i p ≡ 0) → ((i : ℕ) → times i r ≡ 0 → times i q ≡ 0) → ChangesLinks p old mid → ChangesLinks q mid new → ChangesLinks r old new
  ChangesLinks-trans old mid new p q r in_p in_q first second = record {
    long = second.long ∙ first.long;
    next = λ i none. second.next i (in_q i none) ∙ first.next i (in_p i none);
    prev = λ i none. second.prev i (in_q i none) ∙ first.prev i (in_p i none);
    items = λ i. second.items i ∙ first.items i;
  }

-- the lists after the node has left the first, and after it has joined the second
module _ {T : Type 0} (old mid new : List (Node T)) (from to : Ends) (k at : ℕ) (can : CanMove old from to k at) (unlinks : ChangesLinks (path_of old from) old mid) where
  abbrev p : List ℕ
  p = path_of old from

  abbrev q : List ℕ
  q = path_of old to

  inside : k < length p
  inside = omega (arith, can.inside, can.from_list.len)

  pub to_list : IsList mid to (path_of old to)
  to_list = IsList-apart old mid to q p (λ i counted. omega (arith, can.apart.once i, times-append i p q)) unlinks can.to_list

  pub to_path : path_of mid to ≡ path_of old to
  to_path = path_of_is mid to q to_list

  pub to_apart : IsApart (length mid) (path_of old to ++ at ∷ [])
  to_apart =
      subst (λ (n : ℕ). IsApart n (q ++ at ∷ [])) (sym unlinks.long) (subst (λ (i : ℕ). IsApart (length old) (q ++ i ∷ [])) (sym can.at_is) (IsApart-moved (length old) p q k inside can.apart))

  moved : (i : ℕ) → times i (q ++ at ∷ []) ≡ times i q + here i (slice_index p k)
  moved i = times-append i q (at ∷ []) ∙ ap (λ (n : ℕ). times i q + n) (times-cons i at [] ∙ ap (λ (j : ℕ). here i j + 0) can.at_is ∙ omega arith)

  pub from_list : (ends : Ends) → ChangesLinks (path_of old to ++ at ∷ []) mid new → IsList mid ends (remove (path_of old from) k) → IsList new ends (remove (path_of old from) k)
  from_list ends links list =
      IsList-apart mid new ends (remove p k) (q ++ at ∷ []) (λ i counted. omega (arith, moved i, times-remove i p k inside, can.apart.once i, times-append i p q)) links list

  pub changes_both : ChangesLinks (path_of old to ++ at ∷ []) mid new → ChangesLinks (path_of old from ++ path_of old to) old new
  changes_both links =
      ChangesLinks-trans old mid new p (q ++ at ∷ []) (p ++ q) (λ i none. omega (arith, times-append i p q)) (λ i none. omega (arith, moved i, times-append i p q, times-remove i p k inside)) unlinks links

-- a move and then a change of the item
module _ {T : Type 0} where
  pub moves : (old mid new : List (Node T)) (from to : Ends) (p q : List ℕ) (k at : ℕ) (item : Option T) → IsList mid from (remove p k) → IsList mid to (q ++ at ∷ []) → ChangesLinks (p ++ q) old mid → SetsItem at item mid new → Moves p q k at item old new from to
  moves old mid new from to p q k at item leaves joins links sets = record {
    long = sets.long ∙ links.long;
    leaves = IsList-same_links mid new from (remove p k) (λ j inside. sets.next _) (λ j inside. sets.prev _) leaves;
    joins = IsList-same_links mid new to (q ++ at ∷ []) (λ j inside. sets.next _) (λ j inside. sets.prev _) joins;
    next = λ i none. sets.next i ∙ links.next i none;
    prev = λ i none. sets.prev i ∙ links.prev i none;
    here = sets.here;
    others = λ i other. sets.others i other ∙ links.items i;
  }

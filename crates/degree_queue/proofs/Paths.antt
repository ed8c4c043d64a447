-- Doubly linked lists, and how links that change keep them.
use Rattle.std.proofs.Common.{◌≡◌, ◌≢◌, ℕ, zero, suc, ◌<◌, List, [], ◌∷◌, length, get_or, set, refl, sym, ap, ◌∙◌, inl, inr, arith, subst}
use Rattle.std.specs.List.{slice_index}
use Rattle.std.proofs.lemmas.Bool.{cases_eq}
use Rattle.std.proofs.lemmas.List.{get_or_default, length-set, get_or-set_same, get_or-set_other}
use Rattle.degree_queue.specs.declared.links.Node.{Node}
use Rattle.degree_queue.specs.declared.links.Ends.{Ends}
use Rattle.degree_queue.specs.Links.{times, path, path_of, no_node, next_at, prev_at, IsList, Joins, ChangesLinks}
use Rattle.degree_queue.proofs.Counting.{times-slice_index}

pub length-path : (f : ℕ → ℕ) (a n : ℕ) → length (path f a n) ≡ n
length-path f a zero = refl
length-path f a (suc n) = ap suc (length-path f (f a) n)

-- the path is any list that the first index and the links give
pub path_is : (f : ℕ → ℕ) (a : ℕ) (p : List ℕ) → (0 < length p → a ≡ slice_index p 0) → ((k : ℕ) → suc k < length p → f (slice_index p k) ≡ slice_index p (suc k)) → path f a (length p) ≡ p
path_is f a [] first next = refl
path_is f a (x ∷ xs) first next =
    let same : a ≡ x = first (omega arith) in
    let rest = path_is f (f a) xs (λ some. ap f same ∙ next 0 (omega arith)) (λ k inside. next (suc k) (omega arith)) in
    ap (λ (y : ℕ). y ∷ path f (f a) (length xs)) same ∙ ap (λ (ys : List ℕ). x ∷ ys) rest

-- an index off a list is none of its members
pub off_list : (i : ℕ) (p : List ℕ) (k : ℕ) → times i p ≡ 0 → k < length p → i ≢ slice_index p k
off_list i p k none inside same =
    let counted : 0 < times i p = subst (λ (j : ℕ). 0 < times j p) (sym same) (times-slice_index p k inside) in
    omega arith

module _ {T : Type 0} where
  pub path_of_is : (nodes : List (Node T)) (ends : Ends) (p : List ℕ) → IsList nodes ends p → path_of nodes ends ≡ p
  path_of_is nodes ends p list = rw list.len (path_is (next_at nodes) ends.first p list.first list.next)

  -- the list is its path
  pub IsList-path_of : (nodes : List (Node T)) (ends : Ends) (p : List ℕ) → IsList nodes ends p → IsList nodes ends (path_of nodes ends)
  IsList-path_of nodes ends p list = subst (λ (q : List ℕ). IsList nodes ends q) (sym (path_of_is nodes ends p list)) list

  -- links of nodes that are not on a list do not matter to it
  pub IsList-same_links : (old new : List (Node T)) (ends : Ends) (p : List ℕ) → ((k : ℕ) → k < length p → next_at new (slice_index p k) ≡ next_at old (slice_index p k)) → ((k : ℕ) → k < length p → prev_at new (slice_index p k) ≡ prev_at old (slice_index p k)) → IsList old ends p → IsList new ends p
  IsList-same_links old new ends p same_next same_prev list = record {
    len = list.len;
    first = list.first;
    last = list.last;
    next = λ k inside. same_next k (omega arith) ∙ list.next k inside;
    prev = λ k inside. same_prev (suc k) inside ∙ list.prev k inside;
  }

  -- a write that leaves a field as it was
  pub field-set : {X : Type 0} (field : Node T → X) (nodes : List (Node T)) (a : ℕ) (x : Node T) → a < length nodes → field x ≡ field (get_or nodes a no_node) → (i : ℕ) → field (get_or (set nodes a x) i no_node) ≡ field (get_or nodes i no_node)
  field-set field nodes a x inside same i =
      elim (cases_eq i a) [
        | inl at ↦ rw at (ap field (get_or-set_same nodes a x no_node inside) ∙ same)
        | inr other ↦ ap field (get_or-set_other nodes a i x no_node other)
      ]

  pub joined : (nodes : List (Node T)) (a b : ℕ) (x y : Node T) → a < length nodes → b < length nodes → let first = set nodes a (record (get_or nodes a x) { next = b }) in Joins nodes (set first b (record (get_or first b y) { prev = a })) a b
  joined nodes a b x y a_in b_in =
      let v : Node T = record (get_or nodes a x) { next = b } in
      let first : List (Node T) = set nodes a v in
      let w : Node T = record (get_or first b y) { prev = a } in
      let b_within : b < length first = omega (arith, length-set nodes a v) in
      let read_a = get_or_default nodes a x no_node a_in in
      let read_b = get_or_default first b y no_node b_within in
      let next_same = field-set (λ (n : Node T). n.next) first b w b_within (ap (λ (n : Node T). n.next) read_b) in
      let prev_same = field-set (λ (n : Node T). n.prev) nodes a v a_in (ap (λ (n : Node T). n.prev) read_a) in
      let item_first = field-set (λ (n : Node T). n.item) nodes a v a_in (ap (λ (n : Node T). n.item) read_a) in
      let item_second = field-set (λ (n : Node T). n.item) first b w b_within (ap (λ (n : Node T). n.item) read_b) in
      record {
        long = length-set first b w ∙ length-set nodes a v;
        next = next_same a ∙ ap (λ (n : Node T). n.next) (get_or-set_same nodes a v no_node a_in);
        prev = ap (λ (n : Node T). n.prev) (get_or-set_same first b w no_node b_within);
        other_next = λ i other. next_same i ∙ ap (λ (n : Node T). n.next) (get_or-set_other nodes a i v no_node other);
        other_prev = λ i other. ap (λ (n : Node T). n.prev) (get_or-set_other first b i w no_node other) ∙ prev_same i;
        items = λ i. item_second i ∙ item_first i;
      }

  -- joined nodes of a list
  pub ChangesLinks-joined : (old new : List (Node T)) (p : List ℕ) (a b j k : ℕ) → j < length p → k < length p → a ≡ slice_index p j → b ≡ slice_index p k → Joins old new a b → ChangesLinks p old new
  ChangesLinks-joined old new p a b j k j_in k_in a_is b_is joins = record {
    long = joins.long;
    next = λ i none. joins.other_next i (λ same. off_list i p j none j_in (same ∙ a_is));
    prev = λ i none. joins.other_prev i (λ same. off_list i p k none k_in (same ∙ b_is));
    items = joins.items;
  }

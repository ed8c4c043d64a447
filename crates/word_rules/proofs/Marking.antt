-- Marks of indexes.
use Rattle.std.proofs.Common.{◌≡◌, ◌≢◌, ℕ, ◌<◌, Bool, true, false, refl, sym, ◌∙◌, ap, subst, List, [], ◌∷◌, ◌++◌, length, arith, get_or, set, ◌⊎◌, inl, inr, ⊎_elim}
use Rattle.std.specs.Prelude.{Contains}
use Rattle.std.proofs.lemmas.List.{get_or_append_left, get_or_past, get_or_push, length_push, get_or_default, get_or-set_same, get_or-set_other}
use Rattle.monomial_order.specs.laws.Comparing.{le_or_not, numbers_or_not}
use Rattle.monomial_order.specs.laws.Lists.{contains_at, contains_either, contains_here, contains_left, contains_none, contains_right, contains_one}
use Rattle.word_rules.specs.Sharing.{AreDifferent, AreMarks, IsMarked}

once_more : (xs : List ℕ) (x : ℕ) → AreDifferent xs → (Contains xs x → ⊥) → AreDifferent (xs ++ x ∷ [])
once_more xs x once new i j d lt l =
    let e = length_push xs x in
    ⊎_elim
    (λ q. subst (λ y. get_or (xs ++ x ∷ []) i d ≢ y) (sym (get_or_push xs x d j (sym q)))
    (subst (λ y. y ≢ x) (sym (get_or_append_left xs (x ∷ []) d i (omega (arith, q))))
    (λ z. new (subst (Contains xs) z (contains_at xs i d (omega (arith, q)))))))
    (λ q. subst (λ y. get_or (xs ++ x ∷ []) i d ≢ y) (sym (get_or_append_left xs (x ∷ []) d j (omega (arith, q))))
    (subst (λ y. y ≢ get_or xs j d) (sym (get_or_append_left xs (x ∷ []) d i (omega (arith, q)))) (once i j d lt (omega (arith, q)))))
    (numbers_or_not j (length xs))

false_or_true : false ≡ true → ⊥
false_or_true e = let f : false ≡ true = e in cc

pub no_marks : AreMarks [] []
no_marks = record { marked = λ i c. absurd (contains_none i c); listed = λ i s. absurd (false_or_true s); once = λ i j d lt l. absurd (omega (arith, lt, l)) }

-- places without marks change nothing
pub same_marks : (seen more : List Bool) (list : List ℕ) → ((k : ℕ) → get_or more k false ≡ get_or seen k false) → AreMarks seen list → AreMarks more list
same_marks seen more list e h = record { marked = λ i c. e i ∙ h.marked i c; listed = λ i s. h.listed i (sym (e i) ∙ s); once = h.once }

-- the last index
pub last_in : (list : List ℕ) (i : ℕ) → Contains (list ++ i ∷ []) i
last_in list i = contains_right list (i ∷ []) i (contains_here i [])

last_or : (list : List ℕ) (i k : ℕ) → Contains (list ++ i ∷ []) k → (k ≡ i) ⊎ Contains list k
last_or list i k c = ⊎_elim inr (λ q. inl (sym (contains_one i k q))) (contains_either list (i ∷ []) k c)

is_new : (seen : List Bool) (list : List ℕ) (i : ℕ) → AreMarks seen list → get_or seen i false ≡ false → Contains list i → ⊥
is_new seen list i h new c = false_or_true (sym new ∙ h.marked i c)

-- an index that is not marked is marked
pub more_marks : (seen : List Bool) (list : List ℕ) (i : ℕ) → i < length seen → get_or seen i false ≡ false → AreMarks seen list → AreMarks (set seen i true) (list ++ i ∷ [])
more_marks seen list i l new h = record {
  marked = λ k c. ⊎_elim (λ q. ap (λ x. get_or (set seen i true) x false) q ∙ get_or-set_same seen i true false l)
      (λ o. get_or-set_other seen i k true false (λ q. is_new seen list i h new (subst (Contains list) q o)) ∙ h.marked k o) (last_or list i k c);
  listed = λ k s. ⊎_elim (λ q. subst (Contains (list ++ i ∷ [])) (sym q) (last_in list i))
      (λ q. contains_left list (i ∷ []) k (h.listed k (sym (get_or-set_other seen i k true false q) ∙ s))) (numbers_or_not k i);
  once = once_more list i h.once (is_new seen list i h new);
}

pub newly_marked : (seen : List Bool) (list : List ℕ) (i : ℕ) → get_or seen i false ≡ false → AreMarks seen list → IsMarked i list (list ++ i ∷ [])
newly_marked seen list i new h = record {
  here = last_in list i;
  keeps = contains_left list (i ∷ []);
  only = last_or list i;
  once = once_more list i h.once (is_new seen list i h new);
}

-- a marked index is one of the places
pub marked_inside : (seen : List Bool) (list : List ℕ) (i : ℕ) → AreMarks seen list → Contains list i → i < length seen
marked_inside seen list i h c = ⊎_elim (λ l. absurd (false_or_true (sym (get_or_past seen i false l) ∙ h.marked i c))) (λ l. omega (arith, l)) (le_or_not (length seen) i)

-- the last index is taken out
pub less_marks : (seen : List Bool) (list : List ℕ) (i : ℕ) → AreMarks seen (list ++ i ∷ []) → AreMarks (set seen i false) list
less_marks seen list i h = record {
  marked = λ k c. get_or-set_other seen i k false false (other k c) ∙ h.marked k (contains_left list (i ∷ []) k c);
  listed = λ k s. ⊎_elim
      (λ q. absurd (false_or_true (sym (get_or-set_same seen i false false inside) ∙ (ap (λ x. get_or (set seen i false) x false) (sym q) ∙ s))))
      (λ q. ⊎_elim (λ e. absurd (q e)) (λ o. o) (last_or list i k (h.listed k (sym (get_or-set_other seen i k false false q) ∙ s))))
      (numbers_or_not k i);
  once = λ a b d lt l. subst (λ x. x ≢ get_or list b d) (get_or_append_left list (i ∷ []) d a (omega (arith, lt, l)))
      (subst (λ x. get_or (list ++ i ∷ []) a d ≢ x) (get_or_append_left list (i ∷ []) d b l) (h.once a b d lt (let e = length_push list i in omega (arith, l))));
}
  where
    inside : i < length seen
    inside = marked_inside seen (list ++ i ∷ []) i h (last_in list i)

    other : (k : ℕ) → Contains list k → k ≢ i
    other k c q = h.once c.0 (length list) i c.1 (let e = length_push list i in omega arith)
        (get_or_append_left list (i ∷ []) i c.0 c.1 ∙ (get_or_default list c.0 i k c.1 ∙ (c.2 ∙ (q ∙ sym (get_or_push list i i (length list) refl)))))

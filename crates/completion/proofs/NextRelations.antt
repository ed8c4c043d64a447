-- The relations to the next degree: the old ones, and those of the minimal words of that degree.
use Rattle.std.proofs.Common.{◌≡◌, ℕ, suc, ◌≤◌, sym, ◌∙◌, ap, subst, List, [], ◌∷◌, ◌++◌, ⊎_elim, arith}
use Rattle.std.specs.Prelude.{All, Contains, map}
use Rattle.std.specs.declared.cmp.Ordering.TheVariants.{Less}
use Rattle.std.proofs.lemmas.List.{map-append}
use Rattle.std.proofs.lemmas.List.Elements.{All-append, All-contains}
use Rattle.monomial_order.specs.Monomial.{Exponents}
use Rattle.monomial_order.specs.MonomialOrder.{MonomialOrder, IsIncreasing, IsMonomialOrder}
use Rattle.monomial_order.specs.laws.Comparing.{increasing_below, increasing_cons, increasing_tail, le_or_not}
use Rattle.monomial_order.specs.laws.Lists.{contains_either, contains_here, contains_left, contains_map, contains_right, contains_there}
use Rattle.word_laws.specs.Words.{word_order_of}
use Rattle.polynomials.specs.Polynomial.{Polynomial}
use Rattle.polynomials.specs.Subalgebra.{Presented, IsPresentation}
use Rattle.subalgebra_laws.specs.Bases.{AreStandardAfter}
use Rattle.subalgebra_laws.specs.Statements.{ForNewElements, ForStandardElements, MinimalWordsStay, SumsStay, ValuesStay}
use Rattle.subalgebra_laws.specs.Words.{letters, IsMinimalWord}
use Rattle.word_values.specs.Values.{word_degree}
use Rattle.completion.specs.declared.relations.Relation.{Relation}
use Rattle.completion.specs.Candidates.{AreWordsAt}
use Rattle.completion.specs.Relations.{AreRelations}
use Rattle.tete_lift.specs.Lifting.{IsRightSide}
use Rattle.completion.proofs.LongerWords.{right_stays, same_compare, same_degree}
use Rattle.subduction.specs.laws.Parts.{contains-All}

pub increasing_over : (O N : MonomialOrder) (ms : List Exponents) → ((v w : Exponents) → Contains ms v → Contains ms w → N.compare v w ≡ O.compare v w) → IsIncreasing O ms → IsIncreasing N ms
increasing_over O N [] same h = tt
increasing_over O N (m ∷ []) same h = tt
increasing_over O N (m ∷ (n ∷ ms)) same h = (
  same m n (contains_here m (n ∷ ms)) (contains_there m (n ∷ ms) n (contains_here n ms)) ∙ h.0,
  increasing_over O N (n ∷ ms) (λ v w a b. same v w (contains_there m (n ∷ ms) v a) (contains_there m (n ∷ ms) w b)) h.1,
)

increasing_join : (O : MonomialOrder) → IsMonomialOrder O → (ks ms : List Exponents) → IsIncreasing O ks → IsIncreasing O ms → ((k m : Exponents) → Contains ks k → Contains ms m → O.compare k m ≡ Less) → IsIncreasing O (ks ++ ms)
increasing_join O L [] ms r s h = s
increasing_join O L (k ∷ ks) ms r s h =
    increasing_cons O k (ks ++ ms) (λ n c. ⊎_elim (λ a. increasing_below O L k ks r n a) (λ b. h k n (contains_here k ks) b) (contains_either ks ms n c))
    (increasing_join O L ks ms (increasing_tail O k ks r) s (λ x y c d. h x y (contains_there k ks x c) d))

module _ {E : Type 0} (P : Presented E) (H : IsPresentation P) (S T : List (Polynomial E)) (c : ℕ) (A : AreStandardAfter P (suc c) S T) (L : IsMonomialOrder (word_order_of (letters P (S ++ T)))) where
  abbrev V : MonomialOrder
  V = word_order_of (letters P S)

  abbrev W : MonomialOrder
  W = word_order_of (letters P (S ++ T))

  abbrev word_of : {F : Type 0} → Relation F E → Exponents
  word_of r = r.word

  module _ {F : Type 0} (values : ValuesStay P S T) (sums : ForNewElements E SumsStay) (minimal : ForStandardElements E MinimalWordsStay)
      (old more : List (Relation F E)) (words : List Exponents) (R : AreRelations P S c old) (N : AreWordsAt P S (suc c) words) (same : map word_of more ≡ words) where
    old_word : (u : Exponents) → Contains (map word_of old) u → IsMinimalWord P S u × (word_degree P S u ≤ c)
    old_word u k = (R.exactly u).0 k

    new_word : (u : Exponents) → Contains words u → IsMinimalWord P S u × (word_degree P S u ≡ suc c)
    new_word u k = (N.exactly u).0 k

    rising : IsIncreasing W (map word_of (old ++ more))
    rising =
        subst (IsIncreasing W) (sym (map-append word_of old more ∙ ap (λ ms. map word_of old ++ ms) same))
        (increasing_join W L (map word_of old) words
        (increasing_over V W (map word_of old) (λ v w a b. same_compare P S T v w (old_word v a).0.1.0 (old_word w b).0.1.0) R.increasing)
        (increasing_over V W words (λ v w a b. same_compare P S T v w (new_word v a).0.1.0 (new_word w b).0.1.0) N.increasing)
        (λ k m a b. L.degree_first k m
        (let x = old_word k a in let y = new_word m b in
        let p = same_degree P S T k x.0.1.0 in let q = same_degree P S T m y.0.1.0 in
        let i = x.1 in let j = y.1 in omega arith)))

    stays : (u : Exponents) → IsMinimalWord P S u → word_degree P S u ≤ suc c → IsMinimalWord P (S ++ T) u × (word_degree P (S ++ T) u ≤ suc c)
    stays u h l =
        let e = same_degree P S T u h.1.0 in
        let low : word_degree P (S ++ T) u ≤ suc c = omega arith in
        ((minimal P S T (suc c) H A u low).1 h, low)

    among : (u : Exponents) → Contains (map word_of (old ++ more)) u → IsMinimalWord P (S ++ T) u × (word_degree P (S ++ T) u ≤ suc c)
    among u k =
        ⊎_elim (λ i. let x = old_word u i in stays u x.0 (let l = x.1 in omega arith)) (λ i. let x = new_word u (subst (λ ms. Contains ms u) same i) in stays u x.0 (let l = x.1 in omega arith))
        (contains_either (map word_of old) (map word_of more) u (subst (λ ms. Contains ms u) (map-append word_of old more) k))

    all : (u : Exponents) → IsMinimalWord P (S ++ T) u × (word_degree P (S ++ T) u ≤ suc c) → Contains (map word_of (old ++ more)) u
    all u h =
        let m = (minimal P S T (suc c) H A u h.1).0 h.0 in
        let e = same_degree P S T u m.1.0 in
        let low = h.1 in
        subst (λ ms. Contains ms u) (sym (map-append word_of old more))
        (⊎_elim (λ l. contains_left (map word_of old) (map word_of more) u ((R.exactly u).1 (m, l)))
        (λ n. contains_right (map word_of old) (map word_of more) u (subst (λ ms. Contains ms u) (sym same) ((N.exactly u).1 (m, let z : word_degree P S u ≡ suc c = omega (arith, n) in z))))
        (le_or_not (word_degree P S u) c))

    old_rights : All (λ r. IsRightSide P (S ++ T) r.word r.right) old
    old_rights = contains-All (λ (r : Relation F E). IsRightSide P (S ++ T) r.word r.right) old
        (λ r k.
        let x = old_word r.word (contains_map word_of old r k) in
        let l = x.1 in
        right_stays P S T H (suc c) A.after values sums r.word r.right x.0.1.0 (omega arith)
        (All-contains (λ (q : Relation F E). IsRightSide P S q.word q.right) old r R.rights k))

    pub next_relations : All (λ r. IsRightSide P (S ++ T) r.word r.right) more → AreRelations P (S ++ T) (suc c) (old ++ more)
    next_relations h = record {
      increasing = rising;
      exactly = λ u. (among u, all u);
      rights = All-append (λ (r : Relation F E). IsRightSide P (S ++ T) r.word r.right) old more old_rights h;
    }

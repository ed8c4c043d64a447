-- The index of a table, when the table changes.
use Rattle.std.proofs.Common.{◌≡◌, ◌≢◌, ℕ, suc, ◌<◌, refl, sym, subst, List, [], ◌∷◌, ◌++◌, length, arith, take, ⊎_elim}
use Rattle.std.specs.Prelude.{Contains}
use Rattle.std.proofs.lemmas.List.{get_or-take, get_or_append_left, get_or_push, length-map, length_push, length-take, map-append, take-map}
use Rattle.monomial_order.specs.Monomial.{Exponents, exponent}
use Rattle.monomial_order.specs.laws.Comparing.{numbers_or_not}
use Rattle.word_rules.specs.declared.buckets.Buckets.{Buckets}
use Rattle.word_rules.specs.declared.pairs.PairIndex.{PairIndex}
use Rattle.word_rules.specs.declared.word_rule.WordRule.{WordRule}
use Rattle.word_rules.specs.declared.table.Table.{Table}
use Rattle.word_rules.specs.Index.{IsIndexFor, IsPaired, KeepsIndexes, KeepsPairs, IsIndexed, bucket, lefts_of, list_at}

-- the index stays one if no bucket loses an index
pub index_kept : (ls : List (List ℕ)) (b c : Buckets) (p q : PairIndex) → KeepsIndexes b c → KeepsPairs p q → IsIndexFor ls b p → IsIndexFor ls c q
index_kept ls b c p q hb hp x = record {
  listed = λ i a l e. hb a i (x.listed i a l e);
  paired = λ i l. let y = x.paired i l in record { a = y.a; b = y.b; letters = y.letters; listed = hp y.a y.b i y.listed };
}

pub index_taken : (n : ℕ) (ls : List (List ℕ)) (b : Buckets) (p : PairIndex) → IsIndexFor ls b p → IsIndexFor (take n ls) b p
index_taken n ls b p x = record {
  listed = λ i a l h. x.listed i a (inside i l) (subst (λ w. exponent w a ≢ 0) (get_or-take n ls i [] (below i l)) h);
  paired = λ i l. subst (IsPaired p i) (sym (get_or-take n ls i [] (below i l))) (x.paired i (inside i l));
}
  where
    below : (i : ℕ) → i < length (take n ls) → i < n
    below i l = grind (arith, length-take)

    inside : (i : ℕ) → i < length (take n ls) → i < length ls
    inside i l = grind (arith, length-take)

-- with a word at the end, whose index is in the buckets
pub index_pushed : (ls : List (List ℕ)) (w : Exponents) (b : Buckets) (p : PairIndex) → IsIndexFor ls b p →
    ((a : ℕ) → exponent w a ≢ 0 → Contains (bucket b a) (length ls)) → IsPaired p (length ls) w → IsIndexFor (ls ++ w ∷ []) b p
index_pushed ls w b p x hb hp = record {
  listed = λ i a l. by_case (λ i. exponent (list_at (ls ++ w ∷ []) i) a ≢ 0 → Contains (bucket b a) i)
      (λ i l h. x.listed i a l (subst (λ v. exponent v a ≢ 0) (old i l) h))
      (λ h. hb a (subst (λ v. exponent v a ≢ 0) new h)) i (shorter i l);
  paired = λ i l. by_case (λ i. IsPaired p i (list_at (ls ++ w ∷ []) i))
      (λ i l. subst (IsPaired p i) (sym (old i l)) (x.paired i l))
      (subst (IsPaired p (length ls)) (sym new) hp)
      i (shorter i l);
}
  where
    old : (i : ℕ) → i < length ls → list_at (ls ++ w ∷ []) i ≡ list_at ls i
    old i l = get_or_append_left ls (w ∷ []) [] i l

    new : list_at (ls ++ w ∷ []) (length ls) ≡ w
    new = get_or_push ls w [] (length ls) refl

    shorter : (i : ℕ) → i < length (ls ++ w ∷ []) → i < suc (length ls)
    shorter i l = let e = length_push ls w in omega arith

    by_case : (P : ℕ → Type 0) → ((i : ℕ) → i < length ls → P i) → P (length ls) → (i : ℕ) → i < suc (length ls) → P i
    by_case P f z i l = ⊎_elim (λ q. subst P (sym q) z) (λ q. f i (omega (arith, q))) (numbers_or_not i (length ls))

-- the same of tables
pub table_taken : (n : ℕ) (t : Table) → IsIndexed t → IsIndexFor (lefts_of (take n t.rules.items)) t.by_letter t.by_pair
table_taken n t x =
    subst (λ ls. IsIndexFor ls t.by_letter t.by_pair) (take-map (λ r. r.left) n t.rules.items) (index_taken n (lefts_of t.rules.items) t.by_letter t.by_pair x)

pub table_kept : (t u : Table) → u.rules.items ≡ t.rules.items → KeepsIndexes t.by_letter u.by_letter → KeepsPairs t.by_pair u.by_pair → IsIndexed t → IsIndexed u
table_kept t u e hb hp x =
    subst (λ rs. IsIndexFor (lefts_of rs) u.by_letter u.by_pair) (sym e)
    (index_kept (lefts_of t.rules.items) t.by_letter u.by_letter t.by_pair u.by_pair hb hp x)

pub table_pushed : (t : Table) (r : WordRule) → IsIndexed t → ((a : ℕ) → exponent r.left a ≢ 0 → Contains (bucket t.by_letter a) (length t.rules.items)) →
    IsPaired t.by_pair (length t.rules.items) r.left → IsIndexFor (lefts_of (t.rules.items ++ r ∷ [])) t.by_letter t.by_pair
table_pushed t r x hb hp =
    let e = length-map t.rules.items (λ s. s.left) in
    subst (λ ls. IsIndexFor ls t.by_letter t.by_pair) (sym (map-append (λ s. s.left) t.rules.items (r ∷ [])))
    (index_pushed (lefts_of t.rules.items) r.left t.by_letter t.by_pair x
    (subst (λ n. (a : ℕ) → exponent r.left a ≢ 0 → Contains (bucket t.by_letter a) n) (sym e) hb)
    (subst (λ n. IsPaired t.by_pair n r.left) (sym e) hp))

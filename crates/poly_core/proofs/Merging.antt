-- The steps of merging two decreasing lists from their ends.
use Rattle.std.proofs.Common.{◌≡◌, ◌≢◌, ℕ, ◌<◌, ◌≤◌, ◌+◌, ◌-◌, suc, zero, refl, sym, ◌∙◌, ap, subst, List, [], ◌∷◌, ◌++◌, length, get_or, cond, Bool, true, false, ◌⊎◌, inl, inr, ⊎_elim, append-nil, append_assoc, arith}
use Rattle.std.specs.Prelude.{not, reverse, nat_eq}
use Rattle.std.proofs.lemmas.Bool.{true≢false, eqb-true}
use Rattle.std.proofs.lemmas.List.{reverse-append}
use Rattle.std.specs.declared.cmp.Ordering.TheVariants.{Less, Equal, Greater}
use Rattle.word_field.specs.Field.{FieldOps, IsField, IsValue}
use Rattle.word_field.specs.laws.Field.{plus_four, zero-plus-zero}
use Rattle.monomial_order.specs.declared.terms.Term.{Term}
use Rattle.monomial_order.specs.MonomialOrder.{MonomialOrder, IsMonomialOrder}
use Rattle.polynomials.specs.Polynomial.{Polynomial, same_monomial, coefficient, Same, term_of, IsBelow, IsLeadTerm, IsDecreasing, IsSmall, IsCanonical}
use Rattle.poly_core.specs.Merging.{MovesLast, AddsLast}
use Rattle.polynomials.specs.laws.Ring.{coefficient_value, coefficient-append}
use Rattle.polynomials.specs.laws.Same.{append_same}
use Rattle.polynomials.specs.laws.Decreasing.{IsBelow_trans}
use Rattle.polynomials.specs.laws.Terms.{IsBelow-append, IsBelow-left, IsBelow-right, IsDecreasing-right, IsDecreasing-left, IsSmall-append, IsSmall-left, IsSmall-right}
use Rattle.monomial_order.specs.laws.Comparing.{greater_less}

-- what is left of both lists, and the end of the sum
pub record IsMerging {E : Type 0} (K : FieldOps E) (O : MonomialOrder) (a b p q r : Polynomial E) : Type 0 where
  pub first : IsDecreasing K O (p ++ r)
  pub second : IsDecreasing K O (q ++ r)
  pub small_first : IsSmall O p
  pub small_second : IsSmall O q
  pub small : IsSmall O r
  pub sum : Same K ((p ++ q) ++ r) (a ++ b)

-- c is the sum of a and b
pub record IsMerged {E : Type 0} (K : FieldOps E) (O : MonomialOrder) (a b c : Polynomial E) : Type 0 where
  pub canonical : IsCanonical K O c
  pub sum : Same K c (a ++ b)

-- the last item of a list, by its index
pub last_at : {A : Type 0} (xs : List A) (x : A) (i : ℕ) → i + 1 ≡ length xs → x ≡ get_or xs i x → (ys : List A) × (xs ≡ ys ++ (x ∷ []))
last_at [] x i e h = absurd (omega arith)
last_at (y ∷ []) x zero e h = ([], ap (λ z. z ∷ []) (sym h))
last_at (y ∷ []) x (suc i) e h = absurd (omega arith)
last_at (y ∷ (z ∷ xs)) x zero e h = absurd (omega arith)
last_at (y ∷ (z ∷ xs)) x (suc i) e h = let r = last_at (z ∷ xs) x i (omega arith) h in (y ∷ r.0, ap (λ l. y ∷ l) r.1)

at_last : {A : Type 0} (ys : List A) (y : A) (i : ℕ) (d : A) → i + 1 ≡ length (ys ++ (y ∷ [])) → get_or (ys ++ (y ∷ [])) i d ≡ y
at_last [] y zero d e = refl
at_last [] y (suc i) d e = absurd (omega arith)
at_last (z ∷ ys) y zero d e = absurd (let l = Rattle.std.proofs.Common.length-append ys (y ∷ []) in omega arith)
at_last (z ∷ ys) y (suc i) d e = at_last ys y i d (omega arith)

last_is : {A : Type 0} (xs ys : List A) (y x : A) (i : ℕ) → xs ≡ ys ++ (y ∷ []) → i + 1 ≡ length xs → x ≡ get_or xs i x → x ≡ y
last_is xs ys y x i h e is = is ∙ (ap (λ l. get_or l i x) h ∙ at_last ys y i x (e ∙ ap length h))

module _ {E : Type 0} (K : FieldOps E) (F : IsField K) (O : MonomialOrder) (L : IsMonomialOrder O) where
  replaced : (x : Term E) (done p r : Polynomial E) → IsLeadTerm K O x (done ++ p) → IsBelow K O x.at r → IsLeadTerm K O x (done ++ r)
  replaced x done p r h k = record { term = h.term; nonzero = h.nonzero; above = IsBelow-append K O x.at done r (IsBelow-left K O x.at done p h.above) k }

  -- a term below the last goes after it
  IsDecreasing_under : (q : Polynomial E) (t s : Term E) (r : Polynomial E) → O.compare s.at t.at ≡ Less → IsDecreasing K O (q ++ (t ∷ r)) → IsDecreasing K O (s ∷ r) → IsDecreasing K O (q ++ (t ∷ (s ∷ r)))
  IsDecreasing_under [] t s r e h k = (record { term = h.0.term; nonzero = h.0.nonzero; above = (e, IsBelow_trans K F O L s.at t.at r e k.0.above) }, k)
  IsDecreasing_under (x ∷ q) t s r e h k =
      let b : IsBelow K O x.at (t ∷ r) = IsBelow-right K O x.at q (t ∷ r) h.0.above in (
        replaced x q (t ∷ r) (t ∷ (s ∷ r)) h.0 (b.0, (L.total.trans s.at t.at x.at e b.0, b.1)),
        IsDecreasing_under q t s r e h.1 k,
      )

  IsDecreasing_skip : (done : Polynomial E) (s : Term E) (p : Polynomial E) → IsDecreasing K O (done ++ (s ∷ p)) → IsDecreasing K O (done ++ p)
  IsDecreasing_skip [] s p h = h.1
  IsDecreasing_skip (x ∷ done) s p h = (replaced x done (s ∷ p) p h.0 (IsBelow-right K O x.at done (s ∷ p) h.0.above).1, IsDecreasing_skip done s p h.1)

  IsDecreasing_change : (done : Polynomial E) (s : Term E) (c : E) (p : Polynomial E) → IsValue K c → c ≢ K.zero →
      IsDecreasing K O (done ++ (s ∷ p)) → IsDecreasing K O (done ++ (term_of s.at c ∷ p))
  IsDecreasing_change [] s c p v n h = (record { term = record { monomial = h.0.term.monomial; value = v }; nonzero = n; above = h.0.above }, h.1)
  IsDecreasing_change (x ∷ done) s c p v n h =
      (replaced x done (s ∷ p) (term_of s.at c ∷ p) h.0 (IsBelow-right K O x.at done (s ∷ p) h.0.above), IsDecreasing_change done s c p v n h.1)

  moved : (p : Polynomial E) (s : Term E) (r : Polynomial E) → (p ++ (s ∷ [])) ++ r ≡ p ++ (s ∷ r)
  moved p s r = append_assoc p (s ∷ []) r

  three : (p q r : Polynomial E) (m : List ℕ) → coefficient K ((p ++ q) ++ r) m ≡ K.plus (K.plus (coefficient K p m) (coefficient K q m)) (coefficient K r m)
  three p q r m = coefficient-append K F (p ++ q) r m ∙ ap (λ x. K.plus x (coefficient K r m)) (coefficient-append K F p q m)

  -- a term goes from the end of the first list to the front of the rest
  first_moves : (p : Polynomial E) (s : Term E) (q r : Polynomial E) → Same K ((p ++ q) ++ (s ∷ r)) (((p ++ (s ∷ [])) ++ q) ++ r)
  first_moves p s q r m =
      let P = coefficient K p m in let Q = coefficient K q m in let R = coefficient K r m in let S = coefficient K (s ∷ []) m in
      three p q (s ∷ r) m ∙
      (ap (K.plus (K.plus P Q)) (coefficient-append K F (s ∷ []) r m) ∙
      (sym (F.plus_assoc (K.plus P Q) S R) ∙
      (ap (λ x. K.plus x R)
      (F.plus_assoc P Q S ∙ (ap (K.plus P) (F.plus_comm Q S) ∙ (sym (F.plus_assoc P S Q) ∙ ap (λ x. K.plus x Q) (sym (coefficient-append K F p (s ∷ []) m)))))
      ∙ sym (three (p ++ (s ∷ [])) q r m))))

  second_moves : (p q : Polynomial E) (t : Term E) (r : Polynomial E) → Same K ((p ++ q) ++ (t ∷ r)) ((p ++ (q ++ (t ∷ []))) ++ r)
  second_moves p q t r m =
      let P = coefficient K p m in let Q = coefficient K q m in let R = coefficient K r m in let T = coefficient K (t ∷ []) m in
      three p q (t ∷ r) m ∙
      (ap (K.plus (K.plus P Q)) (coefficient-append K F (t ∷ []) r m) ∙
      (sym (F.plus_assoc (K.plus P Q) T R) ∙
      (ap (λ x. K.plus x R) (F.plus_assoc P Q T ∙ ap (K.plus P) (sym (coefficient-append K F q (t ∷ []) m)))
      ∙ sym (three p (q ++ (t ∷ [])) r m))))

  -- the sum of two terms at one monomial
  share_sum : (k : List ℕ) (c d : E) (m : List ℕ) →
      K.plus (coefficient K (term_of k c ∷ []) m) (coefficient K (term_of k d ∷ []) m) ≡ coefficient K (term_of k (K.plus c d) ∷ []) m
  unfolding coefficient
  share_sum k c d m = cases (same_monomial k m)
    where
      cases : (v : Bool) → K.plus (K.plus (cond v c K.zero) K.zero) (K.plus (cond v d K.zero) K.zero) ≡ K.plus (cond v (K.plus c d) K.zero) K.zero
      cases true = plus_four K F c K.zero d K.zero ∙ ap (K.plus (K.plus c d)) (zero-plus-zero K F)
      cases false = ap (λ x. K.plus x (K.plus K.zero K.zero)) (zero-plus-zero K F) ∙ ap (K.plus K.zero) (zero-plus-zero K F)

  both_move : (p : Polynomial E) (s : Term E) (q : Polynomial E) (t : Term E) (r : Polynomial E) → s.at ≡ t.at →
      Same K ((p ++ q) ++ (term_of s.at (K.plus s.by t.by) ∷ r)) (((p ++ (s ∷ [])) ++ (q ++ (t ∷ []))) ++ r)
  both_move p s q t r e m =
      let P = coefficient K p m in let Q = coefficient K q m in let R = coefficient K r m in
      let S = coefficient K (s ∷ []) m in let T = coefficient K (t ∷ []) m in
      three p q (term_of s.at (K.plus s.by t.by) ∷ r) m ∙
      (ap (K.plus (K.plus P Q)) (coefficient-append K F (term_of s.at (K.plus s.by t.by) ∷ []) r m) ∙
      (sym (F.plus_assoc (K.plus P Q) (coefficient K (term_of s.at (K.plus s.by t.by) ∷ []) m) R) ∙
      (ap (λ x. K.plus x R)
      (ap (K.plus (K.plus P Q)) (sym (share_sum s.at s.by t.by m) ∙ ap (λ k. K.plus S (coefficient K (term_of k t.by ∷ []) m)) e) ∙
      (plus_four K F P Q S T ∙
      (ap (λ x. K.plus x (K.plus Q T)) (sym (coefficient-append K F p (s ∷ []) m)) ∙
      ap (K.plus (coefficient K (p ++ (s ∷ [])) m)) (sym (coefficient-append K F q (t ∷ []) m))))) ∙
      sym (three (p ++ (s ∷ [])) (q ++ (t ∷ [])) r m))))

  nothing : (k : List ℕ) (m : List ℕ) → coefficient K (term_of k K.zero ∷ []) m ≡ K.zero
  unfolding coefficient
  nothing k m = elim (same_monomial k m) as (λ v. K.plus (cond v K.zero K.zero) K.zero ≡ K.zero) [ true ↦ zero-plus-zero K F | false ↦ zero-plus-zero K F ]

  vanishes : (p : Polynomial E) (k : List ℕ) (c : E) (r : Polynomial E) → c ≡ K.zero → Same K (p ++ r) (p ++ (term_of k c ∷ r))
  vanishes p k c r z m =
      append_same K F p p r (term_of k c ∷ r) (λ n. refl)
      (λ n. sym (coefficient_value K F r n) ∙
      (sym (Rattle.word_field.specs.laws.Field.zero-plus K F (coefficient K r n)) ∙
      (ap (λ x. K.plus x (coefficient K r n)) (sym (nothing k n) ∙ ap (λ y. coefficient K (term_of k y ∷ []) n) (sym z)) ∙
      sym (coefficient-append K F (term_of k c ∷ []) r n)))) m

  module _ (a b p q r : Polynomial E) (s t : Term E) where
    -- the last terms are s and t
    abbrev Last : Type 0
    Last = IsMerging K O a b (p ++ (s ∷ [])) (q ++ (t ∷ [])) r

    pub take_first : O.compare s.at t.at ≡ Less → Last → IsMerging K O a b p (q ++ (t ∷ [])) (s ∷ r)
    take_first e h =
        let f : IsDecreasing K O (p ++ (s ∷ r)) = subst (IsDecreasing K O) (moved p s r) h.first in
        let g : IsDecreasing K O (q ++ (t ∷ r)) = subst (IsDecreasing K O) (moved q t r) h.second in
        record {
          first = f;
          second = subst (IsDecreasing K O) (sym (moved q t (s ∷ r))) (IsDecreasing_under q t s r e g (IsDecreasing-right K O p (s ∷ r) f));
          small_first = IsSmall-left O p (s ∷ []) h.small_first;
          small_second = h.small_second;
          small = ((IsSmall-right O p (s ∷ []) h.small_first).0, h.small);
          sum = λ m. first_moves p s (q ++ (t ∷ [])) r m ∙ h.sum m;
        }

    pub take_second : O.compare s.at t.at ≡ Greater → Last → IsMerging K O a b (p ++ (s ∷ [])) q (t ∷ r)
    take_second e h =
        let f : IsDecreasing K O (p ++ (s ∷ r)) = subst (IsDecreasing K O) (moved p s r) h.first in
        let g : IsDecreasing K O (q ++ (t ∷ r)) = subst (IsDecreasing K O) (moved q t r) h.second in
        record {
          first = subst (IsDecreasing K O) (sym (moved p s (t ∷ r))) (IsDecreasing_under p s t r (greater_less O L s.at t.at e) f (IsDecreasing-right K O q (t ∷ r) g));
          second = g;
          small_first = h.small_first;
          small_second = IsSmall-left O q (t ∷ []) h.small_second;
          small = ((IsSmall-right O q (t ∷ []) h.small_second).0, h.small);
          sum = λ m. second_moves (p ++ (s ∷ [])) q t r m ∙ h.sum m;
        }

    pub take_both : O.compare s.at t.at ≡ Equal → K.plus s.by t.by ≢ K.zero → Last → IsMerging K O a b p q (term_of s.at (K.plus s.by t.by) ∷ r)
    take_both e n h =
        let at : s.at ≡ t.at = L.equal s.at t.at e in
        let v : IsValue K (K.plus s.by t.by) = F.plus_value s.by t.by in
        record {
          first = IsDecreasing_change p s (K.plus s.by t.by) r v n (subst (IsDecreasing K O) (moved p s r) h.first);
          second = subst (λ k. IsDecreasing K O (q ++ (term_of k (K.plus s.by t.by) ∷ r))) (sym at)
              (IsDecreasing_change q t (K.plus s.by t.by) r v n (subst (IsDecreasing K O) (moved q t r) h.second));
          small_first = IsSmall-left O p (s ∷ []) h.small_first;
          small_second = IsSmall-left O q (t ∷ []) h.small_second;
          small = ((IsSmall-right O p (s ∷ []) h.small_first).0, h.small);
          sum = λ m. both_move p s q t r at m ∙ h.sum m;
        }

    pub drop_both : O.compare s.at t.at ≡ Equal → K.plus s.by t.by ≡ K.zero → Last → IsMerging K O a b p q r
    drop_both e z h =
        let at : s.at ≡ t.at = L.equal s.at t.at e in
        record {
          first = IsDecreasing_skip p s r (subst (IsDecreasing K O) (moved p s r) h.first);
          second = IsDecreasing_skip q t r (subst (IsDecreasing K O) (moved q t r) h.second);
          small_first = IsSmall-left O p (s ∷ []) h.small_first;
          small_second = IsSmall-left O q (t ∷ []) h.small_second;
          small = h.small;
          sum = λ m. vanishes (p ++ q) s.at (K.plus s.by t.by) r z m ∙ (both_move p s q t r at m ∙ h.sum m);
        }

  pub first_done : (a b q r : Polynomial E) → IsMerging K O a b [] q r → IsMerged K O a b (q ++ r)
  first_done a b q r h = record { canonical = record { decreasing = h.second; small = IsSmall-append O q r h.small_second h.small }; sum = h.sum }

  pub second_done : (a b p r : Polynomial E) → IsMerging K O a b p [] r → IsMerged K O a b (p ++ r)
  second_done a b p r h = record {
    canonical = record { decreasing = h.first; small = IsSmall-append O p r h.small_first h.small };
    sum = λ m. ap (λ x. coefficient K (x ++ r) m) (sym (append-nil p)) ∙ h.sum m;
  }

-- the end of a list, reversed
pub reverse_last : {A : Type 0} (xs : List A) (x : A) → reverse (xs ++ (x ∷ [])) ≡ x ∷ reverse xs
reverse_last xs x = reverse-append xs (x ∷ [])

-- what follows from a test by `!=`
pub told_differ : (n e : Bool) → n ≡ true → n ≡ not e → e ≡ true → ⊥
told_differ n true h k r = absurd (true≢false (sym h ∙ k))
told_differ n false h k r = absurd (true≢false (sym r))

pub told_same : (n e : Bool) → n ≡ false → n ≡ not e → e ≡ true
told_same n true h k = refl
told_same n false h k = absurd (true≢false (sym k ∙ h))

module _ {E : Type 0} (K : FieldOps E) (F : IsField K) (O : MonomialOrder) (L : IsMonomialOrder O) (a b p q r : Polynomial E) (h : IsMerging K O a b p q (reverse r)) where
  pub first_canonical : IsCanonical K O p
  first_canonical = record { decreasing = IsDecreasing-left K O p (reverse r) h.first; small = h.small_first }

  pub second_canonical : IsCanonical K O q
  second_canonical = record { decreasing = IsDecreasing-left K O q (reverse r) h.second; small = h.small_second }

  put_last : (r' : Polynomial E) (x : Term E) (p' q' : Polynomial E) → r' ≡ r ++ (x ∷ []) → IsMerging K O a b p' q' (x ∷ reverse r) → IsMerging K O a b p' q' (reverse r')
  put_last r' x p' q' e k = subst (IsMerging K O a b p' q') (sym (ap reverse e ∙ reverse_last r x)) k

  module _ (s t : Term E) (i j : ℕ) (ei : i + 1 ≡ length p) (ej : j + 1 ≡ length q) (es : s ≡ get_or p i s) (et : t ≡ get_or q j t) where
    pub first_moved : (p' r' : Polynomial E) → MovesLast p p' r r' → O.compare s.at t.at ≡ Less → IsMerging K O a b p' q (reverse r')
    first_moved p' r' m e =
        let end = last_at q t j ej et in
        let is : s ≡ m.item = last_is p p' m.item s i m.taken ei es in
        put_last r' m.item p' q m.put
        (subst (λ x. IsMerging K O a b p' x (m.item ∷ reverse r)) (sym end.1)
        (take_first K F O L a b p' end.0 (reverse r) m.item t (ap (λ x. O.compare x.at t.at) (sym is) ∙ e)
        (subst (λ x. IsMerging K O a b x (end.0 ++ (t ∷ [])) (reverse r)) m.taken (subst (λ x. IsMerging K O a b p x (reverse r)) end.1 h))))

    pub second_moved : (q' r' : Polynomial E) → MovesLast q q' r r' → O.compare s.at t.at ≡ Greater → IsMerging K O a b p q' (reverse r')
    second_moved q' r' m e =
        let end = last_at p s i ei es in
        let is : t ≡ m.item = last_is q q' m.item t j m.taken ej et in
        put_last r' m.item p q' m.put
        (subst (λ x. IsMerging K O a b x q' (m.item ∷ reverse r)) (sym end.1)
        (take_second K F O L a b end.0 q' (reverse r) s m.item (ap (λ x. O.compare s.at x.at) (sym is) ∙ e)
        (subst (λ x. IsMerging K O a b x (q' ++ (m.item ∷ [])) (reverse r)) end.1 (subst (λ x. IsMerging K O a b p x (reverse r)) m.taken h))))

    pub both_added : (p' q' r' : Polynomial E) → AddsLast K p p' q q' r r' → O.compare s.at t.at ≡ Equal → IsMerging K O a b p' q' (reverse r')
    both_added p' q' r' m e =
        let u = m.left in
        let v = m.right in
        let left : s ≡ m.left = last_is p p' m.left s i m.left_taken ei es in
        let right : t ≡ m.right = last_is q q' m.right t j m.right_taken ej et in
        let same : O.compare m.left.at m.right.at ≡ Equal = ap (λ x. O.compare x.at m.right.at) (sym left) ∙ (ap (λ x. O.compare s.at x.at) (sym right) ∙ e) in
        let last : IsMerging K O a b (p' ++ (m.left ∷ [])) (q' ++ (m.right ∷ [])) (reverse r) =
        subst (λ x. IsMerging K O a b x (q' ++ (m.right ∷ [])) (reverse r)) m.left_taken (subst (λ x. IsMerging K O a b p x (reverse r)) m.right_taken h) in
        ⊎_elim
        (λ z. subst (λ x. IsMerging K O a b p' q' (reverse x)) (sym z.1) (drop_both K F O L a b p' q' (reverse r) m.left m.right same z.0 last))
        (λ z. put_last r' (term_of m.left.at (K.plus m.left.by m.right.by)) p' q' z.1 (take_both K F O L a b p' q' (reverse r) m.left m.right same z.0 last))
        m.put

-- what follows from a test of emptiness
pub told_positive : (n : ℕ) (b : Bool) → b ≡ false → b ≡ nat_eq n 0 → 1 ≤ n
told_positive zero b h k = absurd (true≢false (sym k ∙ h))
told_positive (suc n) b h k = omega arith

pub told_empty : {A : Type 0} (xs : List A) (n : ℕ) (b : Bool) → b ≡ true → b ≡ nat_eq n 0 → n ≡ length xs → xs ≡ []
told_empty [] n b h k e = refl
told_empty (x ∷ xs) zero b h k e = absurd (omega arith)
told_empty (x ∷ xs) (suc n) b h k e = absurd (let z : suc n ≡ 0 = eqb-true (suc n) 0 (sym k ∙ h) in omega arith)

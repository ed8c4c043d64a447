-- What adding a term makes of a decreasing list.
use Rattle.std.proofs.Common.{◌≡◌, ◌≢◌, ◌+◌, ◌-◌, ◌<◌, ◌≤◌, refl, sym, ap, ◌∙◌, subst, [], ◌∷◌, ◌++◌, length, length-append, append-nil, append_assoc, arith, Bool, true, false, cond, inl, inr}
use Rattle.std.proofs.lemmas.Bool.{true≢false}
use Rattle.std.specs.declared.cmp.Ordering.TheVariants.{Less}
use Rattle.word_field.specs.Field.{FieldOps, IsField, IsValue}
use Rattle.word_field.specs.laws.Field.{zero-plus-zero, zero-times}
use Rattle.monomial_order.specs.declared.terms.Term.{Term}
use Rattle.monomial_order.specs.Monomial.{Exponents}
use Rattle.monomial_order.specs.MonomialOrder.{MonomialOrder, IsMonomialOrder}
use Rattle.polynomials.specs.Polynomial.{Polynomial, same_monomial, share, coefficient, Same, term_of, term_times, scaled, AllAt, IsTerm, IsBelow, IsDecreasing, IsSmall, IsCanonical}
use Rattle.polynomials.specs.laws.Same.{append_same, append_comm, cons_zero}
use Rattle.polynomials.specs.laws.Decreasing.{IsBelow_trans}
use Rattle.polynomials.specs.laws.Terms.{AllAt-append, IsBelow-append, IsBelow-right, IsDecreasing-left, IsDecreasing-right, IsSmall-append, IsSmall-left, IsSmall-right, AllAt-map}
use Rattle.linked_terms.specs.Cursor.{Cursor}
use Rattle.linked_terms.specs.Merging.{IsAbove, NextIs, HasPassed, IsCombined, IsAdded}

AllAt-both : {E : Type 0} (P Q : Exponents → Type 0) (p : Polynomial E) → AllAt P p → AllAt Q p → AllAt (λ k. P k × Q k) p
AllAt-both P Q [] a b = tt
AllAt-both P Q (t ∷ p) a b = ((a.0, b.0), AllAt-both P Q p a.1 b.1)

module _ {E : Type 0} (K : FieldOps E) (F : IsField K) (O : MonomialOrder) (L : IsMonomialOrder O) where
  -- each term of p is greater than all terms of q
  abbrev AreAbove : Polynomial E → Polynomial E → Type 0
  AreAbove p q = AllAt (λ k. IsBelow K O k q) p

  IsDecreasing_above : (p q : Polynomial E) → IsDecreasing K O (p ++ q) → AreAbove p q
  IsDecreasing_above [] q h = tt
  IsDecreasing_above (x ∷ p) q h = (IsBelow-right K O x.at p q h.0.above, IsDecreasing_above p q h.1)

  IsDecreasing_join : (p q : Polynomial E) → IsDecreasing K O p → IsDecreasing K O q → AreAbove p q → IsDecreasing K O (p ++ q)
  IsDecreasing_join [] q h k a = k
  IsDecreasing_join (x ∷ p) q h k a = (
    record { term = h.0.term; nonzero = h.0.nonzero; above = IsBelow-append K O x.at p q h.0.above a.0 },
    IsDecreasing_join p q h.1 k a.1,
  )

  IsCanonical_join : (p q q' : Polynomial E) → IsCanonical K O (p ++ q) → IsDecreasing K O q' → IsSmall O q' → AreAbove p q' → IsCanonical K O (p ++ q')
  IsCanonical_join p q q' h k s a = record {
    decreasing = IsDecreasing_join p q' (IsDecreasing-left K O p q h.decreasing) k a;
    small = IsSmall-append O p q' (IsSmall-left O p q h.small) s;
  }

  -- the sums of the coefficients
  sum_inserted : (p q : Polynomial E) (t : Term E) → Same K (p ++ t ∷ q) ((p ++ q) ++ t ∷ [])
  sum_inserted p q t m =
      append_same K F p p (t ∷ q) (q ++ t ∷ []) (λ n. refl) (append_comm K F (t ∷ []) q) m ∙
      ap (λ r. coefficient K r m) (sym (append_assoc p q (t ∷ [])))

  share_both : (b : Bool) (c d r : E) → K.plus (cond b (K.plus c d) K.zero) r ≡ K.plus (cond b d K.zero) (K.plus (cond b c K.zero) r)
  share_both true c d r = ap (λ x. K.plus x r) (F.plus_comm c d) ∙ F.plus_assoc d c r
  share_both false c d r = ap (λ x. K.plus x r) (sym (zero-plus-zero K F)) ∙ F.plus_assoc K.zero K.zero r

  sum_met : (u t : Term E) (r : Polynomial E) → u.at ≡ t.at → Same K (term_of t.at (K.plus u.by t.by) ∷ r) (t ∷ (u ∷ r))
  unfolding coefficient
  sum_met u t r e m =
      share_both (same_monomial t.at m) u.by t.by (coefficient K r m) ∙
      ap (λ k. K.plus (share K m t) (K.plus (cond (same_monomial k m) u.by K.zero) (coefficient K r m))) (sym e)

  -- products with zero add nothing
  pub sum_nothing : (s : Term E) → s.by ≡ K.zero → (p q : Polynomial E) → Same K p (p ++ scaled K s q)
  sum_nothing s z p q m = ap (λ r. coefficient K r m) (sym (append-nil p)) ∙ append_same K F p p [] (scaled K s q) (λ n. refl) (nothing q) m
    where
      nothing : (q : Polynomial E) → Same K [] (scaled K s q)
      nothing [] m = refl
      nothing (t ∷ q) m = nothing q m ∙ cons_zero K F (term_times K s t) (scaled K s q) (ap (λ x. K.times x t.by) z ∙ zero-times K F t.by) m

  sum_combined : (p : Polynomial E) (u t : Term E) (r : Polynomial E) → u.at ≡ t.at →
      Same K (p ++ term_of t.at (K.plus u.by t.by) ∷ r) ((p ++ u ∷ r) ++ t ∷ [])
  sum_combined p u t r e m =
      append_same K F p p (term_of t.at (K.plus u.by t.by) ∷ r) (t ∷ (u ∷ r)) (λ n. refl) (sum_met u t r e) m ∙ sum_inserted p (u ∷ r) t m

  sum_cancelled : (p : Polynomial E) (u t : Term E) (r : Polynomial E) → u.at ≡ t.at → K.plus u.by t.by ≡ K.zero → Same K (p ++ r) ((p ++ u ∷ r) ++ t ∷ [])
  sum_cancelled p u t r e z m =
      append_same K F p p r (term_of t.at (K.plus u.by t.by) ∷ r) (λ n. refl) (cons_zero K F (term_of t.at (K.plus u.by t.by)) r z) m ∙ sum_combined p u t r e m

  module _ (t : Term E) (term : IsTerm K O.places t) (small : O.degree t.at ≤ 65535) where
    inserted : (p q : Polynomial E) → IsCanonical K O (p ++ q) → t.by ≢ K.zero → IsAbove O t.at p → NextIs O t.at false q → IsCanonical K O (p ++ t ∷ q)
    inserted p q h n a x =
        let below : IsBelow K O t.at q = under q (IsDecreasing-right K O p q h.decreasing) x in
        IsCanonical_join p q (t ∷ q) h
        (record { term = term; nonzero = n; above = below }, IsDecreasing-right K O p q h.decreasing)
        (small, IsSmall-right O p q h.small)
        (AllAt-both (λ k. O.compare t.at k ≡ Less) (λ k. IsBelow K O k q) p a (IsDecreasing_above p q h.decreasing))
      where
        under : (q : Polynomial E) → IsDecreasing K O q → NextIs O t.at false q → IsBelow K O t.at q
        under [] k x = tt
        under (u ∷ q) k x = (x, IsBelow_trans K F O L u.at t.at q x k.0.above)

    removed : (p : Polynomial E) (u : Term E) (r : Polynomial E) → IsCanonical K O (p ++ u ∷ r) → IsCanonical K O (p ++ r)
    removed p u r h =
        IsCanonical_join p (u ∷ r) r h (IsDecreasing-right K O p (u ∷ r) h.decreasing).1 (IsSmall-right O p (u ∷ r) h.small).1
        (AllAt-map (λ k. IsBelow K O k (u ∷ r)) (λ k. IsBelow K O k r) (λ k b. b.1) p (IsDecreasing_above p (u ∷ r) h.decreasing))

    changed : (p : Polynomial E) (u : Term E) (r : Polynomial E) (c : E) → IsCanonical K O (p ++ u ∷ r) → IsValue K c → c ≢ K.zero → u.at ≡ t.at → IsCanonical K O (p ++ term_of t.at c ∷ r)
    changed p u r c h v n e =
        let right = IsDecreasing-right K O p (u ∷ r) h.decreasing in
        IsCanonical_join p (u ∷ r) (term_of t.at c ∷ r) h
        (record { term = record { monomial = term.monomial; value = v }; nonzero = n; above = subst (λ k. IsBelow K O k r) e right.0.above }, right.1)
        (small, (IsSmall-right O p (u ∷ r) h.small).1)
        (AllAt-map (λ k. IsBelow K O k (u ∷ r)) (λ k. IsBelow K O k (term_of t.at c ∷ r)) (λ k b. (subst (λ m. O.compare m k ≡ Less) e b.0, b.1)) p (IsDecreasing_above p (u ∷ r) h.decreasing))

    less_above : (p : Polynomial E) → IsAbove O t.at p → (m : Exponents) → O.compare m t.at ≡ Less → IsAbove O m p
    less_above p a m l = AllAt-map (λ k. O.compare t.at k ≡ Less) (λ k. O.compare m k ≡ Less) (λ k b. L.total.trans m t.at k l b) p a

    module _ (old mid : Cursor (Term E)) (canonical : IsCanonical K O (old.before ++ old.after)) (above : IsAbove O t.at old.before) (room : 0 < old.spare)
        (walk : HasPassed O t.at old mid) where
      whole : old.before ++ old.after ≡ mid.before ++ mid.after
      whole =
          ap (λ q. old.before ++ q) walk.right ∙
          (sym (append_assoc old.before walk.passed mid.after) ∙ ap (λ p. p ++ mid.after) (sym walk.left))

      canonical_mid : IsCanonical K O (mid.before ++ mid.after)
      canonical_mid = subst (IsCanonical K O) whole canonical

      above_mid : IsAbove O t.at mid.before
      above_mid = subst (IsAbove O t.at) (sym walk.left) (AllAt-append (λ k. O.compare t.at k ≡ Less) old.before walk.passed above walk.above)

      counted : length mid.before + length mid.after ≡ length old.before + length old.after
      counted = omega (arith, ap length whole, length-append old.before old.after, length-append mid.before mid.after)

      pub added_new : (new : Cursor (Term E)) → t.by ≢ K.zero → NextIs O t.at false mid.after →
          new ≡ record { before = mid.before ++ t ∷ []; after = mid.after; spare = mid.spare - 1 } → IsAdded K O t old new
      added_new new n x e =
          let b : new.before ≡ mid.before ++ t ∷ [] = ap (λ (v : Cursor (Term E)). v.before) e in
          let a : new.after ≡ mid.after = ap (λ (v : Cursor (Term E)). v.after) e in
          let s : new.spare ≡ mid.spare - 1 = ap (λ (v : Cursor (Term E)). v.spare) e in
          let list : new.before ++ new.after ≡ mid.before ++ t ∷ mid.after =
          ap (λ p. p ++ new.after) b ∙ (ap (λ q. (mid.before ++ t ∷ []) ++ q) a ∙ append_assoc mid.before (t ∷ []) mid.after) in
          record {
            canonical = subst (IsCanonical K O) (sym list) (inserted mid.before mid.after canonical_mid n above_mid x);
            sum = λ m. ap (λ p. coefficient K p m) list ∙ (sum_inserted mid.before mid.after t m ∙ ap (λ p. coefficient K (p ++ t ∷ []) m) (sym whole));
            above = λ m l. subst (IsAbove O m) (sym b) (AllAt-append (λ k. O.compare m k ≡ Less) mid.before (t ∷ []) (less_above mid.before above_mid m l) (l, tt));
            count = omega (arith, counted, walk.spare, ap length b, ap length a, length-append mid.before (t ∷ []));
            room = omega (arith, walk.spare);
          }

      added_met : (new : Cursor (Term E)) (u : Term E) (r : Polynomial E) → u.at ≡ t.at → mid.after ≡ u ∷ r →
          IsCombined K t.by u r mid new → IsAdded K O t old new
      added_met new u r e q (inl h) =
          let b : new.before ≡ mid.before = ap (λ (v : Cursor (Term E)). v.before) h.1 in
          let a : new.after ≡ r = ap (λ (v : Cursor (Term E)). v.after) h.1 in
          let s : new.spare ≡ mid.spare + 1 = ap (λ (v : Cursor (Term E)). v.spare) h.1 in
          let list : new.before ++ new.after ≡ mid.before ++ r = ap (λ p. p ++ new.after) b ∙ ap (λ p. mid.before ++ p) a in
          let whole' : old.before ++ old.after ≡ mid.before ++ u ∷ r = whole ∙ ap (λ p. mid.before ++ p) q in
          record {
            canonical = subst (IsCanonical K O) (sym list) (removed mid.before u r (subst (λ p. IsCanonical K O (mid.before ++ p)) q canonical_mid));
            sum = λ m. ap (λ p. coefficient K p m) list ∙ (sum_cancelled mid.before u t r e h.0 m ∙ ap (λ p. coefficient K (p ++ t ∷ []) m) (sym whole'));
            above = λ m l. subst (IsAbove O m) (sym b) (less_above mid.before above_mid m l);
            count = omega (arith, counted, walk.spare, ap length b, ap length a, ap length q);
            room = omega (arith, walk.spare);
          }
      added_met new u r e q (inr h) =
          let c = K.plus u.by t.by in
          let b : new.before ≡ mid.before ++ term_of t.at c ∷ [] =
          ap (λ (v : Cursor (Term E)). v.before) h.1 ∙ ap (λ k. mid.before ++ term_of k c ∷ []) e in
          let a : new.after ≡ r = ap (λ (v : Cursor (Term E)). v.after) h.1 in
          let s : new.spare ≡ mid.spare = ap (λ (v : Cursor (Term E)). v.spare) h.1 in
          let list : new.before ++ new.after ≡ mid.before ++ term_of t.at c ∷ r =
          ap (λ p. p ++ new.after) b ∙ (ap (λ p. (mid.before ++ term_of t.at c ∷ []) ++ p) a ∙ append_assoc mid.before (term_of t.at c ∷ []) r) in
          let whole' : old.before ++ old.after ≡ mid.before ++ u ∷ r = whole ∙ ap (λ p. mid.before ++ p) q in
          record {
            canonical = subst (IsCanonical K O) (sym list)
                (changed mid.before u r c (subst (λ p. IsCanonical K O (mid.before ++ p)) q canonical_mid) (F.plus_value u.by t.by) h.0 e);
            sum = λ m. ap (λ p. coefficient K p m) list ∙ (sum_combined mid.before u t r e m ∙ ap (λ p. coefficient K (p ++ t ∷ []) m) (sym whole'));
            above = λ m l. subst (IsAbove O m) (sym b) (AllAt-append (λ k. O.compare m k ≡ Less) mid.before (term_of t.at c ∷ []) (less_above mid.before above_mid m l) (l, tt));
            count = omega (arith, counted, walk.spare, ap length b, ap length a, ap length q, length-append mid.before (term_of t.at c ∷ []));
            room = omega (arith, walk.spare);
          }

      pub added_found : (new : Cursor (Term E)) → NextIs O t.at true mid.after →
          ((u : Term E) (r : Polynomial E) → mid.after ≡ u ∷ r → IsCombined K t.by u r mid new) → IsAdded K O t old new
      added_found new x h = cases mid.after x refl
        where
          cases : (q : Polynomial E) → NextIs O t.at true q → mid.after ≡ q → IsAdded K O t old new
          cases [] x e = absurd (true≢false x)
          cases (u ∷ r) x e = added_met new u r x e (h u r e)

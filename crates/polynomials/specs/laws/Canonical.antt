-- Each polynomial has a canonical form.
use Rattle.std.proofs.Common.{◌≡◌, ◌≢◌, refl, sym, ◌∙◌, ap, [], ◌∷◌, cond, Bool, true, false, ◌⊎◌, inl, inr, ⊎_elim}
use Rattle.std.specs.declared.cmp.Ordering.TheVariants.{Less, Equal, Greater}
use Rattle.word_field.specs.Field.{FieldOps, IsField}
use Rattle.word_field.specs.laws.Field.{plus_swap, zero-plus-zero}
use Rattle.monomial_order.specs.declared.terms.Term.{Term}
use Rattle.monomial_order.specs.MonomialOrder.{MonomialOrder, IsMonomialOrder}
use Rattle.polynomials.specs.Polynomial.{Polynomial, same_monomial, share, coefficient, Same, term_of, IsTerm, IsPoly, IsBelow, IsDecreasing, IsLead}
use Rattle.polynomials.specs.laws.Same.{append_same, cons_zero}
use Rattle.polynomials.specs.laws.Decreasing.{IsBelow_trans, IsLead_first}
use Rattle.monomial_order.specs.laws.Comparing.{greater_less}
use Rattle.monomial_order.specs.Monomial.{Exponents}

module _ {E : Type 0} (K : FieldOps E) (F : IsField K) (O : MonomialOrder) (L : IsMonomialOrder O) where
  -- q is the canonical form of p
  pub record IsCanonicalForm (p q : Polynomial E) : Type 0 where
    pub decreasing : IsDecreasing K O q
    pub same : Same K q p

  -- q is p with t put in its place
  record IsInserted (t : Term E) (p q : Polynomial E) : Type 0 where
    decreasing : IsDecreasing K O q
    same : Same K q (t ∷ p)
    below : (m : Exponents) → O.compare t.at m ≡ Less → IsBelow K O m p → IsBelow K O m q

  cons_same : (t : Term E) (p q : Polynomial E) → Same K p q → Same K (t ∷ p) (t ∷ q)
  cons_same t p q h m = append_same K F (t ∷ []) (t ∷ []) p q (λ n. refl) h m

  cons_swap : (t u : Term E) (p : Polynomial E) → Same K (t ∷ (u ∷ p)) (u ∷ (t ∷ p))
  unfolding coefficient
  cons_swap t u p m = plus_swap K F (share K m t) (share K m u) (coefficient K p m)

  share_plus : (b : Bool) (c d : E) → cond b (K.plus c d) K.zero ≡ K.plus (cond b c K.zero) (cond b d K.zero)
  share_plus true c d = refl
  share_plus false c d = sym (zero-plus-zero K F)

  cons_sum : (k : Exponents) (c d : E) (p : Polynomial E) → Same K (term_of k (K.plus c d) ∷ p) (term_of k c ∷ (term_of k d ∷ p))
  unfolding coefficient
  cons_sum k c d p m =
      ap (λ x. K.plus x (coefficient K p m)) (share_plus (same_monomial k m) c d) ∙
      F.plus_assoc (cond (same_monomial k m) c K.zero) (cond (same_monomial k m) d K.zero) (coefficient K p m)

  insert : (t : Term E) → IsTerm K O.places t → t.by ≢ K.zero → (p : Polynomial E) → IsDecreasing K O p → (q : Polynomial E) × IsInserted t p q
  insert t h n [] f = (
    t ∷ [],
    record {
      decreasing = (record { term = h; nonzero = n; above = tt }, tt);
      same = λ m. refl;
      below = λ m lt b. (lt, tt);
    },
  )
  insert t h n (u ∷ p) f =
      elim (O.compare t.at u.at) as (λ o. O.compare t.at u.at ≡ o → (q : Polynomial E) × IsInserted t (u ∷ p) q) [
        | Greater ↦ λ e.
            let lt : O.compare u.at t.at ≡ Less = greater_less O L t.at u.at e in (
              t ∷ (u ∷ p),
              record {
                decreasing = (record { term = h; nonzero = n; above = (lt, IsBelow_trans K F O L u.at t.at p lt f.0.above) }, f);
                same = λ m. refl;
                below = λ m l b. (l, b);
              },
            )
        | Less ↦ λ e.
            let rest : (q : Polynomial E) × IsInserted t p q = insert t h n p f.1 in (
              u ∷ rest.0,
              record {
                decreasing = (record { term = f.0.term; nonzero = f.0.nonzero; above = rest.1.below u.at e f.0.above }, rest.1.decreasing);
                same = λ m. cons_same u rest.0 (t ∷ p) rest.1.same m ∙ cons_swap u t p m;
                below = λ m l b. (b.0, rest.1.below m l b.1);
              },
            )
        | Equal ↦ λ e. both (L.equal t.at u.at e) (F.equal_or_not (K.plus t.by u.by) K.zero)
      ] refl
    where
      merged_same : t.at ≡ u.at → Same K (term_of u.at (K.plus t.by u.by) ∷ p) (t ∷ (u ∷ p))
      merged_same at m = cons_sum u.at t.by u.by p m ∙ ap (λ k. coefficient K (term_of k t.by ∷ (u ∷ p)) m) (sym at)

      both : t.at ≡ u.at → (K.plus t.by u.by ≡ K.zero) ⊎ (K.plus t.by u.by ≢ K.zero) → (q : Polynomial E) × IsInserted t (u ∷ p) q
      both at (inl z) = (
        p,
        record {
          decreasing = f.1;
          same = λ m. cons_zero K F (term_of u.at (K.plus t.by u.by)) p z m ∙ merged_same at m;
          below = λ m l b. b.1;
        },
      )
      both at (inr z) = (
        term_of u.at (K.plus t.by u.by) ∷ p,
        record {
          decreasing = (record { term = record { monomial = f.0.term.monomial; value = F.plus_value t.by u.by }; nonzero = z; above = f.0.above }, f.1);
          same = λ m. merged_same at m;
          below = λ m l b. b;
        },
      )

  pub canonical : (p : Polynomial E) → IsPoly K O.places p → (q : Polynomial E) × IsCanonicalForm p q
  canonical [] h = ([], record { decreasing = tt; same = λ m. refl })
  canonical (t ∷ p) h =
      let rest : (q : Polynomial E) × IsCanonicalForm p q = canonical p h.1 in
      ⊎_elim
      (λ z. (rest.0, record { decreasing = rest.1.decreasing; same = λ m. rest.1.same m ∙ cons_zero K F t p z m }))
      (λ n.
      let r : (q : Polynomial E) × IsInserted t rest.0 q = insert t h.0 n rest.0 rest.1.decreasing in
      (r.0, record { decreasing = r.1.decreasing; same = λ m. r.1.same m ∙ cons_same t rest.0 p rest.1.same m }))
      (F.equal_or_not t.by K.zero)

  -- the lead of a polynomial does not depend on its form
  pub IsLead_same : (p q : Polynomial E) (m : Exponents) → Same K p q → IsLead K O p m → IsLead K O q m
  IsLead_same p q m h l = record {
    nonzero = λ e. l.nonzero (h m ∙ e);
    greatest = λ n k ne. l.greatest n (λ e. k (sym (h n) ∙ e)) ne;
  }

  -- a polynomial is zero, or it has a lead
  pub zero_or_lead : (p : Polynomial E) → IsPoly K O.places p → Same K p [] ⊎ ((m : Exponents) × IsLead K O p m)
  zero_or_lead p h = by_form (canonical p h)
    where
      by_form : (q : Polynomial E) × IsCanonicalForm p q → Same K p [] ⊎ ((m : Exponents) × IsLead K O p m)
      by_form r = cases r.0 r.1
        where
          cases : (q : Polynomial E) → IsCanonicalForm p q → Same K p [] ⊎ ((m : Exponents) × IsLead K O p m)
          cases [] c = inl (λ m. sym (c.same m))
          cases (t ∷ q) c = inr (t.at, IsLead_same (t ∷ q) p t.at c.same (IsLead_first K F O L t q c.decreasing))

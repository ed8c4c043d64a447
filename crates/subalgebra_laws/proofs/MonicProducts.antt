-- The lead of a product is the product of the leads.
use Rattle.std.proofs.Common.{◌≡◌, ◌≢◌, ℕ, zero, suc, sym, ◌∙◌, ap, subst, List, [], ◌∷◌, ◌++◌, ◌⊎◌, inl, inr, ⊎_elim, cond, arith}
use Rattle.std.specs.declared.cmp.Ordering.TheVariants.{Less}
use Rattle.word_field.specs.Field.{FieldOps, IsField}
use Rattle.word_field.specs.laws.Field.{times_not_zero}
use Rattle.monomial_order.specs.declared.terms.Term.{Term}
use Rattle.monomial_order.specs.Monomial.{product, IsMonomial, IsTrimmed}
use Rattle.monomial_order.specs.MonomialOrder.{MonomialOrder, IsMonomialOrder}
use Rattle.word_laws.specs.Words.{monomial_power, image}
use Rattle.monomial_order.specs.laws.Monomial.{product_comm, IsMonomial-product}
use Rattle.monomial_order.specs.laws.Comparing.{not_below_self}
use Rattle.polynomials.specs.Polynomial.{Polynomial, same_monomial, coefficient, Same, term_times, scaled, times, constant, AllAt, IsPoly, IsLead}
use Rattle.polynomials.specs.Value.{power, monomial_value}
use Rattle.polynomials.specs.laws.Ring.{coefficient_value}
use Rattle.polynomials.specs.laws.Same.{same_refl, times_same}
use Rattle.polynomials.specs.laws.Decreasing.{IsDecreasing_IsPoly, IsLead_first, IsLead_unique, coefficient_first}
use Rattle.polynomials.specs.laws.Canonical.{canonical, IsCanonicalForm, IsLead_same}
use Rattle.polynomials.specs.laws.Degrees.{all_found, decreasing_all}
use Rattle.polynomials.specs.laws.Ideal.{IsPoly-times}
use Rattle.polynomials.specs.laws.Leads.{below_found}
use Rattle.polynomials.specs.laws.Membership.{IsPoly-one}
use Rattle.polynomials.specs.laws.Coefficients.{nothing_at, single_term, found_monomial, no_coefficient}
use Rattle.polynomials.specs.laws.Terms.{AllAt-append, AllAt-map}
use Rattle.subalgebra_laws.proofs.Nonzero.{AllAt-scaled, AllAt-times}

-- a monic polynomial with the lead m
pub record IsMonic {E : Type 0} (K : FieldOps E) (O : MonomialOrder) (p : Polynomial E) (m : List ℕ) : Type 0 where
  pub poly : IsPoly K O.places p
  pub monomial : IsMonomial O.places m
  pub one : coefficient K p m ≡ K.one
  pub greatest : (n : List ℕ) → coefficient K p n ≢ K.zero → n ≢ m → O.compare n m ≡ Less

module _ {E : Type 0} (K : FieldOps E) (F : IsField K) (O : MonomialOrder) (L : IsMonomialOrder O) where
  pub monic_lead : (p : Polynomial E) (m : List ℕ) → IsMonic K O p m → IsLead K O p m
  monic_lead p m h = record { nonzero = λ z. F.one_not_zero (sym h.one ∙ z); greatest = h.greatest }

  -- p is a term at m, and terms below it
  record HasFirst (p : Polynomial E) (m : List ℕ) (t : Term E) (r : Polynomial E) : Type 0 where
    same : Same K (t ∷ r) p
    at : t.at ≡ m
    by : t.by ≡ coefficient K p m
    below : AllAt (λ n. IsTrimmed n × (O.compare n m ≡ Less)) r

  first_term : (p : Polynomial E) (m : List ℕ) → IsPoly K O.places p → IsLead K O p m → (t : Term E) × (r : Polynomial E) × HasFirst p m t r
  first_term p m hp h = let c = canonical K F O L p hp in cases c.0 c.1
    where
      cases : (q : Polynomial E) → IsCanonicalForm K F O L p q → (t : Term E) × (r : Polynomial E) × HasFirst p m t r
      cases [] c = absurd (h.nonzero (sym (c.same m) ∙ sym (nothing_at K m)))
      cases (t ∷ r) c =
          let at : t.at ≡ m = IsLead_unique K F O L p t.at m (IsLead_same K F O L (t ∷ r) p t.at c.same (IsLead_first K F O L t r c.decreasing)) h in (
            t,
            r,
            record {
              same = c.same;
              at = at;
              by = sym (coefficient_first K F O L t r c.decreasing.0) ∙ (ap (coefficient K (t ∷ r)) at ∙ c.same m);
              below = decreasing_all K F O L (λ n. IsTrimmed n × (O.compare n m ≡ Less)) r c.decreasing.1
                  (λ n k. ((found_monomial K F O L r (IsDecreasing_IsPoly K O r c.decreasing.1) n k).trimmed, subst (λ x. O.compare n x ≡ Less) at (below_found K F O L t.at r c.decreasing.0.above n k)));
            },
          )

  pub times_lead : (p q : Polynomial E) (m k : List ℕ) → IsPoly K O.places p → IsPoly K O.places q → IsLead K O p m → IsLead K O q k →
      IsLead K O (times K p q) (product m k) × (coefficient K (times K p q) (product m k) ≡ K.times (coefficient K p m) (coefficient K q k))
  unfolding coefficient
  times_lead p q m k hp hq lp lq = joined (first_term p m hp lp) (first_term q k hq lq)
    where
      tm : IsTrimmed m
      tm = (found_monomial K F O L p hp m lp.nonzero).trimmed

      tk : IsTrimmed k
      tk = (found_monomial K F O L q hq k lq.nonzero).trimmed

      right : (b : List ℕ) → IsTrimmed b → O.compare b k ≡ Less → O.compare (product m b) (product m k) ≡ Less
      right b hb lt = L.kept m b k tm hb tk ∙ lt

      left : (a b : List ℕ) → IsTrimmed a → IsTrimmed b → O.compare a m ≡ Less → O.compare (product a b) (product m b) ≡ Less
      left a b ha hb lt = ap (λ x. O.compare x (product m b)) (product_comm a b) ∙ (ap (O.compare (product b a)) (product_comm m b) ∙ (L.kept b a m hb ha tm ∙ lt))

      both : (a b : List ℕ) → IsTrimmed a × (O.compare a m ≡ Less) → IsTrimmed b × ((b ≡ k) ⊎ (O.compare b k ≡ Less)) → O.compare (product a b) (product m k) ≡ Less
      both a b ha hb = ⊎_elim (λ e. subst (λ x. O.compare (product a b) (product m x) ≡ Less) e (left a b ha.0 hb.0 ha.1))
          (λ lt. L.total.trans (product a b) (product m b) (product m k) (left a b ha.0 hb.0 ha.1) (right b hb.0 lt)) hb.1

      joined : (t : Term E) × (r : Polynomial E) × HasFirst p m t r → (u : Term E) × (s : Polynomial E) × HasFirst q k u s →
          IsLead K O (times K p q) (product m k) × (coefficient K (times K p q) (product m k) ≡ K.times (coefficient K p m) (coefficient K q k))
      joined (t, r, a) (u, s, b) =
          let same : Same K (times K (t ∷ r) (u ∷ s)) (times K p q) = times_same K F (t ∷ r) p (u ∷ s) q a.same b.same in
          let rest = scaled K t s ++ times K r (u ∷ s) in
          let below : AllAt (λ n. O.compare n (product m k) ≡ Less) (scaled K t s ++ times K r (u ∷ s)) =
          AllAt-append (λ n. O.compare n (product m k) ≡ Less) (scaled K t s) (times K r (u ∷ s))
          (AllAt-scaled K (λ n. O.compare n (product m k) ≡ Less) t s (AllAt-map (λ n. IsTrimmed n × (O.compare n k ≡ Less)) (λ n. O.compare (product t.at n) (product m k) ≡ Less)
          (λ n x. subst (λ y. O.compare (product y n) (product m k) ≡ Less) (sym a.at) (right n x.0 x.1)) s b.below))
          (AllAt-times K (λ n. IsTrimmed n × (O.compare n m ≡ Less)) (λ n. IsTrimmed n × ((n ≡ k) ⊎ (O.compare n k ≡ Less))) (λ n. O.compare n (product m k) ≡ Less) both r (u ∷ s) a.below
          ((subst IsTrimmed (sym b.at) tk, inl b.at), AllAt-map (λ n. IsTrimmed n × (O.compare n k ≡ Less)) (λ n. IsTrimmed n × ((n ≡ k) ⊎ (O.compare n k ≡ Less))) (λ n x. (x.0, inr x.1)) s b.below)) in
          let at : product t.at u.at ≡ product m k = ap (λ x. product x u.at) a.at ∙ ap (product m) b.at in
          let none : coefficient K rest (product m k) ≡ K.zero =
          no_coefficient K F rest (product m k) (λ c. not_below_self O L (product m k) (all_found K F O L (λ n. O.compare n (product m k) ≡ Less) rest below (product m k) c)) in
          let one : coefficient K (times K p q) (product m k) ≡ K.times (coefficient K p m) (coefficient K q k) =
          sym (same (product m k)) ∙ (ap (λ b. K.plus (cond b (K.times t.by u.by) K.zero) (coefficient K rest (product m k))) (ap (λ x. same_monomial x (product m k)) at ∙ same_refl (product m k)) ∙
          (ap (K.plus (K.times t.by u.by)) none ∙ (F.plus_zero (K.times t.by u.by) ∙ (F.times_value t.by u.by ∙ (ap (λ x. K.times x u.by) a.by ∙ ap (K.times (coefficient K p m)) b.by))))) in (
            record {
              nonzero = λ z. times_not_zero K F (coefficient K p m) (coefficient K q k) (λ e. lp.nonzero (sym (coefficient_value K F p m) ∙ e)) (λ e. lq.nonzero (sym (coefficient_value K F q k) ∙ e)) (sym one ∙ z);
              greatest = λ n h ne. ⊎_elim (λ e. absurd (ne e)) (λ lt. lt)
                  (all_found K F O L (λ x. (x ≡ product m k) ⊎ (O.compare x (product m k) ≡ Less)) (term_times K t u ∷ rest)
                  (inl at, AllAt-map (λ x. O.compare x (product m k) ≡ Less) (λ x. (x ≡ product m k) ⊎ (O.compare x (product m k) ≡ Less)) (λ x lt. inr lt) rest below) n (λ z. h (sym (same n) ∙ z)));
            },
            one,
          )

  pub monic_times : (p q : Polynomial E) (m k : List ℕ) → IsMonic K O p m → IsMonic K O q k → IsMonic K O (times K p q) (product m k)
  monic_times p q m k hp hq =
      let l = times_lead p q m k hp.poly hq.poly (monic_lead p m hp) (monic_lead q k hq) in
      record {
        poly = IsPoly-times K F O.places p q hp.poly hq.poly;
        monomial = IsMonomial-product O.places m k hp.monomial hq.monomial;
        one = l.1 ∙ (ap (λ x. K.times x (coefficient K q k)) hp.one ∙ (ap (K.times K.one) hq.one ∙ (F.times_one K.one ∙ F.one_value)));
        greatest = l.0.greatest;
      }

  pub monic_one : IsMonic K O (constant K K.one) []
  unfolding coefficient
  monic_one = record {
    poly = IsPoly-one K F O.places;
    monomial = record { trimmed = tt; within = omega arith };
    one = F.plus_zero K.one ∙ F.one_value;
    greatest = λ n h ne. absurd (ne (sym (single_term K F [] K.one n h)));
  }

  pub monic_power : (p : Polynomial E) (m : List ℕ) (e : ℕ) → IsMonic K O p m → IsMonic K O (power K p e) (monomial_power m e)
  monic_power p m zero h = monic_one
  monic_power p m (suc e) h = monic_times p (power K p e) m (monomial_power m e) h (monic_power p m e h)

  -- monic polynomials with the leads ms
  abbrev pub AreMonic : List (Polynomial E) → List (List ℕ) → Type 0
  AreMonic [] [] = Unit {0}
  AreMonic [] (m ∷ ms) = ⊥
  AreMonic (f ∷ fs) [] = ⊥
  AreMonic (f ∷ fs) (m ∷ ms) = IsMonic K O f m × AreMonic fs ms

  -- the value of a word has the word's image as its lead
  pub monic_value : (w : List ℕ) (fs : List (Polynomial E)) (ms : List (List ℕ)) → AreMonic fs ms → IsMonic K O (monomial_value K w fs) (image w ms)
  monic_value [] fs ms h = monic_one
  monic_value (e ∷ w) [] [] h = monic_one
  monic_value (e ∷ w) [] (m ∷ ms) h = absurd h
  monic_value (e ∷ w) (f ∷ fs) [] h = absurd h
  monic_value (e ∷ w) (f ∷ fs) (m ∷ ms) h =
      monic_times (power K f e) (monomial_value K w fs) (monomial_power m e) (image w ms) (monic_power f m e h.0) (monic_value w fs ms h.1)

-- The steps of reducing a polynomial by a list.
use Rattle.std.proofs.Common.{◌≡◌, ◌≢◌, refl, sym, ◌∙◌, ap, subst, List, [], ◌∷◌, ◌++◌, inl, inr, ⊎_elim, arith, append-nil, append_assoc}
use Rattle.polynomials.specs.laws.Coefficients.{nothing_at, single_term, scaled_small, append_nonzero}
use Rattle.std.specs.Prelude.{Contains}
use Rattle.std.specs.declared.cmp.Ordering.TheVariants.{Less}
use Rattle.word_field.specs.Field.{FieldOps, IsField, IsValue}
use Rattle.word_field.specs.laws.Field.{negate-plus, negate-zero, negate-negate}
use Rattle.monomial_order.specs.declared.terms.Term.{Term}
use Rattle.monomial_order.specs.Monomial.{product, IsMonomial, IsTrimmed, Exponents}
use Rattle.monomial_order.specs.MonomialOrder.{MonomialOrder, IsMonomialOrder}
use Rattle.monomial_order.specs.laws.Monomial.{product_comm}
use Rattle.polynomials.specs.Polynomial.{Polynomial, coefficient, Same, term_of, scaled, negated, minus, IsTerm, IsBelow, IsDecreasing, IsLead, IsSmall, IsCanonical, AllAt, lead_monomial}
use Rattle.polynomials.specs.laws.Ring.{coefficient-append}
use Rattle.polynomials.specs.laws.Same.{coefficient-negated, minus_self}
use Rattle.polynomials.specs.laws.Decreasing.{IsDecreasing_IsPoly, IsLead_first, coefficient_first}
use Rattle.monomial_order.specs.laws.Comparing.{equal_or_not}
use Rattle.polynomials.specs.laws.Degrees.{decreasing_all}
use Rattle.polynomials.specs.laws.Terms.{canonical_left, canonical_right}
use Rattle.polynomials.specs.laws.Lowering.{replaced}
use Rattle.quotient_gb.specs.Combinations.{HasLeadDivisor, AtMost, Combines}
use Rattle.quotient_gb.specs.Remainder.{IsRemainderBy}
use Rattle.quotient_gb.proofs.Multiples.{divides_left}
use Rattle.quotient_gb.proofs.Combinations.{combines_same, combines_zero, combines_plus, combines_one, combines_negated}
use Rattle.quotient_gb.proofs.Criterion.{monomials, coefficient-front, scaled_leads, AreReducers}
use Rattle.quotient_gb.proofs.Pairs.{scaled_monic}

-- what the loop maintains: what is done and the work differ from p by a combination, the work is at most the lead of p, and
-- what is done is that too, and irreducible
pub record IsReducing {E : Type 0} (K : FieldOps E) (O : MonomialOrder) (G : List (Polynomial E)) (p done work : Polynomial E) : Type 0 where
  pub canonical : IsCanonical K O (done ++ work)
  pub combines : Combines K O G (AtMost O (lead_monomial p)) (minus K p (done ++ work))
  pub at_most : AllAt (AtMost O (lead_monomial p)) work
  pub reduced : (m : Exponents) → coefficient K done m ≢ K.zero → AtMost O (lead_monomial p) m × ¬ HasLeadDivisor G m

module _ {E : Type 0} (K : FieldOps E) (F : IsField K) where
  pub negate_not_zero : (a : E) → IsValue K a → a ≢ K.zero → K.negate a ≢ K.zero
  negate_not_zero a v n z = n (sym v ∙ (sym (negate-negate K F a) ∙ (ap K.negate z ∙ negate-zero K F)))

module _ {E : Type 0} (K : FieldOps E) (F : IsField K) (O : MonomialOrder) (L : IsMonomialOrder O) where
  pub below_all : (M : Exponents) (r : Polynomial E) → AllAt (λ n. O.compare n M ≡ Less) r → IsBelow K O M r
  below_all M [] h = tt
  below_all M (t ∷ r) h = (h.0, below_all M r h.1)

  -- two polynomials whose terms at M cancel have a sum below M
  two_below : (A B : Polynomial E) (M : Exponents) → ((n : Exponents) → coefficient K A n ≢ K.zero → n ≢ M → O.compare n M ≡ Less) →
      ((n : Exponents) → coefficient K B n ≢ K.zero → n ≢ M → O.compare n M ≡ Less) → K.plus (coefficient K A M) (coefficient K B M) ≡ K.zero →
      (r : Polynomial E) → IsDecreasing K O r → Same K r (A ++ B) → IsBelow K O M r
  two_below A B M ha hb z r fr s =
      below_all M r (decreasing_all K F O L (λ n. O.compare n M ≡ Less) r fr (λ n k.
      let ne : n ≢ M = λ e. k (ap (coefficient K r) e ∙ (s M ∙ (coefficient-append K F A B M ∙ z))) in
      ⊎_elim (λ na. ha n na ne) (λ nb. hb n nb ne) (append_nonzero K F A B n (λ z. k (s n ∙ z)))))

  module _ (t : Term E) (w : Polynomial E) (k : IsCanonical K O (t ∷ w)) where
    first_leads : IsLead K O (t ∷ w) t.at
    first_leads = IsLead_first K F O L t w k.decreasing

    first_coefficient : coefficient K (t ∷ w) t.at ≡ t.by
    first_coefficient = coefficient_first K F O L t w k.decreasing.0

    module _ (g : Polynomial E) (u : Exponents) (kg : IsCanonical K O g) (monic : coefficient K g (lead_monomial g) ≡ K.one) (tu : IsTrimmed u) (at : product (lead_monomial g) u ≡ t.at) where
      whole : product u (lead_monomial g) ≡ t.at
      whole = product_comm u (lead_monomial g) ∙ at

      pub by_monomial : IsMonomial O.places u
      by_monomial = divides_left u (lead_monomial g) O.places (subst (IsMonomial O.places) (sym whole) k.decreasing.0.term.monomial) tu

      pub cancel_term : IsTerm K O.places (term_of u (K.negate t.by))
      cancel_term = record { monomial = by_monomial; value = F.negate_value t.by }

      cancel_nonzero : K.negate t.by ≢ K.zero
      cancel_nonzero = negate_not_zero K F t.by k.decreasing.0.term.value k.decreasing.0.nonzero

      pub cancel_small : IsSmall O (scaled K (term_of u (K.negate t.by)) g)
      cancel_small = scaled_small K F O L (term_of u (K.negate t.by)) g cancel_term kg.decreasing (let e : O.degree (product u (lead_monomial g)) ≡ O.degree t.at = ap O.degree whole in let l = k.small.0 in omega arith)

      pub cancel_below : (r : Polynomial E) → IsDecreasing K O r → Same K r ((t ∷ w) ++ scaled K (term_of u (K.negate t.by)) g) → IsBelow K O t.at r
      cancel_below r fr s =
          let B = scaled K (term_of u (K.negate t.by)) g in
          let lb : IsLead K O B t.at = subst (IsLead K O B) whole (scaled_leads K F O L (term_of u (K.negate t.by)) g cancel_term cancel_nonzero kg.decreasing monic) in
          let one : coefficient K B t.at ≡ K.negate t.by =
          coefficient-front K F u (K.negate t.by) g t.at (F.negate_value t.by) ∙
          (ap (K.times (K.negate t.by)) (ap (coefficient K (scaled K (term_of u K.one) g)) (sym whole) ∙ scaled_monic K F O L u g by_monomial (record { decreasing = kg.decreasing; monic = monic })) ∙
          (F.times_one (K.negate t.by) ∙ F.negate_value t.by)) in
          two_below (t ∷ w) B t.at first_leads.greatest lb.greatest (ap (λ x. K.plus x (coefficient K B t.at)) first_coefficient ∙ (ap (K.plus t.by) one ∙ F.plus_negate t.by)) r fr s

  at_most_lead : (p : Polynomial E) → IsDecreasing K O p → (n : Exponents) → coefficient K p n ≢ K.zero → AtMost O (lead_monomial p) n
  at_most_lead [] h n k = absurd (k (sym (nothing_at K n)))
  at_most_lead (t ∷ p) h n k = ⊎_elim inl (λ ne. inr ((IsLead_first K F O L t p h).greatest n k ne)) (equal_or_not n t.at)

  -- a list below the lead of what is at most M is at most M
  lower : (M m : Exponents) (r : Polynomial E) → AtMost O M m → IsBelow K O m r → AllAt (AtMost O M) r
  lower M m [] h b = tt
  lower M m (t ∷ r) h b = (inr (⊎_elim (λ e. subst (λ x. O.compare t.at x ≡ Less) e b.0) (λ l. L.total.trans t.at m M b.0 l) h), lower M m r h b.1)

  module _ (G : List (Polynomial E)) (HG : AreReducers K O G) (p : Polynomial E) where
    pub reducing_start : IsCanonical K O p → IsReducing K O G p [] p
    unfolding coefficient
    reducing_start kp = record {
      canonical = kp;
      combines = combines_same K F O L G (AtMost O (lead_monomial p)) [] (minus K p p)
          (λ m. sym (minus_self K F p m)) (combines_zero K F O L G (AtMost O (lead_monomial p)));
      at_most = decreasing_all K F O L (AtMost O (lead_monomial p)) p kp.decreasing (λ m k. at_most_lead p kp.decreasing m k);
      reduced = λ m k. absurd (k refl);
    }

    module _ (done : Polynomial E) (t : Term E) (w : Polynomial E) (h : IsReducing K O G p done (t ∷ w)) where
      pub work_canonical : IsCanonical K O (t ∷ w)
      work_canonical = canonical_right K O done (t ∷ w) h.canonical

      pub reducing_cancel : (next g : Polynomial E) (s : Term E) → Contains G g → IsTerm K O.places s → product s.at (lead_monomial g) ≡ t.at →
          IsCanonical K O next → Same K next ((t ∷ w) ++ scaled K s g) → IsBelow K O t.at next → IsReducing K O G p done next
      reducing_cancel next g s hg ht at kn same b =
          let S = scaled K s g in
          record {
            canonical = replaced K F O L t w done next h.canonical kn b;
            combines = combines_same K F O L G (AtMost O (lead_monomial p)) (minus K p (done ++ (t ∷ w)) ++ negated K S) (minus K p (done ++ next))
                (λ m. simp (coefficient-append K F, coefficient-negated K F, same, negate-plus K F, F.plus_assoc))
                (combines_plus K F O L G (AtMost O (lead_monomial p)) (minus K p (done ++ (t ∷ w))) (negated K S) h.combines
                (combines_negated K F O L G (monomials K F O L G HG) (AtMost O (lead_monomial p)) S
                (combines_one K F O L G (AtMost O (lead_monomial p)) s g ht hg (subst (AtMost O (lead_monomial p)) (sym at) h.at_most.0))));
            at_most = lower (lead_monomial p) t.at next h.at_most.0 b;
            reduced = h.reduced;
          }

      pub reducing_move : (¬ HasLeadDivisor G t.at) → IsReducing K O G p (done ++ (t ∷ [])) w
      reducing_move none = record {
        canonical = subst (IsCanonical K O) (sym (append_assoc done (t ∷ []) w)) h.canonical;
        combines = subst (λ x. Combines K O G (AtMost O (lead_monomial p)) (minus K p x)) (sym (append_assoc done (t ∷ []) w)) h.combines;
        at_most = h.at_most.1;
        reduced = λ m k. ⊎_elim (h.reduced m)
            (λ n. subst (λ x. AtMost O (lead_monomial p) x × ¬ HasLeadDivisor G x) (single_term K F t.at t.by m n) (h.at_most.0, none))
            (append_nonzero K F done (t ∷ []) m k);
      }

    pub reducing_end : (done : Polynomial E) → IsReducing K O G p done [] → IsRemainderBy K O G (AtMost O (lead_monomial p)) p done
    reducing_end done h = record {
      poly = IsDecreasing_IsPoly K O done (canonical_left K O done [] h.canonical).decreasing;
      combines = subst (λ x. Combines K O G (AtMost O (lead_monomial p)) (minus K p x)) (append-nil done) h.combines;
      has = λ m k. (h.reduced m k).0;
      reduced = λ m k. (h.reduced m k).1;
    }

-- A term that the multiple of a value cancels.
use Rattle.std.proofs.Common.{◌≡◌, ℕ, ◌≤◌, sym, ◌∙◌, ap, subst, [], ◌∷◌, ◌++◌, length, ⊎_elim, append-nil, arith}
use Rattle.std.specs.declared.cmp.Ordering.TheVariants.{Less}
use Rattle.word_field.specs.Field.{FieldOps}
use Rattle.word_field.specs.laws.Field.{plus_four}
use Rattle.monomial_order.specs.declared.terms.Term.{Term}
use Rattle.monomial_order.specs.Monomial.{Exponents}
use Rattle.monomial_order.specs.MonomialOrder.{MonomialOrder}
use Rattle.polynomials.specs.Polynomial.{Polynomial, coefficient, negated, scaled, term_of, term_times, AllAt, IsBelow, IsCanonical, Same}
use Rattle.polynomials.specs.Subalgebra.{Presented, IsPresentation}
use Rattle.polynomials.specs.laws.Coefficients.{append_nonzero, found_monomial}
use Rattle.polynomials.specs.laws.Decreasing.{IsDecreasing_IsPoly, IsDecreasing_unique}
use Rattle.polynomials.specs.laws.Degrees.{decreasing_all}
use Rattle.polynomials.specs.laws.Leads.{below_found}
use Rattle.polynomials.specs.laws.Ring.{coefficient-append}
use Rattle.polynomials.specs.laws.Same.{coefficient-negated}
use Rattle.polynomials.specs.laws.Terms.{canonical_right}
use Rattle.polynomials.specs.laws.Value.{coefficient-scaled, one_times}
use Rattle.word_field.specs.laws.Field.{times-zero}
use Rattle.poly_core.specs.Names.{AreNames}
use Rattle.poly_core.specs.declared.place_names.Names.{Names}
use Rattle.poly_core.specs.declared.place_names.Names.TheVariants.{Listed, Numbered, Paired}
use Rattle.subduction.specs.Steps.{IsLeadTaken, IsMonicAt}

pub few_places : (n : ℕ) (names : Names) → AreNames n names → n ≤ 32
few_places n (Listed table) h = h.few
few_places n (Numbered prefix skip) h = absurd h
few_places n (Paired first count second) h = absurd h

pub below_all : {E : Type 0} (K : FieldOps E) (O : MonomialOrder) (M : Exponents) (r : Polynomial E) → AllAt (λ n. O.compare n M ≡ Less) r → IsBelow K O M r
below_all K O M [] h = tt
below_all K O M (t ∷ r) h = (h.0, below_all K O M r h.1)

module _ {E : Type 0} (P : Presented E) (H : IsPresentation P) where
  open P use {field as K, order as O}
  open H use {field as F, order as L}

  pub short_monomials : O.places ≤ 32 → (p : Polynomial E) → IsCanonical K O p → AllAt (λ k. length k ≤ 32) p
  short_monomials l p k = decreasing_all K F O L (λ k. length k ≤ 32) p k.decreasing
      (λ m n. let w = (found_monomial K F O L p (IsDecreasing_IsPoly K O p k.decreasing) m n).within in omega arith)

  pub one_time : (p work : Polynomial E) → IsCanonical K O p → IsCanonical K O work → (c : E) → c ≡ K.one → Same K work (scaled K (term_of [] c) p) → work ≡ p
  one_time p work kp kw c e s = IsDecreasing_unique K F O L work p kw.decreasing kp.decreasing
      (λ m. s m ∙ (ap (λ x. coefficient K (scaled K (term_of [] x) p) m) e ∙ (ap (λ x. coefficient K x m) (sym (append-nil (scaled K (term_of [] K.one) p))) ∙ one_times K F p m)))

  module _ (t : Term E) (w : Polynomial E) (k : IsCanonical K O (t ∷ w)) (v : Polynomial E) (x : Term E) (tail : Polynomial E) (is : v ≡ x ∷ tail) (hv : IsMonicAt P t.at v) (c : E) (by : c ≡ K.negate t.by) where
    whole : IsMonicAt P t.at (x ∷ tail)
    whole = subst (IsMonicAt P t.at) is hv

    pub tail_canonical : IsCanonical K O tail
    tail_canonical = canonical_right K O (x ∷ []) tail whole.canonical

    cancelled : term_times K (term_of [] c) x ≡ term_of t.at (K.negate t.by)
    cancelled = ap (λ y. term_of y (K.times c x.by)) whole.lead ∙ ap (term_of t.at) (ap (K.times c) whole.monic ∙ (H.field.times_one c ∙ (ap K.reduce by ∙ H.field.negate_value t.by)))

    pub lead_taken : (r : Polynomial E) → IsCanonical K O r → Same K r (w ++ scaled K (term_of [] c) tail) → IsLeadTaken P t w v r
    lead_taken r kr hr = subst (λ y. IsLeadTaken P t w y r) (sym is) (record {
      canonical = kr;
      below = below_all K O t.at r (decreasing_all K F O L (λ n. O.compare n t.at ≡ Less) r kr.decreasing (λ m n.
          ⊎_elim (below_found K F O L t.at w k.decreasing.0.above m)
          (λ z. subst (λ y. O.compare m y ≡ Less) whole.lead (below_found K F O L x.at tail whole.canonical.decreasing.0.above m (λ y. z (coefficient-scaled K F c tail m ∙ (ap (K.times c) y ∙ times-zero K F c)))))
          (append_nonzero K F w (scaled K (term_of [] c) tail) m (λ z. n (hr m ∙ z)))));
      sum = sum;
    })
      where
        sum : Same K r ((t ∷ w) ++ scaled K (term_of [] (K.negate t.by)) (x ∷ tail))
        sum m =
            let A = t ∷ [] in
            let B = scaled K (term_of [] c) tail in
            let two : coefficient K (t ∷ w) m ≡ K.plus (coefficient K A m) (coefficient K w m) = coefficient-append K F A w m in
            let four : coefficient K (term_times K (term_of [] c) x ∷ B) m ≡ K.plus (K.negate (coefficient K A m)) (coefficient K B m) =
            ap (λ x. coefficient K (x ∷ B) m) cancelled ∙ (coefficient-append K F (negated K A) B m ∙ ap (λ x. K.plus x (coefficient K B m)) (coefficient-negated K F A m)) in
            subst (λ y. coefficient K r m ≡ coefficient K ((t ∷ w) ++ scaled K (term_of [] y) (x ∷ tail)) m) by
            (hr m ∙ (coefficient-append K F w B m ∙ sym (coefficient-append K F (t ∷ w) (term_times K (term_of [] c) x ∷ B) m ∙
            simp (two, four, plus_four K F (coefficient K A m) (coefficient K w m) (K.negate (coefficient K A m)) (coefficient K B m), F.plus_negate, F.plus_comm K.zero (K.plus (coefficient K w m) (coefficient K B m)), F.plus_zero, F.plus_value))))

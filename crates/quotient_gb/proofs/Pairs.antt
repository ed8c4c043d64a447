-- S-polynomials with representations below: in both orders of a pair, of a member with itself, with a standard representation,
-- and with coprime leads.
use Rattle.std.proofs.Common.{◌≡◌, ◌≢◌, sym, ◌∙◌, ap, subst, List, [], ◌∷◌, ⊎_elim}
use Rattle.polynomials.specs.laws.Coefficients.{nothing_at, minus_nonzero, minus_poly}
use Rattle.std.specs.Prelude.{Contains}
use Rattle.std.specs.declared.cmp.Ordering.TheVariants.{Less}
use Rattle.word_field.specs.Field.{FieldOps, IsField}
use Rattle.word_field.specs.laws.Field.{reduce-plus}
use Rattle.monomial_order.specs.Monomial.{product, least_common_multiple as lcm, IsMonomial, AreCoprime, Exponents}
use Rattle.monomial_order.specs.MonomialOrder.{MonomialOrder, IsMonomialOrder}
use Rattle.monomial_order.specs.laws.Monomial.{product_comm, IsMonomial-least_common_multiple as IsMonomial-lcm, least_common_multiple_comm as lcm_comm}
use Rattle.polynomials.specs.Polynomial.{Polynomial, coefficient, Same, term_of, term_times, times, scaled, negated, minus, IsPoly, IsBelow, IsDecreasing, IsLead, lead_monomial}
use Rattle.polynomials.specs.laws.Ring.{coefficient-append, times_comm}
use Rattle.polynomials.specs.laws.Same.{minus_self}
use Rattle.polynomials.specs.laws.Decreasing.{IsDecreasing_IsPoly, coefficient_first}
use Rattle.polynomials.specs.laws.Canonical.{zero_or_lead}
use Rattle.polynomials.specs.laws.Congruence.{coefficient-minus, negated-minus}
use Rattle.polynomials.specs.laws.Ideal.{IsPoly-scaled}
use Rattle.polynomials.specs.laws.Terms.{IsDecreasing-scaled}
use Rattle.quotient_gb.specs.Combinations.{AtMost, Under, Combines}
use Rattle.quotient_gb.specs.Criterion.{AreCofactors, s_polynomial, HasStandardSPolynomial, HasRepresentationBelow}
use Rattle.quotient_gb.proofs.Multiples.{divides_left}
use Rattle.quotient_gb.proofs.Combinations.{combines_same, combines_zero, combines_plus, combines_one, combines_weaken, combines_negated, combines_minus}
use Rattle.monomial_order.specs.laws.Cofactors.{product_cancel_right, least_common_multiple_coprime as lcm_coprime}
use Rattle.quotient_gb.proofs.Criterion.{IsReducer, monomials, scaled_leads, AreReducers}

module _ {E : Type 0} (K : FieldOps E) (F : IsField K) where
  exchange : (a b c d : E) → K.plus a b ≡ K.plus c d → K.plus a (K.negate c) ≡ K.plus d (K.negate b)
  exchange a b c d h =
      let n = K.negate b in
      cc (F.plus_assoc a b n, F.plus_negate b, F.plus_zero a, reduce-plus K F a (K.negate c), F.plus_assoc c d n, F.plus_comm c (K.plus d n), F.plus_assoc (K.plus d n) c (K.negate c), F.plus_negate c, F.plus_zero (K.plus d n), F.plus_value d n)

  -- a member in two parts
  pub record IsParted (O : MonomialOrder) (g : Polynomial E) : Type 0 where
    pub rest : Polynomial E
    pub poly : IsPoly K O.places rest
    pub below : IsBelow K O (lead_monomial g) rest
    pub is : g ≡ term_of (lead_monomial g) K.one ∷ rest

  module _ (O : MonomialOrder) (L : IsMonomialOrder O) where
    -- two polynomials with one lead and one coefficient there differ by something below
    pub difference_below : (a s : Polynomial E) (M : Exponents) → IsLead K O a M → IsLead K O s M → coefficient K a M ≡ coefficient K s M →
        (n : Exponents) → coefficient K (minus K a s) n ≢ K.zero → O.compare n M ≡ Less
    difference_below a s M la ls e n k = ⊎_elim (λ na. la.greatest n na other) (λ ns. ls.greatest n ns other) (minus_nonzero K F a s n k)
      where
        other : n ≢ M
        other q = k (ap (coefficient K (minus K a s)) q ∙ (coefficient-minus K F a s M ∙ (ap (λ x. K.plus x (K.negate (coefficient K s M))) e ∙ F.plus_negate (coefficient K s M))))

    pub parted : (g : Polynomial E) → IsReducer K O g → IsParted O g
    parted g h = cases g h.decreasing h.monic
      where
        cases : (g : Polynomial E) → IsDecreasing K O g → coefficient K g (lead_monomial g) ≡ K.one → IsParted O g
        cases [] f e = absurd (F.one_not_zero (sym e ∙ sym (nothing_at K [])))
        cases (u ∷ p) f e = record {
          rest = p;
          poly = IsDecreasing_IsPoly K O p f.1;
          below = f.0.above;
          is = ap (λ c. term_of u.at c ∷ p) (sym (coefficient_first K F O L u p f.0) ∙ e);
        }

    -- a monomial times a monic list is monic
    pub scaled_monic : (u : Exponents) (g : Polynomial E) → IsMonomial O.places u → IsReducer K O g → coefficient K (scaled K (term_of u K.one) g) (product u (lead_monomial g)) ≡ K.one
    scaled_monic u g hu h = cases g h.decreasing h.monic
      where
        cases : (g : Polynomial E) → IsDecreasing K O g → coefficient K g (lead_monomial g) ≡ K.one → coefficient K (scaled K (term_of u K.one) g) (product u (lead_monomial g)) ≡ K.one
        cases [] f e = absurd (F.one_not_zero (sym e ∙ sym (nothing_at K [])))
        cases (x ∷ p) f e =
            coefficient_first K F O L (term_times K (term_of u K.one) x) (scaled K (term_of u K.one) p)
            (IsDecreasing-scaled K F O L (term_of u K.one) (x ∷ p) (record { monomial = hu; value = F.one_value }) F.one_not_zero f).0 ∙
            (ap (K.times K.one) (sym (coefficient_first K F O L x p f.0) ∙ e) ∙ (F.times_one K.one ∙ F.one_value))

module _ {E : Type 0} (K : FieldOps E) (F : IsField K) (O : MonomialOrder) (L : IsMonomialOrder O)
    (G : List (Polynomial E)) (HG : AreReducers K O G) where
  pub below_sym : (g h : Polynomial E) → HasRepresentationBelow K O G g h → HasRepresentationBelow K O G h g
  below_sym g h j u v k =
      let e = lcm_comm (lead_monomial h) (lead_monomial g) in
      subst (λ x. Combines K O G (Under O x) (s_polynomial K u h v g)) (sym e)
      (combines_same K F O L G (Under O (lcm (lead_monomial g) (lead_monomial h))) (negated K (s_polynomial K v g u h)) (s_polynomial K u h v g)
      (negated-minus K F (scaled K (term_of v K.one) g) (scaled K (term_of u K.one) h))
      (combines_negated K F O L G (monomials K F O L G HG) (Under O (lcm (lead_monomial g) (lead_monomial h))) (s_polynomial K v g u h) (j v u (record { left_trimmed = k.right_trimmed; right_trimmed = k.left_trimmed; left = k.right ∙ e; right = k.left ∙ e }))))

  pub below_self : (g : Polynomial E) → HasRepresentationBelow K O G g g
  below_self g u v k =
      let same : u ≡ v = product_cancel_right u v (lead_monomial g) k.left_trimmed k.right_trimmed (k.left ∙ sym k.right) in
      combines_same K F O L G (Under O (lcm (lead_monomial g) (lead_monomial g))) [] (s_polynomial K u g v g)
      (λ m. sym (ap (λ x. coefficient K (s_polynomial K x g v g) m) same ∙ minus_self K F (scaled K (term_of v K.one) g) m))
      (combines_zero K F O L G (Under O (lcm (lead_monomial g) (lead_monomial g))))

  module _ (g h : Polynomial E) (hg : Contains G g) (hh : Contains G h) where
    -- the monomials of an S-polynomial are below the least common multiple
    pub pair_below : (u v : Exponents) → AreCofactors u (lead_monomial g) v (lead_monomial h) → (n : Exponents) → coefficient K (s_polynomial K u g v h) n ≢ K.zero → O.compare n (lcm (lead_monomial g) (lead_monomial h)) ≡ Less
    pair_below u v w n k =
        let tu = w.left_trimmed in
        let tv = w.right_trimmed in
        let eu = w.left in
        let ev = w.right in
        let M = lcm (lead_monomial g) (lead_monomial h) in
        let A = scaled K (term_of u K.one) g in
        let B = scaled K (term_of v K.one) h in
        let mM = IsMonomial-lcm O.places (lead_monomial g) (lead_monomial h) (monomials K F O L G HG g hg) (monomials K F O L G HG h hh) in
        let mu = divides_left u (lead_monomial g) O.places (subst (IsMonomial O.places) (sym eu) mM) tu in
        let mv = divides_left v (lead_monomial h) O.places (subst (IsMonomial O.places) (sym ev) mM) tv in
        let rg = HG g hg in
        let rh = HG h hh in
        let a : coefficient K A M ≡ K.one = ap (coefficient K A) (sym eu) ∙ scaled_monic K F O L u g mu rg in
        let b : coefficient K B M ≡ K.one = ap (coefficient K B) (sym ev) ∙ scaled_monic K F O L v h mv rh in
        let la : IsLead K O A M = subst (IsLead K O A) eu (scaled_leads K F O L (term_of u K.one) g (record { monomial = mu; value = F.one_value }) F.one_not_zero rg.decreasing rg.monic) in
        let lb : IsLead K O B M = subst (IsLead K O B) ev (scaled_leads K F O L (term_of v K.one) h (record { monomial = mv; value = F.one_value }) F.one_not_zero rh.decreasing rh.monic) in
        difference_below K F O L A B M la lb (a ∙ sym b) n k

    pub s_polynomial_poly : (u v : Exponents) → AreCofactors u (lead_monomial g) v (lead_monomial h) → IsPoly K O.places (s_polynomial K u g v h)
    s_polynomial_poly u v w =
        let mM = IsMonomial-lcm O.places (lead_monomial g) (lead_monomial h) (monomials K F O L G HG g hg) (monomials K F O L G HG h hh) in
        minus_poly K F O.places (scaled K (term_of u K.one) g) (scaled K (term_of v K.one) h)
        (IsPoly-scaled K F O.places (term_of u K.one) g (record { monomial = divides_left u (lead_monomial g) O.places (subst (IsMonomial O.places) (sym w.left) mM) w.left_trimmed; value = F.one_value }) (IsDecreasing_IsPoly K O g (HG g hg).decreasing))
        (IsPoly-scaled K F O.places (term_of v K.one) h (record { monomial = divides_left v (lead_monomial h) O.places (subst (IsMonomial O.places) (sym w.right) mM) w.right_trimmed; value = F.one_value }) (IsDecreasing_IsPoly K O h (HG h hh).decreasing))

    -- a standard representation is one below
    pub below_standard : HasStandardSPolynomial K O G g h → HasRepresentationBelow K O G g h
    below_standard r u v w =
        ⊎_elim
        (λ z. combines_same K F O L G (Under O (lcm (lead_monomial g) (lead_monomial h))) [] (s_polynomial K u g v h) (λ m. sym (z m)) (combines_zero K F O L G (Under O (lcm (lead_monomial g) (lead_monomial h)))))
        (λ M. let lt = pair_below u v w M.0 M.1.nonzero in
        combines_weaken K F O L G (monomials K F O L G HG) (AtMost O M.0) (Under O (lcm (lead_monomial g) (lead_monomial h))) (s_polynomial K u g v h)
        (λ m hm b. ⊎_elim (λ e. subst (λ x. O.compare x (lcm (lead_monomial g) (lead_monomial h)) ≡ Less) (sym e) lt) (λ less. L.total.trans m M.0 (lcm (lead_monomial g) (lead_monomial h)) less lt) b)
        (r u v w M.0 M.1))
        (zero_or_lead K F O L (s_polynomial K u g v h) (s_polynomial_poly u v w))

    -- the cofactors of a pair are determined
    pub same_cofactors : (Q : Polynomial E → Type 0) (u v : Exponents) → AreCofactors u (lead_monomial g) v (lead_monomial h) → Q (s_polynomial K u g v h) →
        (x y : Exponents) → AreCofactors x (lead_monomial g) y (lead_monomial h) → Q (s_polynomial K x g y h)
    same_cofactors Q u v w q x y k =
        subst (λ z. Q (s_polynomial K z g y h)) (product_cancel_right u x (lead_monomial g) w.left_trimmed k.left_trimmed (w.left ∙ sym k.left))
        (subst (λ z. Q (s_polynomial K u g z h)) (product_cancel_right v y (lead_monomial h) w.right_trimmed k.right_trimmed (w.right ∙ sym k.right)) q)

  -- terms below m times a member
  tail_combines : (M m : Exponents) (p h : Polynomial E) → Contains G h → IsMonomial O.places m → product m (lead_monomial h) ≡ M → IsPoly K O.places p → IsBelow K O m p → Combines K O G (Under O M) (times K p h)
  tail_combines M m [] h hh hm e hp b = combines_zero K F O L G (Under O M)
  tail_combines M m (t ∷ p) h hh hm e hp b =
      combines_plus K F O L G (Under O M) (scaled K t h) (times K p h)
      (combines_one K F O L G (Under O M) t h hp.0 hh
      (ap (λ x. O.compare x M) (product_comm t.at (lead_monomial h)) ∙ (ap (O.compare (product (lead_monomial h) t.at)) (sym e ∙ product_comm m (lead_monomial h)) ∙
      (L.kept (lead_monomial h) t.at m (monomials K F O L G HG h hh).trimmed hp.0.monomial.trimmed hm.trimmed ∙ b.0))))
      (tail_combines M m p h hh hm e hp.1 b.1)

  -- the product criterion
  pub below_coprime : (g h : Polynomial E) → Contains G g → Contains G h → AreCoprime (lead_monomial g) (lead_monomial h) → HasRepresentationBelow K O G g h
  below_coprime g h hg hh co u v w =
      subst (λ x. Combines K O G (Under O (lcm (lead_monomial g) (lead_monomial h))) (s_polynomial K x g v h)) (sym is_u)
      (subst (λ x. Combines K O G (Under O (lcm (lead_monomial g) (lead_monomial h))) (s_polynomial K (lead_monomial h) g x h)) (sym is_v)
      (combines_same K F O L G (Under O (lcm (lead_monomial g) (lead_monomial h))) (minus K (times K p h) (times K q g)) (s_polynomial K (lead_monomial h) g (lead_monomial g) h) (λ m. sym (moved m))
      (combines_minus K F O L G (monomials K F O L G HG) (Under O (lcm (lead_monomial g) (lead_monomial h))) (times K p h) (times K q g)
      (tail_combines (lcm (lead_monomial g) (lead_monomial h)) (lead_monomial g) p h hh (monomials K F O L G HG g hg) (sym whole) pg.poly pg.below)
      (tail_combines (lcm (lead_monomial g) (lead_monomial h)) (lead_monomial h) q g hg (monomials K F O L G HG h hh) (product_comm (lead_monomial h) (lead_monomial g) ∙ sym whole) ph.poly ph.below))))
    where
      whole : lcm (lead_monomial g) (lead_monomial h) ≡ product (lead_monomial g) (lead_monomial h)
      whole = lcm_coprime (lead_monomial g) (lead_monomial h) (monomials K F O L G HG g hg).trimmed (monomials K F O L G HG h hh).trimmed co

      is_u : u ≡ lead_monomial h
      is_u = product_cancel_right u (lead_monomial h) (lead_monomial g) w.left_trimmed (monomials K F O L G HG h hh).trimmed (w.left ∙ (whole ∙ product_comm (lead_monomial g) (lead_monomial h)))

      is_v : v ≡ lead_monomial g
      is_v = product_cancel_right v (lead_monomial g) (lead_monomial h) w.right_trimmed (monomials K F O L G HG g hg).trimmed (w.right ∙ whole)

      pg : IsParted K F O g
      pg = parted K F O L g (HG g hg)

      ph : IsParted K F O h
      ph = parted K F O L h (HG h hh)

      p : Polynomial E
      p = pg.rest

      q : Polynomial E
      q = ph.rest

      moved : Same K (s_polynomial K (lead_monomial h) g (lead_monomial g) h) (minus K (times K pg.rest h) (times K ph.rest g))
      moved m =
          let A = scaled K (term_of (lead_monomial h) K.one) g in
          let B = times K ph.rest g in
          let C = scaled K (term_of (lead_monomial g) K.one) h in
          let D = times K pg.rest h in
          let both : K.plus (coefficient K A m) (coefficient K B m) ≡ K.plus (coefficient K C m) (coefficient K D m) =
          sym (coefficient-append K F A B m) ∙ (ap (λ x. coefficient K (times K x g) m) (sym ph.is) ∙ (times_comm K F h g m ∙ (ap (λ x. coefficient K (times K x h) m) pg.is ∙ coefficient-append K F C D m))) in
          coefficient-minus K F A C m ∙ (exchange K F (coefficient K A m) (coefficient K B m) (coefficient K C m) (coefficient K D m) both ∙ sym (coefficient-minus K F D B m))

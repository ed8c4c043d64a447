-- Sums of irreducible s-words: the greatest image leads the value, so such a sum is determined by its value modulo the ideal.
use Rattle.std.proofs.Common.{◌≡◌, ◌≢◌, ℕ, ◌≤◌, refl, sym, ◌∙◌, ap, subst, List, [], ◌∷◌, ◌++◌, ◌⊎◌, inl, inr, ⊎_elim, append-nil, arith, cond}
use Rattle.std.specs.declared.cmp.Ordering.TheVariants.{Less}
use Rattle.word_field.specs.laws.Field.{times-zero, zero-plus}
use Rattle.monomial_order.specs.MonomialOrder.{MonomialOrder, IsMonomialOrder}
use Rattle.word_laws.specs.Words.{word_order_of, image_of, IsWord, IsSWord}
use Rattle.monomial_order.specs.laws.Comparing.{not_below_self, three_ways, equal_or_not, le_or_not, degree_falls}
use Rattle.polynomials.specs.Polynomial.{Polynomial, share, coefficient, Same, term_of, times, scaled, negated, minus, constant, AllAt, IsPoly, IsDecreasing, IsLead}
use Rattle.polynomials.specs.Ideal.{InIdeal, Congruent}
use Rattle.polynomials.specs.Value.{value, monomial_value, term_value}
use Rattle.polynomials.specs.Subalgebra.{Presented, IsPresentation, LeadsIdeal, IsNormalForm, HasDegreesTo}
use Rattle.polynomials.specs.laws.Ring.{coefficient_value, coefficient-append}
use Rattle.polynomials.specs.laws.Same.{same_refl, append_same, times_same_left}
use Rattle.polynomials.specs.laws.Value.{value_same, value-append, value-scaled, one_times, coefficient-constant_times, coefficient-scaled}
use Rattle.polynomials.specs.laws.Decreasing.{IsDecreasing_IsPoly, IsDecreasing_unique, coefficient_first}
use Rattle.polynomials.specs.laws.Leads.{tail_zero}
use Rattle.polynomials.specs.laws.Canonical.{canonical, IsCanonicalForm, IsLead_same, zero_or_lead}
use Rattle.polynomials.specs.laws.Degrees.{all_found, decreasing_all}
use Rattle.polynomials.specs.laws.Ideal.{IsPoly-append, IsPoly-scaled, InIdeal_same}
use Rattle.polynomials.specs.laws.Congruence.{congruent_same, congruent_refl, congruent_sym, congruent_trans, congruent_plus, congruent_times_left, minus_zero}
use Rattle.polynomials.specs.laws.Membership.{IsPoly-value, ArePolys, value-negated}
use Rattle.subalgebra_laws.specs.Words.{letters, letter_values, word_value, IsReducibleWord, IsIrreducibleSum, IsTopWord, IsCombination}
use Rattle.subalgebra_laws.specs.Bases.{AreMonicElements}
use Rattle.subalgebra_laws.specs.Statements.{SumsHaveTopWords, SumsAreUnique, SumsAreCombinations, MultiplesAreCombinations, CongruentAreCombinations, IrreducibleWordsAreCombinations}
use Rattle.polynomials.specs.laws.Coefficients.{nothing_at, single_term, times_one, constant_poly, minus_poly, minus_nonzero, minus_back, lead_sum_right, no_coefficient, append_nonzero}
use Rattle.polynomials.specs.laws.Terms.{AllAt-map}
use Rattle.subalgebra_laws.proofs.Nonzero.{same_false, multiple_nonzero, lead_negated, below_lead, above_lead}
use Rattle.subalgebra_laws.proofs.MonicProducts.{AreMonic, monic_lead}
use Rattle.subalgebra_laws.proofs.Letters.{letter_images, values_monic, word_monic, letter_laws, word_degree}

module _ {E : Type 0} (P : Presented E) (H : IsPresentation P) (S : List (Polynomial E)) (HS : AreMonicElements P S) where
  open P use {field as K, order as O}
  open H use {field as F, order as L}

  abbrev W : MonomialOrder
  W = word_order_of (letters P S)

  abbrev LW : IsMonomialOrder (word_order_of (letters P S))
  LW = letter_laws P H S HS

  abbrev values : List (Polynomial E)
  values = letter_values P S

  abbrev im : List ℕ → List ℕ
  im w = image_of (letters P S) w

  -- an irreducible s-word
  abbrev pub IsIrreducible : List ℕ → Type 0
  IsIrreducible w = IsSWord (letters P S) w × (IsReducibleWord P S w → ⊥)

  -- irreducible words with one image are equal
  irreducible_equal : (u v : List ℕ) → IsIrreducible u → IsIrreducible v → im u ≡ im v → u ≡ v
  irreducible_equal u v hu hv e =
      ⊎_elim (λ lt. absurd (hv.1 (inr (u, record { word = hu.0.0; image = e; less = lt }))))
      (λ r. ⊎_elim (λ same. same) (λ gt. absurd (hu.1 (inr (v, record { word = hv.0.0; image = sym e; less = gt })))) r) (three_ways W LW u v)

  -- v is w, or has a smaller image
  abbrev IsAtMost : List ℕ → List ℕ → Type 0
  IsAtMost w v = (v ≡ w) ⊎ (O.compare (im v) (im w) ≡ Less)

  less_after : (w v : List ℕ) (m : List ℕ) → O.compare (im w) m ≡ Less → IsAtMost w v → O.compare (im v) m ≡ Less
  less_after w v m lt h = ⊎_elim (λ same. subst (λ x. O.compare (im x) m ≡ Less) (sym same) lt) (λ less. L.total.trans (im v) (im w) m less lt) h

  abbrev HasTop : Polynomial E → Type 0
  HasTop e = (w : List ℕ) × (coefficient K e w ≢ K.zero) × IsIrreducible w × AllAt (IsAtMost w) e

  top : (e : Polynomial E) → IsDecreasing K W e → AllAt IsIrreducible e → (e ≡ []) ⊎ HasTop e
  top [] f h = inl refl
  top (t ∷ e) f h = inr (⊎_elim (λ none. (t.at, first, h.0, (inl refl, subst (AllAt (IsAtMost t.at)) (sym none) tt))) (λ r. beside r.0 r.1 r.2 r.3) (top e f.1 h.1))
    where
      first : coefficient K (t ∷ e) t.at ≢ K.zero
      first z = f.0.nonzero (sym (coefficient_first K F W LW t e f.0) ∙ z)

      beside : (w : List ℕ) → coefficient K e w ≢ K.zero → IsIrreducible w → AllAt (IsAtMost w) e → HasTop (t ∷ e)
      beside w k i u = ⊎_elim (λ lt. stays (inr lt))
          (λ r. ⊎_elim (λ same. stays (inl (irreducible_equal t.at w h.0 i same)))
          (λ gt. (t.at, first, h.0, (inl refl, AllAt-map (IsAtMost w) (IsAtMost t.at) (λ v x. inr (less_after w v (im t.at) gt x)) e u))) r)
          (three_ways O L (im t.at) (im w))
        where
          stays : IsAtMost w t.at → HasTop (t ∷ e)
          stays x = (w, (λ z. k (tail_zero K F W LW t e f.0 w k z)), i, (x, u))

  pub have_top_words : SumsHaveTopWords P S
  have_top_words e h =
      ⊎_elim (λ none. inl none)
      (λ r. inr (r.0, record { nonzero = r.1; greatest = λ v k ne. ⊎_elim (λ same. absurd (ne same)) (λ lt. lt) (all_found K F W LW (IsAtMost r.0) e r.3 v k) }))
      (top e h.decreasing (decreasing_all K F W LW IsIrreducible e h.decreasing (λ w k. (h.words w k, h.irreducible w k))))

  pub some_top : (e : Polynomial E) → IsIrreducibleSum P S e → (v : List ℕ) → coefficient K e v ≢ K.zero → (w : List ℕ) × IsTopWord P S e w
  some_top e h v k = ⊎_elim (λ none. absurd (k (ap (λ x. coefficient K x v) none ∙ sym (nothing_at K v)))) (λ r. r) (have_top_words e h)

  -- the value has the coefficient of the word at its image, and no greater monomial
  value_at : (w : List ℕ) (e : Polynomial E) → IsPoly K W.places e → AllAt (IsAtMost w) e → coefficient K (value K e values) (im w) ≡ coefficient K e w
  unfolding coefficient
  value_at w [] hp u = refl
  value_at w (t ∷ e) hp u =
      simp (coefficient-append K F (term_value K values t) (value K e values) (im w), coefficient-constant_times K F t.by (word_value P S t.at) (im w), ⊎_elim same less u.0, value_at w e hp.1 u.1)
    where
      same : t.at ≡ w → K.times t.by (coefficient K (word_value P S t.at) (im w)) ≡ share K w t
      same e = subst (λ x. K.times t.by (coefficient K (word_value P S t.at) (im x)) ≡ share K x t) e
          (ap (K.times t.by) (word_monic P H S HS t.at).one ∙ (F.times_one t.by ∙ (hp.0.value ∙ sym (ap (λ b. cond b t.by K.zero) (same_refl t.at)))))

      less : O.compare (im t.at) (im w) ≡ Less → K.times t.by (coefficient K (word_value P S t.at) (im w)) ≡ share K w t
      less lt = ap (K.times t.by) (above_lead K F O L (word_value P S t.at) (im t.at) (im w) (monic_lead K F O L (word_value P S t.at) (im t.at) (word_monic P H S HS t.at)) lt) ∙
          (times-zero K F t.by ∙ sym (ap (λ b. cond b t.by K.zero) (same_false t.at w (λ e. not_below_self O L (im w) (subst (λ x. O.compare (im x) (im w) ≡ Less) e lt)))))

  value_under : (w : List ℕ) (e : Polynomial E) → AllAt (IsAtMost w) e → (n : List ℕ) → coefficient K (value K e values) n ≢ K.zero → n ≢ im w → O.compare n (im w) ≡ Less
  value_under w [] u n k ne = absurd (k (sym (nothing_at K n)))
  value_under w (t ∷ e) u n k ne = ⊎_elim first (λ r. value_under w e u.1 n r ne) (append_nonzero K F (term_value K values t) (value K e values) n k)
    where
      first : coefficient K (term_value K values t) n ≢ K.zero → O.compare n (im w) ≡ Less
      first c =
          let h = word_monic P H S HS t.at in
          let d = multiple_nonzero K F t.by (word_value P S t.at) n c in
          ⊎_elim (λ s. subst (λ x. O.compare n (im x) ≡ Less) s (h.greatest n d (λ z. ne (z ∙ ap im s))))
          (λ lt. below_lead K F O L (word_value P S t.at) (im t.at) (im w) (monic_lead K F O L (word_value P S t.at) (im t.at) h) lt n d) u.0

  polys : ArePolys K F O.places values
  polys = polys_of values (letter_images P S) (values_monic P H S HS)
    where
      polys_of : (gs : List (Polynomial E)) (ks : List (List ℕ)) → AreMonic K F O L gs ks → ArePolys K F O.places gs
      polys_of [] ks h = tt
      polys_of (f ∷ gs) [] h = absurd h
      polys_of (f ∷ gs) (k ∷ ks) h = (h.0.poly, polys_of gs ks h.1)

  pub value_poly : (e : Polynomial E) → IsPoly K W.places e → IsPoly K O.places (value K e values)
  value_poly e h = IsPoly-value K F O.places W.places e values h polys

  pub sum_poly : (e : Polynomial E) → IsIrreducibleSum P S e → IsPoly K O.places (value K e values)
  sum_poly e h = value_poly e (IsDecreasing_IsPoly K W e h.decreasing)

  module _ (e : Polynomial E) (w : List ℕ) (h : IsIrreducibleSum P S e) (t : IsTopWord P S e w) where
    pub under_top : (v : List ℕ) → coefficient K e v ≢ K.zero → (v ≡ w) ⊎ (O.compare (im v) (im w) ≡ Less)
    under_top v k = ⊎_elim (λ same. inl same) (λ ne. inr (t.greatest v k ne)) (equal_or_not v w)

    pub top_leads : IsLead K O (value K e values) (im w) × (coefficient K (value K e values) (im w) ≡ coefficient K e w)
    top_leads =
        let u = decreasing_all K F W LW (IsAtMost w) e h.decreasing under_top in
        let c = value_at w e (IsDecreasing_IsPoly K W e h.decreasing) u in
        (record { nonzero = λ z. t.nonzero (sym c ∙ z); greatest = value_under w e u }, c)

    -- no polynomial that equals the value modulo the ideal has only monomials below the image
    pub top_only : (a : Polynomial E) → IsPoly K O.places a → Congruent K O.places P.ideal a (value K e values) →
        ((n : List ℕ) → coefficient K a n ≢ K.zero → O.compare n (im w) ≡ Less) → ⊥
    top_only a ha c below = h.irreducible w t.nonzero (inl (record {
      member = minus K a (value K e values);
      poly = minus_poly K F O.places a (value K e values) ha (sum_poly e h);
      inside = c;
      leads = lead_sum_right K F O L a (negated K (value K e values)) (im w) (lead_negated K F O L (value K e values) (im w) top_leads.0) below;
    }))

    pub top_least : (a : Polynomial E) (m : List ℕ) → IsPoly K O.places a → Congruent K O.places P.ideal a (value K e values) → IsLead K O a m → O.compare m (im w) ≢ Less
    top_least a m ha c la lt = top_only a ha c (below_lead K F O L a m (im w) la lt)

    -- a normal form differs from the value below the image alone
    module _ (b : Polynomial E) (n : IsNormalForm P (value K e values) b) where
      abbrev rest : Polynomial E
      rest = minus K b (value K e values)

      below : (k : List ℕ) → coefficient K rest k ≢ K.zero → O.compare k (im w) ≡ Less
      below k c = ⊎_elim (λ z. absurd (c (z k ∙ sym (nothing_at K k)))) (λ l. by_lead l.0 l.1) (zero_or_lead K F O L rest rest_poly)
        where
          rest_poly : IsPoly K O.places rest
          rest_poly = minus_poly K F O.places b (value K e values) n.poly (sum_poly e h)

          by_lead : (m : List ℕ) → IsLead K O rest m → O.compare k (im w) ≡ Less
          by_lead m l =
              let out : LeadsIdeal P m = record { member = rest; poly = rest_poly; inside = congruent_sym K F O.places P.ideal (value K e values) b n.inside; leads = l } in
              ⊎_elim (λ lt. below_lead K F O L rest m (im w) l lt k c)
              (λ r. absurd (⊎_elim (λ same. h.irreducible w t.nonzero (inl (subst (LeadsIdeal P) same out)))
              (λ gt. ⊎_elim (λ y. (n.standard m y).no_lead out) (λ v. not_below_self O L m (below_lead K F O L (value K e values) (im w) m top_leads.0 gt m v))
              (minus_nonzero K F b (value K e values) m l.nonzero)) r))
              (three_ways O L m (im w))

      pub top_leads_normal_form : IsLead K O b (im w) × (coefficient K b (im w) ≡ coefficient K e w)
      top_leads_normal_form = (
        IsLead_same K F O L (rest ++ value K e values) b (im w) (minus_back K F b (value K e values)) (lead_sum_right K F O L rest (value K e values) (im w) top_leads.0 below),
        cc (minus_back K F b (value K e values) (im w), coefficient-append K F rest (value K e values) (im w), no_coefficient K F rest (im w) (λ c. not_below_self O L (im w) (below (im w) c)), zero-plus K F (coefficient K (value K e values) (im w)), coefficient_value K F (value K e values) (im w), top_leads.1),
      )

  -- sums of irreducible s-words with congruent values are equal
  pub sums_unique : SumsAreUnique P S
  sums_unique a e g he hg ea ga =
      ⊎_elim (λ none. IsDecreasing_unique K F W LW e g he.decreasing hg.decreasing (minus_zero K F e g (λ m. sym (r.1.same m) ∙ ap (λ p. coefficient K p m) none)))
      (λ t. absurd (hr.irreducible t.0 t.1.nonzero (inl (record { member = value K r.0 values; poly = sum_poly r.0 hr; inside = inside; leads = (top_leads r.0 t.0 hr t.1).0 }))))
      (have_top_words r.0 hr)
    where
      r : (q : Polynomial E) × IsCanonicalForm K F W LW (minus K e g) q
      r = canonical K F W LW (minus K e g) (minus_poly K F W.places e g (IsDecreasing_IsPoly K W e he.decreasing) (IsDecreasing_IsPoly K W g hg.decreasing))

      word : (w : List ℕ) → coefficient K r.0 w ≢ K.zero → IsIrreducible w
      word w k = ⊎_elim (λ x. (he.words w x, he.irreducible w x)) (λ y. (hg.words w y, hg.irreducible w y)) (minus_nonzero K F e g w (λ z. k (r.1.same w ∙ z)))

      hr : IsIrreducibleSum P S r.0
      hr = record { decreasing = r.1.decreasing; words = λ w k. (word w k).0; irreducible = λ w k. (word w k).1 }

      inside : InIdeal K O.places P.ideal (value K r.0 values)
      inside = InIdeal_same K F O.places P.ideal (minus K (value K e values) (value K g values)) (value K r.0 values)
          (λ m. sym (value_same K F r.0 (minus K e g) values r.1.same m ∙ (ap (λ p. coefficient K p m) (value-append K F e (negated K g) values) ∙
          append_same K F (value K e values) (value K e values) (value K (negated K g) values) (negated K (value K g values)) (λ i. refl) (value-negated K F g values) m)))
          (congruent_trans K F O.places P.ideal (value K e values) a (value K g values) (congruent_sym K F O.places P.ideal a (value K e values) ea) ga)

  -- what combinations are closed under
  pub combination_congruent : CongruentAreCombinations P S
  combination_congruent a b c h = record { sum = h.sum; irreducible = h.irreducible; equal = congruent_trans K F O.places P.ideal b a (value K h.sum values) c h.equal }

  pub combination_same : (a b : Polynomial E) → Same K b a → IsCombination P S a → IsCombination P S b
  combination_same a b s h = combination_congruent a b (congruent_same K F O.places P.ideal b a s) h

  pub combination_zero : IsCombination P S []
  unfolding coefficient
  combination_zero = record {
    sum = [];
    irreducible = record { decreasing = tt; words = λ w k. absurd (k refl); irreducible = λ w k. absurd (k refl) };
    equal = congruent_refl K F O.places P.ideal [];
  }

  -- any sum of irreducible words may be brought into its canonical form
  by_form : (a h : Polynomial E) → IsPoly K W.places h → ((w : List ℕ) → coefficient K h w ≢ K.zero → IsIrreducible w) → Congruent K O.places P.ideal a (value K h values) → IsCombination P S a
  by_form a h hp hi c =
      let r = canonical K F W LW h hp in
      record {
        sum = r.0;
        irreducible = record { decreasing = r.1.decreasing; words = λ w k. (hi w (λ z. k (r.1.same w ∙ z))).0; irreducible = λ w k. (hi w (λ z. k (r.1.same w ∙ z))).1 };
        equal = congruent_trans K F O.places P.ideal a (value K h values) (value K r.0 values) c
            (congruent_same K F O.places P.ideal (value K h values) (value K r.0 values) (λ m. sym (value_same K F r.0 h values r.1.same m)));
      }

  pub combination_plus : SumsAreCombinations P S
  combination_plus a b h k =
      by_form (a ++ b) (h.sum ++ k.sum) (IsPoly-append K F W.places h.sum k.sum (IsDecreasing_IsPoly K W h.sum h.irreducible.decreasing) (IsDecreasing_IsPoly K W k.sum k.irreducible.decreasing))
      (λ w c. ⊎_elim (λ x. (h.irreducible.words w x, h.irreducible.irreducible w x)) (λ y. (k.irreducible.words w y, k.irreducible.irreducible w y)) (append_nonzero K F h.sum k.sum w c))
      (subst (Congruent K O.places P.ideal (a ++ b)) (sym (value-append K F h.sum k.sum values)) (congruent_plus K F O.places P.ideal a (value K h.sum values) b (value K k.sum values) h.equal k.equal))

  pub combination_multiple : MultiplesAreCombinations P S
  combination_multiple c a v h =
      by_form (times K (constant K c) a) (scaled K (term_of [] c) h.sum)
      (IsPoly-scaled K F W.places (term_of [] c) h.sum (record { monomial = record { trimmed = tt; within = omega arith }; value = v }) (IsDecreasing_IsPoly K W h.sum h.irreducible.decreasing))
      (λ w k. let x : coefficient K h.sum w ≢ K.zero = λ z. k (coefficient-scaled K F c h.sum w ∙ (ap (K.times c) z ∙ times-zero K F c)) in (h.irreducible.words w x, h.irreducible.irreducible w x))
      (congruent_trans K F O.places P.ideal (times K (constant K c) a) (times K (constant K c) (value K h.sum values)) (value K (scaled K (term_of [] c) h.sum) values)
      (congruent_times_left K F O.places P.ideal (constant K c) a (value K h.sum values) (constant_poly K F O.places c v) h.equal)
      (congruent_same K F O.places P.ideal (times K (constant K c) (value K h.sum values)) (value K (scaled K (term_of [] c) h.sum) values)
      (λ m. sym (value-scaled K F (term_of [] c) h.sum values m ∙
      times_same_left K F (term_value K values (term_of [] c)) (constant K c) (value K h.sum values) (times_one K F (constant K c)) m))))

  pub combination_word : IrreducibleWordsAreCombinations P S
  combination_word w s i =
      by_form (word_value P S w) (term_of w K.one ∷ []) (record { monomial = s.0; value = F.one_value }, tt)
      (λ v k. subst IsIrreducible (single_term K F w K.one v k) (s, i))
      (congruent_same K F O.places P.ideal (word_value P S w) (value K (term_of w K.one ∷ []) values)
      (λ m. sym (ap (λ p. coefficient K p m) (append-nil (times K (constant K K.one) (word_value P S w))) ∙ one_times K F (word_value P S w) m)))

  -- a sum of values that are combinations is one
  pub combination_linear : (n : ℕ) (fs : List (Polynomial E)) (h : Polynomial E) → IsPoly K n h → AllAt (λ w. IsCombination P S (monomial_value K w fs)) h → IsCombination P S (value K h fs)
  combination_linear n fs [] hp k = combination_zero
  combination_linear n fs (t ∷ h) hp k =
      combination_plus (term_value K fs t) (value K h fs) (combination_multiple t.by (monomial_value K t.at fs) hp.0.value k.0) (combination_linear n fs h hp.1 k.1)

  -- the words of a combination have images of at most the degree of the polynomial
  pub sum_low : (d : ℕ) (a : Polynomial E) → IsPoly K O.places a → HasDegreesTo P d a → (f : IsCombination P S a) → (w : List ℕ) → coefficient K f.sum w ≢ K.zero → W.degree w ≤ d
  sum_low d a ha low f w k =
      let r = some_top f.sum f.irreducible w k in
      let dw = word_degree P H S HS w in
      let dv : O.degree (im r.0) ≤ d = ⊎_elim (λ le. le)
      (λ more. absurd (top_only f.sum r.0 f.irreducible r.1 a ha f.equal (λ n c. L.degree_first n (im r.0) (let l = low n c in omega (arith, more))))) (le_or_not (O.degree (im r.0)) d) in
      ⊎_elim (λ e. let z : O.degree (im w) ≡ O.degree (im r.0) = ap (λ x. O.degree (im x)) e in omega arith) (λ lt. let z = degree_falls O L (im w) (im r.0) lt in omega arith)
      (under_top f.sum r.0 f.irreducible r.1 w k)

  -- the word v comes before u: its image is smaller, or it has the same image and is smaller
  abbrev pub IsBefore : List ℕ → List ℕ → Type 0
  IsBefore v u = (O.compare (im v) (im u) ≡ Less) ⊎ ((im v ≡ im u) × (W.compare v u ≡ Less))

  -- the words of a combination that a reducible word is come before it
  pub words_before : (u : List ℕ) → IsWord (letters P S) u → IsReducibleWord P S u → (f : IsCombination P S (word_value P S u)) → (v : List ℕ) → coefficient K f.sum v ≢ K.zero → IsBefore v u
  words_before u hu red f v k = by_top (some_top f.sum f.irreducible v k)
    where
      by_top : (w : List ℕ) × IsTopWord P S f.sum w → IsBefore v u
      by_top (w, t) = ⊎_elim (λ lt. inl (less_after w v (im u) lt at))
          (λ r. ⊎_elim (λ same. ⊎_elim (λ own. inr (ap im own ∙ same, subst (λ x. W.compare x u ≡ Less) (sym own) (less same))) (λ lt. inl (subst (λ x. O.compare (im v) x ≡ Less) same lt)) at)
          (λ gt. absurd (top_least f.sum w f.irreducible t (word_value P S u) (im u) (word_monic P H S HS u).poly f.equal (monic_lead K F O L (word_value P S u) (im u) (word_monic P H S HS u)) gt)) r)
          (three_ways O L (im w) (im u))
        where
          at : (v ≡ w) ⊎ (O.compare (im v) (im w) ≡ Less)
          at = under_top f.sum w f.irreducible t v k

          less : im w ≡ im u → W.compare w u ≡ Less
          less same = ⊎_elim (λ lt. lt) (λ r. absurd (f.irreducible.irreducible w t.nonzero
              (⊎_elim (λ e. subst (IsReducibleWord P S) (sym e) red) (λ gt. inr (u, record { word = hu; image = sym same; less = gt })) r))) (three_ways W LW w u)

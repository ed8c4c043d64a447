-- The criterion to a degree: generators and minimal reducible s-words that are combinations make each member one.
use Rattle.std.proofs.Common.{◌≡◌, ◌≢◌, ℕ, zero, suc, ◌+◌, ◌*◌, ◌≤◌, refl, sym, ◌∙◌, ap, subst, List, [], ◌∷◌, inl, inr, ⊎_elim, length, arith, Bool, true, false}
use Rattle.std.specs.Prelude.{map, Contains, nat_eq}
use Rattle.std.proofs.Math.Nat.{mul-le-mul_left}
use Rattle.std.proofs.lemmas.Bool.{eqb-true, eq-eqb, true≢false}
use Rattle.std.specs.declared.cmp.Ordering.TheVariants.{Less}
use Rattle.monomial_order.specs.declared.terms.Term.{Term}
use Rattle.monomial_order.specs.Monomial.{product, weighted_degree, IsTrimmed, Divides}
use Rattle.monomial_order.specs.laws.Monomial.{product_comm, IsMonomial-product}
use Rattle.monomial_order.specs.laws.Lists.{contains_here, contains_there}
use Rattle.monomial_order.specs.laws.Cofactors.{cofactor, length-product_right, Divides-product}
use Rattle.monomial_order.specs.laws.Comparing.{three_ways, degree_falls, degree_one, divisor_degree}
use Rattle.monomial_order.specs.laws.Rank.{IsWithin, below_induction}
use Rattle.word_laws.specs.Words.{image_of, IsWord, IsSWord}
use Rattle.word_laws.specs.laws.Words.{image_times, s_divisor}
use Rattle.polynomials.specs.Polynomial.{Polynomial, coefficient, term_of, times, scaled, negated, minus, constant, component, AllAt, IsTerm, IsPoly, lead_monomial}
use Rattle.polynomials.specs.Ideal.{InIdeal, Congruent}
use Rattle.polynomials.specs.Value.{power, value, monomial_value, term_value}
use Rattle.polynomials.specs.Subalgebra.{Presented, IsPresentation, AreGenerators, IsGenerated, IsDecidedTo}
use Rattle.polynomials.specs.laws.Same.{times_same_left}
use Rattle.polynomials.specs.laws.Value.{value-scaled, value-times, value-constant, one_times, monomial_value-product}
use Rattle.polynomials.specs.laws.Decreasing.{IsDecreasing_IsPoly}
use Rattle.polynomials.specs.laws.Ideal.{IsPoly-times, IsPoly-scaled}
use Rattle.polynomials.specs.laws.Congruence.{congruent_same, congruent_trans, congruent_times_left, congruent_times}
use Rattle.polynomials.specs.laws.Membership.{IsPoly-power, IsPoly-monomial_value}
use Rattle.polynomials.specs.laws.Degrees.{component-minus, component-append, IsGraded, graded_component, graded_no_component, ideal_component, AreGraded, polys_graded, graded_value, decreasing_all, component_leads}
use Rattle.polynomials.specs.laws.NormalForm.{IsPoly-component}
use Rattle.polynomials.specs.laws.Components.{sub_component}
use Rattle.subalgebra_laws.specs.Words.{letters, letter_values, word_value, IsReducibleWord, IsTopWord, IsCombination}
use Rattle.subalgebra_laws.specs.Bases.{AreMonicElements, HasCombinationsTo}
use Rattle.subalgebra_laws.specs.Statements.{CombinationsHaveGeneratedLeads, MembersAreCombinations, LeadsAreGenerated}
use Rattle.polynomials.specs.laws.Coefficients.{nothing_at, constant_poly, minus_poly, lead_sum}
use Rattle.polynomials.specs.laws.Terms.{AllAt-map}
use Rattle.subalgebra_laws.specs.laws.Letters.{s_one, s_product}
use Rattle.subalgebra_laws.proofs.Nonzero.{AllAt-scaled, AllAt-times, multiple_nonzero, lead_negated, below_lead}
use Rattle.subalgebra_laws.proofs.Letters.{order_over, word_monic, letter_laws, are_letters, word_degree}
use Rattle.subalgebra_laws.proofs.Combinations.{have_top_words, top_leads, top_least, sum_poly, value_poly, combination_congruent, combination_same, combination_zero, combination_plus, combination_multiple, combination_word, combination_linear, sum_low, IsBefore, words_before}
use Rattle.subalgebra_laws.proofs.Decisions.{words_decided, minimal_divisor}
use Rattle.subalgebra_laws.proofs.Generated.{generated_images}

module _ {E : Type 0} (P : Presented E) (H : IsPresentation P) (S : List (Polynomial E)) (HS : AreMonicElements P S) where
  open P use {field as K, order as O}
  open H use {field as F, order as L}

  -- a standard lead of a combination is the image of one of its words, so it is generated
  pub lead_generated : CombinationsHaveGeneratedLeads P S
  lead_generated a m ha f la st = ⊎_elim none (λ r. by_top r.0 r.1) (have_top_words P H S HS f.sum f.irreducible)
    where
      only_lead : ((n : List ℕ) → coefficient K (negated K (value K f.sum (letter_values P S))) n ≢ K.zero → O.compare n m ≡ Less) → ⊥
      only_lead below = st.no_lead (record {
        member = minus K a (value K f.sum (letter_values P S));
        poly = minus_poly K F O.places a (value K f.sum (letter_values P S)) ha (sum_poly P H S HS f.sum f.irreducible);
        inside = f.equal;
        leads = lead_sum K F O L a (negated K (value K f.sum (letter_values P S))) m la below;
      })

      none : f.sum ≡ [] → IsGenerated (map lead_monomial S) m
      none e = absurd (only_lead (λ n k. absurd (k (ap (λ x. coefficient K (negated K (value K x (letter_values P S))) n) e ∙ sym (nothing_at K n)))))

      by_top : (w : List ℕ) → IsTopWord P S f.sum w → IsGenerated (map lead_monomial S) m
      by_top w t =
          ⊎_elim (λ lt. absurd (top_least P H S HS f.sum w f.irreducible t a m ha f.equal la lt))
          (λ r. ⊎_elim (λ same. generated_images P H S HS m w (f.irreducible.words w t.nonzero) (sym same))
          (λ gt. absurd (only_lead (below_lead K F O L (negated K (value K f.sum (letter_values P S))) (image_of (letters P S) w) m
          (lead_negated K F O L (value K f.sum (letter_values P S)) (image_of (letters P S) w) (top_leads P H S HS f.sum w f.irreducible t).0) gt))) r)
          (three_ways O L m (image_of (letters P S) w))

  module _ (c : ℕ) (dec : IsDecidedTo P c) (comb : HasCombinationsTo P c S) where
    -- a product of the cofactor with a word before the factor comes before the whole word
    module _ (w u v : List ℕ) (whole : product u v ≡ w) (hw : IsWithin (order_over P S) (letter_laws P H S HS) c w) (hu : IsWord (letters P S) u) (hv : IsWord (letters P S) v) where
      before_within : (x : List ℕ) → IsWord (letters P S) x → IsBefore P H S HS x u → IsWithin (order_over P S) (letter_laws P H S HS) c (product v x)
      before_within x hx b = record {
        monomial = IsMonomial-product (order_over P S).places v x hv hx;
        degree =
            let dx : O.degree (image_of (letters P S) x) ≤ O.degree (image_of (letters P S) u) = ⊎_elim (λ lt. degree_falls O L (image_of (letters P S) x) (image_of (letters P S) u) lt) (λ s. let e : O.degree (image_of (letters P S) x) ≡ O.degree (image_of (letters P S) u) = ap O.degree s.0 in omega arith) b in
            let gx = word_degree P H S HS x in
            let gu = word_degree P H S HS u in
            let p1 = (letter_laws P H S HS).degree_product v x in
            let p2 = (letter_laws P H S HS).degree_product u v in
            let p3 : (order_over P S).degree (product u v) ≡ (order_over P S).degree w = ap (order_over P S).degree whole in
            let d = hw.degree in
            omega arith;
      }

      before_product : (x : List ℕ) → IsWord (letters P S) x → IsBefore P H S HS x u → IsBefore P H S HS (product v x) w
      before_product x hx b =
          let times_v = image_times (letters P S) (are_letters P H S HS) v in
          let turned : product v u ≡ w = product_comm v u ∙ whole in
          let trimmed : (y : List ℕ) → IsTrimmed (image_of (letters P S) y) = λ y. (word_monic P H S HS y).monomial.trimmed in
          ⊎_elim
          (λ lt. inl (ap (λ y. O.compare y (image_of (letters P S) w)) (times_v x) ∙ (ap (O.compare (product (image_of (letters P S) v) (image_of (letters P S) x))) (ap (image_of (letters P S)) (sym turned) ∙ times_v u) ∙ (L.kept (image_of (letters P S) v) (image_of (letters P S) x) (image_of (letters P S) u) (trimmed v) (trimmed x) (trimmed u) ∙ lt))))
          (λ s. inr (
            times_v x ∙ (ap (product (image_of (letters P S) v)) s.0 ∙ (sym (times_v u) ∙ ap (image_of (letters P S)) turned)),
            ap ((order_over P S).compare (product v x)) (sym turned) ∙ ((letter_laws P H S HS).kept v x u hv.trimmed hx.trimmed hu.trimmed ∙ s.1),
          ))
          b

    -- w is a combination, if all words before it are: it is irreducible, or a minimal reducible word divides it
    word_step : (w : List ℕ) → IsWithin (order_over P S) (letter_laws P H S HS) c w → IsSWord (letters P S) w →
        ((x : List ℕ) → IsWithin (order_over P S) (letter_laws P H S HS) c x → IsSWord (letters P S) x → IsBefore P H S HS x w → IsCombination P S (word_value P S x)) → IsCombination P S (word_value P S w)
    word_step w hw sw ih = ⊎_elim by_factor (λ n. combination_word P H S HS w sw n) (words_decided P H S HS c dec w hw.monomial hw.degree)
      where
        by_factor : IsReducibleWord P S w → IsCombination P S (word_value P S w)
        by_factor red =
            let m = minimal_divisor P H S HS c dec w hw.monomial hw.degree red in
            let k = cofactor m.0 w m.1.word.trimmed hw.monomial.trimmed m.2 in
            let su = s_divisor (letters P S) (are_letters P H S HS) m.0 w m.1.word sw m.2 in
            let du = divisor_degree (order_over P S) (letter_laws P H S HS) m.0 w m.1.word.trimmed hw.monomial.trimmed m.2 in
            let dw = hw.degree in
            let long = length-product_right m.0 k.0 in
            let same : length (product m.0 k.0) ≡ length w = ap length k.2 in
            let most = hw.monomial.within in
            let turned : product k.0 m.0 ≡ w = product_comm k.0 m.0 ∙ k.2 in
            let sv : IsSWord (letters P S) k.0 =
            s_divisor (letters P S) (are_letters P H S HS) k.0 w (record { trimmed = k.1; within = omega arith }) sw (subst (Divides k.0) turned (Divides-product k.0 m.0)) in
            let f = comb.words m.0 (m.1, su) (omega arith) in
            let moved = scaled K (term_of k.0 K.one) f.sum in
            combination_congruent P H S HS (value K moved (letter_values P S)) (word_value P S w)
            (congruent_trans K F O.places P.ideal (word_value P S w) (times K (word_value P S k.0) (word_value P S m.0)) (value K moved (letter_values P S))
            (congruent_same K F O.places P.ideal (word_value P S w) (times K (word_value P S k.0) (word_value P S m.0))
            (λ i. ap (λ x. coefficient K (word_value P S x) i) (sym turned) ∙ monomial_value-product K F k.0 m.0 (letter_values P S) i))
            (congruent_trans K F O.places P.ideal (times K (word_value P S k.0) (word_value P S m.0)) (times K (word_value P S k.0) (value K f.sum (letter_values P S))) (value K moved (letter_values P S))
            (congruent_times_left K F O.places P.ideal (word_value P S k.0) (word_value P S m.0) (value K f.sum (letter_values P S)) (word_monic P H S HS k.0).poly f.equal)
            (congruent_same K F O.places P.ideal (times K (word_value P S k.0) (value K f.sum (letter_values P S))) (value K moved (letter_values P S))
            (λ i. sym (value-scaled K F (term_of k.0 K.one) f.sum (letter_values P S) i ∙
            times_same_left K F (term_value K (letter_values P S) (term_of k.0 K.one)) (word_value P S k.0) (value K f.sum (letter_values P S)) (one_times K F (word_value P S k.0)) i)))))
            (combination_linear P H S HS (order_over P S).places (letter_values P S) moved
            (IsPoly-scaled K F (order_over P S).places (term_of k.0 K.one) f.sum (record { monomial = sv.0; value = F.one_value }) (IsDecreasing_IsPoly K (order_over P S) f.sum f.irreducible.decreasing))
            (AllAt-scaled K (λ x. IsCombination P S (word_value P S x)) (term_of k.0 K.one) f.sum
            (decreasing_all K F (order_over P S) (letter_laws P H S HS) (λ x. IsCombination P S (word_value P S (product k.0 x))) f.sum f.irreducible.decreasing
            (λ x n.
            let hx = f.irreducible.words x n in
            let b = words_before P H S HS m.0 m.1.word m.1.reducible f x n in
            ih (product k.0 x) (before_within w m.0 k.0 k.2 hw m.1.word sv.0 x hx.0 b) (s_product P S k.0 x sv hx) (before_product w m.0 k.0 k.2 hw m.1.word sv.0 x hx.0 b)))))

    -- the value of each s-word of degree at most c is a combination
    word_combination : (w : List ℕ) → IsWithin (order_over P S) (letter_laws P H S HS) c w → IsSWord (letters P S) w → IsCombination P S (word_value P S w)
    word_combination w hw sw =
        below_induction O L c (λ m. (x : List ℕ) → IsWithin (order_over P S) (letter_laws P H S HS) c x → IsSWord (letters P S) x → (image_of (letters P S)) x ≡ m → IsCombination P S (word_value P S x))
        (λ m hm outer x hx sx ex.
        below_induction (order_over P S) (letter_laws P H S HS) c (λ y. IsSWord (letters P S) y → (image_of (letters P S)) y ≡ m → IsCombination P S (word_value P S y))
        (λ y hy inner sy ey. word_step y hy sy (λ z hz sz b.
        ⊎_elim (λ lt. outer (image_of (letters P S) z) (image_within z hz) (subst (λ k. O.compare (image_of (letters P S) z) k ≡ Less) ey lt) z hz sz refl) (λ s. inner z hz s.1 sz (s.0 ∙ ey)) b))
        x hx sx ex)
        (image_of (letters P S) w) (image_within w hw) w hw sw refl
      where
        image_within : (x : List ℕ) → IsWithin (order_over P S) (letter_laws P H S HS) c x → IsWithin O L c (image_of (letters P S) x)
        image_within x hx = record { monomial = (word_monic P H S HS x).monomial; degree = let g = word_degree P H S HS x in let d = hx.degree in omega arith }

    -- a equals, modulo the ideal, the value of a sum of s-words of degree at most D
    abbrev IsLow : ℕ → List ℕ → Type 0
    IsLow D w = IsSWord (letters P S) w × ((order_over P S).degree w ≤ D)

    record IsReached (D : ℕ) (a : Polynomial E) : Type 0 where
      form : Polynomial E
      poly : IsPoly K (order_over P S).places form
      words : AllAt (IsLow D) form
      congruent : Congruent K O.places P.ideal a (value K form (letter_values P S))

    reached_one : IsReached 0 (constant K K.one)
    reached_one = record {
      form = constant K K.one;
      poly = constant_poly K F (order_over P S).places K.one F.one_value;
      words = ((s_one P S, (let d = degree_one (order_over P S) (letter_laws P H S HS) in omega arith)), tt);
      congruent = congruent_same K F O.places P.ideal (constant K K.one) (value K (constant K K.one) (letter_values P S)) (λ m. sym (value-constant K F K.one (letter_values P S) m));
    }

    reached_times : (D G : ℕ) (a b : Polynomial E) → IsPoly K O.places a → IsReached D a → IsReached G b → IsReached (D + G) (times K a b)
    reached_times D G a b ha h k = record {
      form = times K h.form k.form;
      poly = IsPoly-times K F (order_over P S).places h.form k.form h.poly k.poly;
      words = AllAt-times K (IsLow D) (IsLow G) (IsLow (D + G))
          (λ u v hu hv. (s_product P S u v hu.0 hv.0, (let p = (letter_laws P H S HS).degree_product u v in let x = hu.1 in let y = hv.1 in omega arith))) h.form k.form h.words k.words;
      congruent = congruent_trans K F O.places P.ideal (times K a b) (times K (value K h.form (letter_values P S)) (value K k.form (letter_values P S))) (value K (times K h.form k.form) (letter_values P S))
          (congruent_times K F O.places P.ideal a (value K h.form (letter_values P S)) b (value K k.form (letter_values P S)) ha (value_poly P H S HS k.form k.poly) h.congruent k.congruent)
          (congruent_same K F O.places P.ideal (times K (value K h.form (letter_values P S)) (value K k.form (letter_values P S))) (value K (times K h.form k.form) (letter_values P S)) (λ m. sym (value-times K F h.form k.form (letter_values P S) m)));
    }

    reached_power : (d : ℕ) (f : Polynomial E) (e : ℕ) → IsPoly K O.places f → (1 ≤ e → IsReached d f) → IsReached (d * e) (power K f e)
    reached_power d f zero hf h = subst (λ x. IsReached x (constant K K.one)) (let z : 0 ≡ d * 0 = omega arith in z) reached_one
    reached_power d f (suc e) hf h =
        subst (λ x. IsReached x (times K f (power K f e))) (let z : d + d * e ≡ d * suc e = omega arith in z)
        (reached_times d (d * e) f (power K f e) hf (h (omega arith)) (reached_power d f e hf (λ n. h (omega arith))))

    -- what is reached in degree at most c is a combination, and a graded combination is reached
    reached_combination : (D : ℕ) (a : Polynomial E) → D ≤ c → IsReached D a → IsCombination P S a
    reached_combination D a le h = combination_congruent P H S HS (value K h.form (letter_values P S)) a h.congruent (combination_linear P H S HS (order_over P S).places (letter_values P S) h.form h.poly
        (AllAt-map (IsLow D) (λ w. IsCombination P S (word_value P S w)) (λ w x. word_combination w (record { monomial = x.0.0; degree = let d = x.1 in omega arith }) x.0) h.form h.words))

    combination_reached : (d : ℕ) (f : Polynomial E) → IsPoly K O.places f → IsGraded K F O L d f → IsCombination P S f → IsReached d f
    combination_reached d f hf gf h = record {
      form = h.sum;
      poly = IsDecreasing_IsPoly K (order_over P S) h.sum h.irreducible.decreasing;
      words = decreasing_all K F (order_over P S) (letter_laws P H S HS) (IsLow d) h.sum h.irreducible.decreasing (λ w k. (h.irreducible.words w k, sum_low P H S HS d f hf (λ m n. let e = gf m n in omega arith) h w k));
      congruent = h.equal;
    }

    -- generators with their degrees, 1 for a zero one: those of degree at most c are combinations
    abbrev AreCombinations : List ℕ → List (Polynomial E) → Type 0
    AreCombinations ds [] = Unit {0}
    AreCombinations [] (f ∷ gs) = ⊥
    AreCombinations (d ∷ ds) (f ∷ gs) = (d ≤ c → IsCombination P S f) × AreCombinations ds gs

    abbrev HasDegrees : List (Polynomial E) → Type 0
    HasDegrees gs = (ds : List ℕ) × (length ds ≡ length gs) × AreGraded K F O L ds gs × AreCombinations ds gs

    degrees : (gs : List (Polynomial E)) → AreGenerators K O gs → ((g : Polynomial E) → Contains gs g → Contains P.generators g) → HasDegrees gs
    degrees [] h all = ([], refl, tt, tt)
    degrees (g ∷ gs) h all = more (degrees gs h.1 (λ x k. all x (contains_there g gs x k)))
      where
        more : HasDegrees gs → HasDegrees (g ∷ gs)
        more rest = let l = rest.1 in ⊎_elim
            (λ z. (1 ∷ rest.0, omega arith, (h.0.poly, (λ m k. absurd (k (z m))), rest.2), ((λ le. combination_same P H S HS [] g (λ m. z m ∙ nothing_at K m) (combination_zero P H S HS)), rest.3)))
            (λ k. (k.0 ∷ rest.0, omega arith, (h.0.poly, k.2.each, rest.2), ((λ le. comb.generators g k.0 (all g (contains_here g gs)) k.2 le), rest.3)))
            h.0.homogeneous

    product_reached : (m ds : List ℕ) (gs : List (Polynomial E)) → length ds ≡ length gs → AreGraded K F O L ds gs → AreCombinations ds gs → weighted_degree ds m ≤ c →
        IsReached (weighted_degree ds m) (monomial_value K m gs)
    product_reached [] [] gs l g h le = reached_one
    product_reached [] (d ∷ ds) gs l g h le = reached_one
    product_reached (e ∷ m) [] [] l g h le = reached_one
    product_reached (e ∷ m) [] (f ∷ gs) l g h le = absurd g
    product_reached (e ∷ m) (d ∷ ds) [] l g h le = absurd (omega arith)
    product_reached (e ∷ m) (d ∷ ds) (f ∷ gs) l g h le =
        reached_times (d * e) (weighted_degree ds m) (power K f e) (monomial_value K m gs) (IsPoly-power K F O.places f e g.0)
        (reached_power d f e g.0 (λ n. combination_reached d f g.0 g.1 (h.0 (let part = mul-le-mul_left d n in omega arith)))) (product_reached m ds gs (omega arith) g.2 h.1 (omega arith))

    -- the component of a value is a combination
    module _ (gs : List (Polynomial E)) (D : HasDegrees gs) (k d : ℕ) (low : d ≤ c) where
      term_graded : (t : Term E) → IsGraded K F O L (weighted_degree D.0 t.at) (term_value K gs t)
      term_graded t m n = graded_value K F O L t.at D.0 gs D.1 D.2 m (multiple_nonzero K F t.by (monomial_value K t.at gs) m n)

      term_poly : (t : Term E) → IsTerm K k t → IsPoly K O.places (term_value K gs t)
      term_poly t h = IsPoly-times K F O.places (constant K t.by) (monomial_value K t.at gs) (constant_poly K F O.places t.by h.value) (IsPoly-monomial_value K F O.places t.at gs (polys_graded K F O L D.0 gs D.2))

      part_combination : (h : Polynomial E) → IsPoly K k h → IsCombination P S (component O d (value K h gs))
      part_combination [] hp = combination_zero P H S HS
      part_combination (t ∷ h) hp =
          subst (IsCombination P S) (sym (component-append O d (term_value K gs t) (value K h gs)))
          (combination_plus P H S HS (component O d (term_value K gs t)) (component O d (value K h gs)) (by_test (nat_eq (weighted_degree D.0 t.at) d) refl) (part_combination h hp.1))
        where
          by_test : (b : Bool) → nat_eq (weighted_degree D.0 t.at) d ≡ b → IsCombination P S (component O d (term_value K gs t))
          by_test true e =
              let same : weighted_degree D.0 t.at ≡ d = eqb-true (weighted_degree D.0 t.at) d e in
              combination_same P H S HS (term_value K gs t) (component O d (term_value K gs t)) (graded_component K F O L d (term_value K gs t) (term_poly t hp.0) (λ m n. term_graded t m n ∙ same))
              (combination_multiple P H S HS t.by (monomial_value K t.at gs) hp.0.value
              (reached_combination (weighted_degree D.0 t.at) (monomial_value K t.at gs) (omega arith) (product_reached t.at D.0 gs D.1 D.2 D.3 (omega arith))))
          by_test false e = combination_same P H S HS [] (component O d (term_value K gs t))
              (graded_no_component K F O L d (weighted_degree D.0 t.at) (term_value K gs t) (term_poly t hp.0) (term_graded t) (λ s. true≢false (sym (eq-eqb (weighted_degree D.0 t.at) d s) ∙ e)))
              (combination_zero P H S HS)

    pub criterion : MembersAreCombinations P S c
    criterion a d ha hh le hs =
        let v = value K hs.witness P.generators in
        combination_same P H S HS (component O d a) a (λ m. sym (graded_component K F O L d a ha hh.each m))
        (combination_congruent P H S HS (component O d v) (component O d a)
        (subst (InIdeal K O.places P.ideal) (component-minus K O d a v) (ideal_component K F O L P.ideal H.ideal d (minus K a v) hs.inside))
        (part_combination P.generators (degrees P.generators H.generators (λ x k. k)) (length P.generators) d le hs.witness hs.poly))

    -- so each lead of the subalgebra of degree at most c is a product of leads of S
    pub leads_generated : LeadsAreGenerated P S c
    leads_generated m h le =
        let a = component O (O.degree m) h.member in
        let ha = IsPoly-component K O.places O (O.degree m) h.member h.poly in
        let l = component_leads K F O L h.member m h.leads in
        lead_generated a m ha (criterion a (O.degree m) ha l.1 le (sub_component P H (O.degree m) h.member h.inside)) l.0 h.standard
